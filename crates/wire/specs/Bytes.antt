-- Rows of bytes laid into a buffer.
use Rattle.std.specs.Prelude.{ℕ, zero, suc, ◌+◌, ◌/◌, ◌%◌, List, [], ◌∷◌, ◌++◌, length, leb, ltb}
use Rattle.std.proofs.lemmas.List.Edits.{sets}
use Rattle.wire.specs.Choice.{pick}

-- a row of bytes laid from a place on, where it has room there
abbrev pub laid : List ℕ → ℕ → List ℕ → List ℕ
laid b at out = pick (leb (at + length b) (length out)) (sets out at b) out

-- n in decimal digits, in at most so many places
abbrev pub places : ℕ → ℕ → List ℕ
places zero n = []
places (suc w) n = pick (ltb n 10) ((0x30 + n) ∷ []) (places w (n / 10) ++ ((0x30 + n % 10) ∷ []))

-- n in decimal, in ASCII
abbrev pub decimal : ℕ → List ℕ
decimal n = places (suc n) n
