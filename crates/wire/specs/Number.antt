-- Numbers in bytes, the highest first, over the width.
use Rattle.std.specs.Prelude.{ℕ, zero, suc, ◌+◌, ◌*◌, ◌/◌, ◌%◌, ◌^◌, ◌<◌, List, [], ◌∷◌, length, leb}
use Rattle.std.proofs.lemmas.List.Edits.{sets}
use Rattle.wire.specs.Choice.{pick}

-- n in w bytes
abbrev pub digits : ℕ → ℕ → List ℕ
digits zero n = []
digits (suc w) n = n / 256 ^ w % 256 ∷ digits w n

-- the number that a row of bytes gives
abbrev pub number : List ℕ → ℕ
number [] = 0
number (b ∷ r) = b * 256 ^ length r + number r

-- a row of bytes
abbrev pub Bytes : List ℕ → Type 0
Bytes [] = Unit {0}
Bytes (b ∷ r) = (b < 256) × Bytes r

-- the low w bytes of n stored from a place on, where they have room there
abbrev pub stored : ℕ → ℕ → ℕ → List ℕ → List ℕ
stored w n at out = pick (leb (at + w) (length out)) (sets out at (digits w n)) out
