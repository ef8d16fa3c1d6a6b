-- The text that a place and a length name: inside where the place and the length end within the input.
use Rattle.std.specs.Prelude.{ℕ, ◌+◌, List, [], Bool, length, take, drop, leb}
use Rattle.wire.specs.Choice.{pick}

abbrev pub inside_of : List ℕ → ℕ → ℕ → Bool
inside_of s place n = leb (place + n) (length s)

-- the named part; the empty one where it is not inside
abbrev pub part_of : List ℕ → ℕ → ℕ → List ℕ
part_of s place n = pick (inside_of s place n) (take n (drop place s)) []

-- the place at which it begins: the front where it is not inside
abbrev pub place_of : List ℕ → ℕ → ℕ → ℕ
place_of s place n = pick (inside_of s place n) place 0

-- an address so many bytes further on in its piece of memory
abbrev pub further : ℕ → ℕ × ℕ → ℕ × ℕ
further n a = (a.0, n + a.1)
