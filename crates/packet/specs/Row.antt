-- The entries of a packet as numbers.
use Rattle.std.specs.Prelude.{ℕ, List, [], ◌∷◌, ◌++◌}
use Rattle.image.specs.Whole.{padded}
use Rattle.packet.specs.declared.head.Entry.{Entry}

abbrev pub entry_numbers : Entry → List ℕ
entry_numbers e = e.kind ∷ e.flag ∷ e.place1 ∷ e.length1 ∷ e.place2 ∷ e.length2 ∷ e.place ∷ e.length ∷ []

-- entries in a row
unfoldable pub numbers_of : List Entry → List ℕ
numbers_of [] = []
numbers_of (e ∷ es) = entry_numbers e ++ numbers_of es

-- a row of so many numbers: the entries', and zeros to its end
abbrev pub row_of : List Entry → ℕ → List ℕ
row_of es n = padded (numbers_of es) n
