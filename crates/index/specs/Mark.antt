-- A mark of the index in thirteen bytes.
use Rattle.std.specs.Prelude.{ℕ, zero, suc, ◌+◌, ◌^◌, ◌<◌, List, [], ◌∷◌, ◌++◌}
use Rattle.wire.specs.Number.{digits, number}
use Rattle.wire.specs.Field.{bytes_at}
use Rattle.index.specs.declared.mark.Mark.{Mark}

abbrev pub mark : ℕ → ℕ → ℕ → ℕ → Mark
mark d c k v = record { depth = d; container = c; key = k; value = v }

unfoldable pub mark_at : List ℕ → ℕ → Mark
mark_at s at =
    mark (number (bytes_at 1 s at)) (number (bytes_at 4 s (at + 1))) (number (bytes_at 4 s (at + 5))) (number (bytes_at 4 s (at + 9)))

abbrev pub mark_bytes : Mark → List ℕ
mark_bytes m = m.depth ∷ digits 4 m.container ++ (digits 4 m.key ++ digits 4 m.value)

-- the bytes of marks in a row
abbrev pub flat : List Mark → List ℕ
flat [] = []
flat (m ∷ ms) = mark_bytes m ++ flat ms

-- n marks from a place on
unfoldable pub rows_at : ℕ → ℕ → List ℕ → List Mark
rows_at zero at s = []
rows_at (suc n) at s = mark_at s at ∷ rows_at n (at + 13) s

abbrev pub rows : ℕ → List ℕ → List Mark
rows n s = rows_at n 0 s

-- no mark: what is looked at past a row's end
abbrev pub nothing : Mark
nothing = mark 0 0 0 0

-- the numbers have room in their bytes
pub record Small (m : Mark) : Type 0 where
  pub depth : m.depth < 256
  pub container : m.container < 256 ^ 4
  pub key : m.key < 256 ^ 4
  pub value : m.value < 256 ^ 4
