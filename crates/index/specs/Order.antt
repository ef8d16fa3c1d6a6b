-- The order of the marks: by container, then by the key's bytes, a prefix first, then by the key's place.
use Rattle.std.specs.Prelude.{ℕ, suc, List, [], ◌∷◌, ◌++◌, map, Bool, true, false, ltb}
use Rattle.std.specs.declared.cmp.Ordering.{Ordering}
use Rattle.std.specs.declared.cmp.Ordering.TheVariants.{Less, Equal, Greater}
use Rattle.wire.specs.Choice.{pick}
use Rattle.wire.specs.Text.{part_of}
use Rattle.index.specs.declared.mark.Mark.{Mark}
use Rattle.index.specs.declared.walk.Role.{Role}
use Rattle.index.specs.Keys.{role_at}

-- two texts, a prefix first
unfoldable pub order_of : List ℕ → List ℕ → Ordering
order_of [] [] = Equal
order_of [] (y ∷ ys) = Less
order_of (x ∷ xs) [] = Greater
order_of (x ∷ xs) (y ∷ ys) = pick (ltb x y) Less (pick (ltb y x) Greater (order_of xs ys))

abbrev pub text_by : List ℕ → Role → List ℕ
text_by text (Role.Key p n) = part_of text p n
text_by text (Role.Value p n f) = []
text_by text (Role.File p n) = []
text_by text Role.End = []
text_by text Role.Other = []

-- the text of the key whose record stands at a place; the empty one where none does, or where its text is not inside
unfoldable pub key_of : List ℕ → List ℕ → ℕ → List ℕ
key_of image text at = text_by text (role_at image at)

-- rows of numbers, compared from the front
unfoldable pub lower : List ℕ → List ℕ → Bool
lower [] [] = false
lower [] (y ∷ ys) = true
lower (x ∷ xs) [] = false
lower (x ∷ xs) (y ∷ ys) = pick (ltb x y) true (pick (ltb y x) false (lower xs ys))

-- What a mark is ordered by. The 0 ends the key's bytes, which count from 1 here. No two keys stand at one place: value and depth only make the order one of all
-- marks, those of no image too.
unfoldable pub rank : List ℕ → List ℕ → Mark → List ℕ
rank image text m = m.container ∷ (map suc (key_of image text m.key) ++ (0 ∷ m.key ∷ m.value ∷ m.depth ∷ []))

unfoldable pub before : List ℕ → List ℕ → Mark → Mark → Bool
before image text a b = lower (rank image text a) (rank image text b)
