-- Two texts, byte by byte.
use Rattle.std.specs.Prelude.{◌≡◌, ◌∷◌, ◌&&◌}
use Rattle.std.specs.Cmp.Lexicographic.{pointwise}
use Rattle.wire.proofs.Kit.{ℕ, refl, List, [], Bool, true, false, eqb}
use Rattle.wire.specs.Choice.{pick}
use Rattle.to_json.specs.Words.{is_same}

pick_and : (b c : Bool) → pick b c false ≡ (b && c)
pick_and true c = refl
pick_and false c = refl

pub same_pointwise : (a b : List ℕ) → is_same a b ≡ pointwise eqb a b
unfolding is_same
same_pointwise [] [] = refl
same_pointwise [] (y ∷ b) = refl
same_pointwise (x ∷ a) [] = refl
same_pointwise (x ∷ a) (y ∷ b) = rw (same_pointwise a b) (pick_and (eqb x y) (pointwise eqb a b))
