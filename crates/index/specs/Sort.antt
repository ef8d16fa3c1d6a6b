-- A row in order.
use Rattle.std.specs.Prelude.{ℕ, ◌+◌, ◌<◌, ◌≡◌, List, [], ◌∷◌, Bool, false, length, get_or}
use Rattle.index.specs.declared.mark.Mark.{Mark}
use Rattle.index.specs.Mark.{nothing}

-- the same marks, each as often, in another order
pub data Shuffled : List Mark → List Mark → Type 0 where
  none : Shuffled [] []
  keep : {m : Mark} {xs ys : List Mark} → Shuffled xs ys → Shuffled (m ∷ xs) (m ∷ ys)
  swap : {m n : Mark} {xs : List Mark} → Shuffled (m ∷ n ∷ xs) (n ∷ m ∷ xs)
  then : {xs ys zs : List Mark} → Shuffled xs ys → Shuffled ys zs → Shuffled xs zs

module _ (before : Mark → Mark → Bool) where
  -- of those below number i none comes before the one that it stands behind
  abbrev pub Rising : ℕ → List Mark → Type 0
  Rising i xs = (k : ℕ) → k + 1 < i → before (get_or xs (k + 1) nothing) (get_or xs k nothing) ≡ false

  pub record Sorted (keys row : List Mark) : Type 0 where
    pub same : Shuffled keys row
    pub rising : Rising (length row) row
