-- What is still to come where values follow: the laws of the loop over them.
use Rattle.std.specs.Prelude.{◌+◌, ◌-◌, ◌≤◌, ◌<◌, ◌≡◌, None}
use Rattle.wire.proofs.Kit.{ℕ, zero, suc, refl, List, Bool, true, false, arith, length, lt-leb}
use Rattle.wire.specs.Field.{u8_at}
use Rattle.image.specs.Taking.{record_at}
use Rattle.image.specs.Out.{Out, end, ◌>>=◌}
use Rattle.amf0.specs.declared.write.Rest.{Rest}
use Rattle.amf0.specs.declared.write.Rest.TheVariants.{Nothing, Pairs, Dense, Values}
use Rattle.amf0.specs.Writing.{value_at, items, pairs, dense, rest}
use Rattle.amf0.specs.Code.{keyed, due_at, owed}
use Rattle.amf0.proofs.Putting.{pairs_keyed, dense_pairs, rest_nothing, rest_pairs, rest_dense, rest_values}

-- there is no record behind the image
record_past : (image : List ℕ) (at : ℕ) → length image ≤ at → record_at image at ≡ None
unfolding record_at u8_at
record_past image at h = rw (lt-leb (at + 1) (length image) (omega arith))

module _ (inner : ℕ → Out) (image text : List ℕ) where
  -- what is still to come from a place on, so many values being behind, with fuel for what is left of the image
  abbrev pub coming : Rest → ℕ → ℕ → ℕ → Out
  coming Nothing f k at = end at
  coming Pairs f k at = pairs inner image text f at
  coming Dense f k at = dense inner image text f k at
  coming (Values n) f k at = items inner image text n at

  -- the fuel is enough
  abbrev pub Enough : Rest → ℕ → ℕ → Type 0
  Enough Nothing f at = length image ≤ f + at
  Enough Pairs f at = length image ≤ f + at
  Enough Dense f at = length image < f + at
  Enough (Values n) f at = length image ≤ f + at

  -- the same, with its fuel
  pub record Coming (d : Out) (due : Rest) (k at : ℕ) : Type 0 where
    pub fuel : ℕ
    pub enough : Enough due fuel at
    pub same : d ≡ coming due fuel k at

  pub coming_first : (due : Rest) (at : ℕ) → Coming (rest inner image text due at) due 0 at
  coming_first Nothing at = record { fuel = length image; enough = omega arith; same = rest_nothing inner image text at }
  coming_first Pairs at = record { fuel = length image; enough = omega arith; same = rest_pairs inner image text at }
  coming_first Dense at = record { fuel = suc (length image); enough = omega arith; same = rest_dense inner image text at }
  coming_first (Values n) at = record { fuel = length image; enough = omega arith; same = rest_values inner image text n at }

  -- where no value's record begins, pairs come
  pub coming_due : (v : Bool) (due : Rest) (f k at : ℕ) → value_at image at ≡ v → at ≤ length image → Enough due f at
      → Coming (coming due f k at) (due_at v due) k at
  coming_due v Nothing f k at e h n = record { fuel = f; enough = n; same = refl }
  coming_due v Pairs f k at e h n = record { fuel = f; enough = n; same = refl }
  coming_due true Dense f k at e h n = record { fuel = f; enough = n; same = refl }
  coming_due false Dense f k at e h n =
      record { fuel = length image; enough = omega arith; same = dense_pairs image text at inner f k (omega arith) e }
  coming_due v (Values m) f k at e h n = record { fuel = f; enough = n; same = refl }

  -- pairs, whatever fuel is enough
  pub pairs_coming : (f at : ℕ) → length image ≤ f + at
      → pairs inner image text f at ≡ keyed (record_at image at) text at (λ q. inner q >>= pairs inner image text (f - 1))
  unfolding pairs
  pairs_coming zero at h = rw (record_past image at (omega arith))
  pairs_coming (suc f) at h = pairs_keyed image text at inner (suc f) (omega arith)

-- values without a key are still due only where a value's record begins
pub due_dense : (v : Bool) (due : Rest) → due_at v due ≡ Dense → v ≡ true
due_dense true due e = refl
due_dense false Nothing e = let z : ◌≡◌ {A = ℕ} 0 1 = cc in absurd (omega arith)
due_dense false Pairs e = let z : ◌≡◌ {A = ℕ} 0 1 = cc in absurd (omega arith)
due_dense false Dense e = let z : ◌≡◌ {A = ℕ} 0 1 = cc in absurd (omega arith)
due_dense false (Values n) e = let z : ◌≡◌ {A = ℕ} 0 1 = cc in absurd (omega arith)

-- which of them is due changes no number
pub owed_due : (v : Bool) (due : Rest) → owed (due_at v due) ≡ owed due
owed_due v Nothing = refl
owed_due v Pairs = refl
owed_due true Dense = refl
owed_due false Dense = refl
owed_due v (Values n) = refl
