-- The laws of the file's reading, step by step, that the functions' proofs cite.
use Rattle.std.specs.Prelude.{◌+◌, ◌-◌, ◌≤◌, ◌<◌, ◌≡◌, ◌∷◌, Ok, Err, Result}
use Rattle.wire.proofs.Kit.{ℕ, zero, suc, refl, ap, ◌∙◌, List, [], arith, length}
use Rattle.wire.specs.declared.cursor.Cursor.{Cursor}
use Rattle.wire.specs.Field.{tag_at, text_at, past_tag, text_to}
use Rattle.wire.specs.Limit as limit
use Rattle.wire.proofs.Laws.{tag_next}
use Rattle.image.specs.Due.{stop}
use Rattle.image.proofs.Laws.{based_zero}
use Rattle.amf0.specs.Reading.{top_value, value_in}
use Rattle.amf0.proofs.Laws.{part_read}
use Rattle.lso.specs.Reading.{zeros_at, keyed_at, element_at}
use Rattle.wire.specs.Answer.{denied, Verdict}

-- ---- zeros

-- behind the first the others are left
pub zeros_next : (s : List ℕ) (n i at : ℕ) {c : Cursor} → i < n → tag_at (0 ∷ []) s at ≡ Ok c → zeros_at (n - i) s at ≡ zeros_at (n - (i + 1)) s c.at
unfolding zeros_at
zeros_next s n i at h e = let k : n - i ≡ suc (n - (i + 1)) = omega arith in rw (k, e)

-- The zeros stand there, and the cursor stands behind them.
pub record Cleared (n : ℕ) (s : List ℕ) (at : ℕ) (c : Cursor) : Type 0 where
  pub next : c.at ≡ at + n
  pub within : at ≤ length s → at + n ≤ length s

pub zeros_past : (n : ℕ) (s : List ℕ) (at : ℕ) (c : Cursor) → zeros_at n s at ≡ Ok c → Cleared n s at c
unfolding zeros_at
zeros_past zero s at c e =
    let f : c.at ≡ at = ap (λ (d : Cursor). d.at) (cc) in
    record { next = omega arith; within = λ h. omega arith }
zeros_past (suc n) s at c e = go (λ p. zeros_past n s p c) (tag_at (0 ∷ []) s at) refl e
  where
    go : ((p : ℕ) → zeros_at n s p ≡ Ok c → Cleared n s p c) → (t : Result Cursor Verdict) → tag_at (0 ∷ []) s at ≡ t → past_tag denied t (λ p. zeros_at n s p) ≡ Ok c → Cleared (suc n) s at c
    go ih (Ok d) f g =
        let r = tag_next s at (0 ∷ []) d f in
        let z = ih d.at g in
        record { next = omega arith; within = λ h. let w = z.within (omega arith) in omega arith }
    go ih (Err r) f g = let z : ◌≡◌ {A = ℕ} 0 1 = cc in absurd (omega arith)

-- ---- an element

module _ (s : List ℕ) (at : ℕ) where
  pub element_cut : {a p : ℕ} → text_at 2 s at ≡ denied a p → element_at s at ≡ stop a p
  unfolding element_at
  element_cut e = rw e

  pub element_key : {p n : ℕ} {c : Cursor} → text_at 2 s at ≡ text_to p n c
      → element_at s at ≡ keyed_at s at p n c.at
  unfolding element_at
  element_key e = rw e

-- the value in it is that of the whole input
pub value_whole : (s : List ℕ) (at : ℕ) → length s ≤ limit.bytes → at ≤ length s → value_in 0 s at ≡ top_value s at
value_whole s at h l = part_read 0 s at (omega arith) (omega arith) ∙ based_zero (top_value s at)
