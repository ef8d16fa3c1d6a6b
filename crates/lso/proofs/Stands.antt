-- Fixed bytes and rows of zeros against the bytes that stand in the input: a field of them has two ends.
use Rattle.std.specs.Prelude.{◌+◌, ◌≤◌, ◌≡◌, ◌⊎◌, ◌∷◌, Ok, Err, Result}
use Rattle.wire.proofs.Kit.{ℕ, zero, suc, refl, List, [], arith, length, drop, replicate}
use Rattle.wire.specs.Field.{tag_at, past_tag}
use Rattle.wire.proofs.Laws.{tag_next, tag_stop}
use Rattle.wire.proofs.Stands.{Here, join, tag_ends}
use Rattle.lso.specs.Reading.{zeros_at}
use Rattle.wire.specs.Answer.{denied, Verdict}
use Rattle.wire.specs.declared.cursor.Cursor.{Cursor}

-- the answers of a field
abbrev pub Either : ℕ → Type 0
Either a = (a ≡ 2) ⊎ (a ≡ 3)

module _ {A : Type 0} (P : A → Type 0) (stop : ℕ → ℕ → A) (s : List ℕ) where
  pub go_tag : (at : ℕ) (fixed : List ℕ) (k : ℕ → A) → at ≤ length s
      → (Here s at fixed (drop (at + length fixed) s) → at + length fixed ≤ length s → P (k (at + length fixed)))
      → ((a p : ℕ) → Either a → P (stop a p)) → P (past_tag stop (tag_at fixed s at) k)
  go_tag at fixed k l is halts = go (tag_at fixed s at) refl
    where
      go : (t : Result Cursor Verdict) → tag_at fixed s at ≡ t → P (past_tag stop t k)
      go (Ok c) e = let r = tag_next s at fixed c e in rw r.next (is (tag_ends fixed s at c e) r.within)
      go (Err r) e = halts r.answer r.place (tag_stop s at fixed r.answer r.place e l).answer

  zeros_then : (n at : ℕ) (k : ℕ → A)
      → past_tag stop (zeros_at (suc n) s at) k ≡ past_tag stop (tag_at (0 ∷ []) s at) λ p. past_tag stop (zeros_at n s p) k
  unfolding zeros_at
  zeros_then n at k = go (tag_at (0 ∷ []) s at)
    where
      go : (t : Result Cursor Verdict) → past_tag stop (past_tag denied t λ p. zeros_at n s p) k ≡ past_tag stop t λ p. past_tag stop (zeros_at n s p) k
      go (Ok c) = refl
      go (Err r) = refl

  pub go_zeros : (n at : ℕ) (k : ℕ → A) → at ≤ length s
      → ((q : ℕ) → q ≡ at + n → Here s at (replicate n 0) (drop q s) → q ≤ length s → P (k q))
      → ((a p : ℕ) → Either a → P (stop a p)) → P (past_tag stop (zeros_at n s at) k)
  unfolding zeros_at
  go_zeros zero at k l is halts = is at (omega arith) (record { same = refl }) l
  go_zeros (suc n) at k l is halts =
      rw (zeros_then n at k)
      (go_tag at (0 ∷ []) (λ p. past_tag stop (zeros_at n s p) k) l
      (λ h i. go_zeros n (at + 1) k i (λ q e g j. is q (omega arith) (join h refl g) j) halts) halts)
