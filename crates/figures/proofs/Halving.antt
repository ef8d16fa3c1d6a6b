-- Laws of the words and of halving.
use Rattle.std.specs.Prelude.{◌+◌, ◌-◌, ◌*◌, ◌/◌, ◌%◌, ◌^◌, ◌≤◌, ◌<◌, ◌≡◌}
use Rattle.std.specs.Prelude.{Option, Some, None}
use Rattle.wire.proofs.Kit.{ℕ, zero, suc, pow-suc, sub-one, arith, eqb, ne_eqb, eqb-false}
use native.Mathlib.Nat.{mul-le-mul, mul_assoc}
use Rattle.wire.specs.Choice.{pick}
use Rattle.std.proofs.lemmas.Option.{none-some}
use Rattle.wire.proofs.Laws.{picked}
use Rattle.figures.specs.Double.{halved_of}

-- a word times a small number
pub product : (w b : ℕ) → w < 4294967296 → b ≤ 65536 → w * b ≤ 281474976645120
product w b h k = mul-le-mul {n₂ = 4294967295} {m₂ = 65536} (omega arith) k

-- one halving
pub halved_once : (n k : ℕ) → 0 < k → halved_of n k ≡ pick (eqb (n % 2) 1) None (halved_of (n / 2) (k - 1))
halved_once n zero h = absurd (omega arith)
halved_once n (suc k) h = rw (sub-one (suc k))

pub halved_even : (n k i : ℕ) → i < k → (n % 2 ≡ 1 → ⊥) → halved_of n (k - i) ≡ halved_of (n / 2) (k - (i + 1))
halved_even n k i h e =
    let less : k - i - 1 ≡ k - (i + 1) = omega arith in
    rw (halved_once n (k - i) (omega arith), ne_eqb (n % 2) 1 e, less)

-- a number that was halved so often is so often doubled what is left
twice : (n m p : ℕ) → (n % 2 ≡ 1 → ⊥) → n / 2 ≡ m * p → n ≡ m * p * 2
twice n m p h e = omega arith

pub halved_back : (n k m : ℕ) → halved_of n k ≡ Some m → n ≡ m * 2 ^ k
halved_back n zero m = λ e. let s : n ≡ m = cc in omega arith
halved_back n (suc k) m =
    picked (λ (x : Option ℕ). x ≡ Some m → n ≡ m * 2 ^ suc k) (eqb (n % 2) 1) _ _
    (λ t e. absurd (none-some m e))
    (λ t e. rw (pow-suc, ← mul_assoc) (twice n m (2 ^ k) (eqb-false (n % 2) 1 t) (halved_back (n / 2) k m e)))
