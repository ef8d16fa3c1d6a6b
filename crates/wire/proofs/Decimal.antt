-- Numbers in decimal: how many digits, and the digits from the last one on.
use Rattle.std.specs.Prelude.{◌+◌, ◌-◌, ◌/◌, ◌%◌, ◌^◌, ◌≤◌, ◌<◌, ◌≡◌, ◌∷◌, ◌++◌}
use Rattle.wire.proofs.Kit.{ℕ, zero, suc, refl, List, [], mod-eq_of_lt, pow-suc, add-one, sub-one}
use Rattle.wire.proofs.Kit.{arith, length, set, length-append, sets, ltb, ltb-true, lt-ltb, le-ltb}
use Rattle.wire.specs.Bytes.{places, decimal}
use Rattle.wire.proofs.Laws.{picked, sets_append, set_sets}

-- n in decimal, in so many places
abbrev pub tens : ℕ → ℕ → List ℕ
tens zero n = []
tens (suc k) n = tens k (n / 10) ++ ((0x30 + n % 10) ∷ [])

pub length_tens : (k n : ℕ) → length (tens k n) ≡ k
length_tens zero n = refl
length_tens (suc k) n = rw (length-append, length_tens k (n / 10)) (add-one k)

pub places_tens : (f n : ℕ) → places f n ≡ tens (length (places f n)) n
places_tens zero n = refl
places_tens (suc f) n =
    picked (λ (x : List ℕ). x ≡ tens (length x) n) (ltb n 10) _ _
    (λ h. rw (mod-eq_of_lt (ltb-true n 10 h)))
    (λ h. rw (length-append, add-one, ← places_tens f (n / 10)))

-- one digit, or one more than those of the tenth
pub one_place : (f n : ℕ) → n / 10 ≤ 0 → length (places (suc f) n) ≡ 1
one_place f n h = rw (lt-ltb n 10 (omega arith))

pub more_places : (f n m : ℕ) → m ≡ n / 10 → 0 < m → n ≤ f → length (places (suc f) n) ≡ length (places (suc (f - 1)) m) + 1
more_places zero n m e h g = absurd (omega arith)
more_places (suc f) n m e h g = rw (e, sub-one (suc f), le-ltb n 10 (omega arith), length-append)

pub some_place : (f n : ℕ) → 1 ≤ length (places (suc f) n)
some_place f n =
    picked (λ (x : List ℕ). 1 ≤ length x) (ltb n 10) _ _
    (λ h. omega arith)
    (λ h. rw length-append (omega arith))

-- a number below a power of ten
few : (k f n : ℕ) → n < 10 ^ suc k → length (places f n) ≤ suc k
few k zero n h = omega arith
few zero (suc f) n h = rw (lt-ltb n 10 h) (omega arith)
few (suc k) (suc f) n h =
    picked (λ (x : List ℕ). length x ≤ suc (suc k)) (ltb n 10) _ _
    (λ t. omega arith)
    (λ t.
    let g = rw pow-suc at h in
    let r = few k f (n / 10) (omega arith) in
    rw length-append (omega arith))

pub ten_at_most : (n : ℕ) → n < 2 ^ 32 → length (decimal n) ≤ 10
ten_at_most n h = few 9 (suc n) n (omega arith)

-- n stored from its last digit on: that digit, and then the digits before it
pub tens_last : (l : List ℕ) (at k n : ℕ) → 0 < k
    → sets l at (tens k n) ≡ sets (set l (at + (k - 1)) (0x30 + n % 10)) at (tens (k - 1) (n / 10))
tens_last l at zero n h = absurd (omega arith)
tens_last l at (suc k) n h =
    let d = tens k (n / 10) in
    let e = length_tens k (n / 10) in
    rw (sub-one (suc k), sets_append l at d ((0x30 + n % 10) ∷ []), e) (set_sets l at (at + k) (0x30 + n % 10) d (omega arith))
