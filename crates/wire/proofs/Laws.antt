-- The laws of the fields, of numbers in bytes and of stores.
use Rattle.std.specs.Prelude.{◌+◌, ◌-◌, ◌*◌, ◌/◌, ◌%◌, ◌^◌, ◌≤◌, ◌<◌, ◌≡◌, ◌∷◌, ◌++◌, ◌⊎◌, Result, Ok, Err}
use Rattle.wire.proofs.Kit.{ℕ, zero, suc, refl, sym, ap, ◌∙◌, List, [], Bool, true, false}
use Rattle.wire.proofs.Kit.{inl, inr, add-zero, suc-add, pow-suc, div-one, mod-eq_of_lt, add-one, sub-one, arith, length, get_or, drop, set, length-drop}
use Rattle.wire.proofs.Kit.{length-append, sets, drop-cons, set_comm, length-sets, leb, eqb, lit<, le-leb, lt-leb, leb-true}
use Rattle.wire.proofs.Kit.{leb-false, eq-eqb, eqb-true}
use native.Mathlib.Nat.{add-suc, pow-succ', one-le-pow, mod-one, div-div-eq-div-mul, mul-add-mod_self_right, mul-add-div_right, mul_assoc}
use lib.Seq.{take-suc, get_or-drop}
use lib.Arith.{mod-mul, digits_lt, digits_div}
use Rattle.wire.specs.declared.cursor.Cursor.{Cursor}
use Rattle.wire.specs.Answer.{Verdict, denied}
use Rattle.wire.specs.declared.cursor.Span.{Span}
use Rattle.wire.specs.Choice.{pick}
use Rattle.wire.specs.Number.{digits, number, Bytes, stored}
use Rattle.wire.specs.Bytes.{laid}
use Rattle.wire.specs.Utf8.{utf8}
use Rattle.wire.specs.Field.{bytes_at, Parsed, got_to, uint_at, u8_at, u16_at, u24_at, u32_at, u64_at, str_at, text_at, equal, tag_at}

clash : ◌≡◌ {A = ℕ} 0 1 → ⊥
clash e = omega arith

pub false_true : false ≡ true → ⊥
false_true e = clash (cc)

-- ---- what a field holds, and its refusal

-- the same of two that hold something: what they hold, and the places behind
pub same_ok : {A B : Type 0} {x y : A} → ◌≡◌ {A = Result A B} (Ok x) (Ok y) → x ≡ y
same_ok e = cc

pub same_err : {A B : Type 0} {x y : B} → ◌≡◌ {A = Result A B} (Err x) (Err y) → x ≡ y
same_err e = cc

module _ {A : Type 0} {a b : A} {c d : Cursor} (e : got_to a c ≡ got_to b d) where
  pub same_held : a ≡ b
  same_held = ap (λ (x : A × Cursor). x.0) (same_ok e)

  pub same_behind : c ≡ d
  same_behind = ap (λ (x : A × Cursor). x.1) (same_ok e)

module _ {A : Type 0} {a b p q : ℕ} (e : denied {A = A} a p ≡ denied b q) where
  pub same_answer : a ≡ b
  same_answer = ap (λ (r : Verdict). r.answer) (same_err e)

  pub same_place : p ≡ q
  same_place = ap (λ (r : Verdict). r.place) (same_err e)

-- ---- a choice

pub pick_yes {ℓ} : {A : Type ℓ} (m n : ℕ) (a b : A) → m ≤ n → pick (leb m n) a b ≡ a
pick_yes m n a b h = rw (le-leb m n h)

pub pick_no {ℓ} : {A : Type ℓ} (m n : ℕ) (a b : A) → n < m → pick (leb m n) a b ≡ b
pick_no m n a b h = rw (lt-leb m n h)

-- what either way of a choice would mean, the choice means
pub picked {ℓ} : {A : Type ℓ} (P : A → Type 0) (t : Bool) (a b : A) → (t ≡ true → P a) → (t ≡ false → P b) → P (pick t a b)
picked P true a b f g = f refl
picked P false a b f g = g refl

-- ---- a number's field

-- The field was read: the number is that of its w bytes, which are all there, and the cursor stands behind them.
pub record Read (w : ℕ) (s : List ℕ) (at n : ℕ) (c : Cursor) : Type 0 where
  pub value : n ≡ number (bytes_at w s at)
  pub next : c.at ≡ at + w
  pub within : at + w ≤ length s

-- The field was refused: it is not whole.
pub record Short (w : ℕ) (s : List ℕ) (at a p : ℕ) : Type 0 where
  pub answer : a ≡ 2
  pub place : p ≡ at
  pub beyond : length s < at + w

-- the number and the cursor of a field that was read
read_of : (w : ℕ) (s : List ℕ) (at n : ℕ) (c : Cursor) → uint_at w s at ≡ Ok (n, c) → Read w s at n c
read_of w s at n c =
    picked {A = Parsed ℕ} (λ r. r ≡ Ok (n, c) → Read w s at n c) (leb (at + w) (length s)) _ _
    (λ h e. record { value = sym (same_held e); next = sym (ap (λ (d : Cursor). d.at) (same_behind e)); within = leb-true _ _ h })
    (λ h e. absurd (clash (cc)))

short_of : (w : ℕ) (s : List ℕ) (at a p : ℕ) → uint_at w s at ≡ denied a p → Short w s at a p
short_of w s at a p =
    picked {A = Parsed ℕ} (λ r. r ≡ denied a p → Short w s at a p) (leb (at + w) (length s)) _ _
    (λ h e. absurd (clash (cc)))
    (λ h e. record { answer = sym (same_answer e); place = sym (same_place e); beyond = leb-false _ _ h })

module _ (s : List ℕ) (at : ℕ) where
  pub u8_next : (n : ℕ) (c : Cursor) → u8_at s at ≡ Ok (n, c) → Read 1 s at n c
  unfolding u8_at
  u8_next = read_of 1 s at

  pub u8_stop : (a p : ℕ) → u8_at s at ≡ denied a p → Short 1 s at a p
  unfolding u8_at
  u8_stop = short_of 1 s at

  pub u16_next : (n : ℕ) (c : Cursor) → u16_at s at ≡ Ok (n, c) → Read 2 s at n c
  unfolding u16_at
  u16_next = read_of 2 s at

  pub u16_stop : (a p : ℕ) → u16_at s at ≡ denied a p → Short 2 s at a p
  unfolding u16_at
  u16_stop = short_of 2 s at

  pub u24_next : (n : ℕ) (c : Cursor) → u24_at s at ≡ Ok (n, c) → Read 3 s at n c
  unfolding u24_at
  u24_next = read_of 3 s at

  pub u32_next : (n : ℕ) (c : Cursor) → u32_at s at ≡ Ok (n, c) → Read 4 s at n c
  unfolding u32_at
  u32_next = read_of 4 s at

  pub u32_stop : (a p : ℕ) → u32_at s at ≡ denied a p → Short 4 s at a p
  unfolding u32_at
  u32_stop = short_of 4 s at

  pub u64_next : (n : ℕ) (c : Cursor) → u64_at s at ≡ Ok (n, c) → Read 8 s at n c
  unfolding u64_at
  u64_next = read_of 8 s at

  pub u64_stop : (a p : ℕ) → u64_at s at ≡ denied a p → Short 8 s at a p
  unfolding u64_at
  u64_stop = short_of 8 s at

-- ---- texts and fixed bytes

-- The text of n bytes at a place was read: they are all there and UTF-8, and the cursor stands behind them.
pub record Said (s : List ℕ) (at n p m : ℕ) (c : Cursor) : Type 0 where
  pub place : p ≡ at
  pub size : m ≡ n
  pub right : utf8 (bytes_at n s at) ≡ true
  pub next : c.at ≡ at + n
  pub within : at + n ≤ length s

-- The fixed bytes stand there, and the cursor stands behind them.
pub record Passed (fixed s : List ℕ) (at : ℕ) (c : Cursor) : Type 0 where
  pub right : equal (bytes_at (length fixed) s at) fixed ≡ true
  pub next : c.at ≡ at + length fixed
  pub within : at + length fixed ≤ length s

-- A field that begins at a place was refused, there or further on.
pub record Refused (s : List ℕ) (at a p : ℕ) : Type 0 where
  pub answer : (a ≡ 2) ⊎ (a ≡ 3)
  pub from : at ≤ p
  pub within : p ≤ length s

refused_whole : (s : List ℕ) (at p a : ℕ) → a ≡ 2 → p ≡ at → at ≤ length s → Refused s at a p
refused_whole s at p a e f h = record { answer = inl e; from = omega arith; within = omega arith }

refused_right : (s : List ℕ) (at p a : ℕ) → a ≡ 3 → p ≡ at → at ≤ length s → Refused s at a p
refused_right s at p a e f h = record { answer = inr e; from = omega arith; within = omega arith }

module _ (s : List ℕ) (at : ℕ) where
  pub str_next : (n p m : ℕ) (c : Cursor) → str_at n s at ≡ Ok (record { place = p; length = m }, c) → Said s at n p m c
  unfolding str_at
  str_next n p m c =
      let P : Parsed Span → Type 0 = λ r. r ≡ Ok (record { place = p; length = m }, c) → Said s at n p m c in
      picked P (leb (at + n) (length s)) _ _
      (λ h. picked P (utf8 (bytes_at n s at)) _ _
      (λ u e.
      let held = sym (same_held e) in
      record {
        place = ap (λ (t : Span). t.place) held;
        size = ap (λ (t : Span). t.length) held;
        right = u;
        next = sym (ap (λ (d : Cursor). d.at) (same_behind e));
        within = leb-true _ _ h;
      })
      (λ u e. absurd (clash (cc))))
      (λ h e. absurd (clash (cc)))

  pub str_stop : (n a p : ℕ) → str_at n s at ≡ denied a p → at ≤ length s → Refused s at a p
  unfolding str_at
  str_stop n a p =
      let P : Parsed Span → Type 0 = λ r. r ≡ denied a p → at ≤ length s → Refused s at a p in
      picked P (leb (at + n) (length s)) _ _
      (λ h. picked P (utf8 (bytes_at n s at)) _ _
      (λ u e. absurd (clash (cc)))
      (λ u e. refused_right s at p a (sym (same_answer e)) (sym (same_place e))))
      (λ h e. refused_whole s at p a (sym (same_answer e)) (sym (same_place e)))

  pub tag_next : (fixed : List ℕ) (c : Cursor) → tag_at fixed s at ≡ Ok c → Passed fixed s at c
  unfolding tag_at
  tag_next fixed c =
      let P : Result Cursor Verdict → Type 0 = λ r. r ≡ Ok c → Passed fixed s at c in
      picked P (leb (at + length fixed) (length s)) _ _
      (λ h. picked P (equal (bytes_at (length fixed) s at) fixed) _ _
      (λ u e. record { right = u; next = ap (λ (d : Cursor). d.at) (cc); within = leb-true _ _ h })
      (λ u e. absurd (clash (cc))))
      (λ h e. absurd (clash (cc)))

  pub tag_stop : (fixed : List ℕ) (a p : ℕ) → tag_at fixed s at ≡ denied a p → at ≤ length s → Refused s at a p
  unfolding tag_at
  tag_stop fixed a p =
      let P : Result Cursor Verdict → Type 0 = λ r. r ≡ denied a p → at ≤ length s → Refused s at a p in
      picked P (leb (at + length fixed) (length s)) _ _
      (λ h. picked P (equal (bytes_at (length fixed) s at) fixed) _ _
      (λ u e. absurd (clash (cc)))
      (λ u e. refused_right s at p a (sym (same_answer e)) (sym (same_place e))))
      (λ h e. refused_whole s at p a (sym (same_answer e)) (sym (same_place e)))

module _ (w : ℕ) (s : List ℕ) (at : ℕ) where
  pub text_next : (p n : ℕ) (c : Cursor) → text_at w s at ≡ Ok (record { place = p; length = n }, c) → Said s (at + w) (number (bytes_at w s at)) p n c
  unfolding text_at
  text_next p n c =
      picked (λ r. r ≡ Ok (record { place = p; length = n }, c) → Said s (at + w) (number (bytes_at w s at)) p n c) (leb (at + w) (length s)) _ _
      (λ h e. str_next s (at + w) _ p n c e)
      (λ h e. absurd (clash (cc)))

  pub text_stop : (a p : ℕ) → text_at w s at ≡ denied a p → at ≤ length s → Refused s at a p
  unfolding text_at
  text_stop a p =
      picked (λ r. r ≡ denied a p → at ≤ length s → Refused s at a p) (leb (at + w) (length s)) _ _
      (λ h e g.
      let r = str_stop s (at + w) _ a p e (leb-true _ _ h) in
      record { answer = r.answer; from = omega arith; within = r.within })
      (λ h e. refused_whole s at p a (sym (same_answer e)) (sym (same_place e)))

  -- a text goes on from its length, or stops where that does
  pub text_of : (n : ℕ) (c : Cursor) → Read w s at n c → text_at w s at ≡ str_at n s c.at
  unfolding text_at
  text_of n c r = pick_yes (at + w) (length s) _ _ r.within ∙ rw (r.value, r.next)

  pub text_cut : (a p : ℕ) → Short w s at a p → text_at w s at ≡ denied a p
  unfolding text_at
  text_cut a p r = pick_no (at + w) (length s) _ _ r.beyond ∙ rw (r.answer, r.place)

-- ---- bytes at a place

-- one byte more
pub bytes_more : (i : ℕ) (s : List ℕ) (at : ℕ) → at + i < length s
    → bytes_at (i + 1) s at ≡ bytes_at i s at ++ (get_or s (at + i) 0 ∷ [])
bytes_more i s at h =
    let g : i < length (drop at s) = simp length-drop (omega arith) in
    rw (add-one, take-suc (drop at s) i 0 g, get_or-drop)

-- the number of a single one
pub number_one : (s : List ℕ) (at : ℕ) → at < length s → number (bytes_at 1 s at) ≡ get_or s at 0
number_one s at h = rw (drop-cons s at 0 h) (omega arith)

pub equal_same : (x : List ℕ) → equal x x ≡ true
equal_same [] = refl
equal_same (a ∷ x) = rw (eq-eqb a a refl) (equal_same x)

pub equal_means : (x y : List ℕ) → equal x y ≡ true → x ≡ y
equal_means [] [] = λ e. refl
equal_means [] (b ∷ y) = λ e. absurd (false_true e)
equal_means (a ∷ x) [] = λ e. absurd (false_true e)
equal_means (a ∷ x) (b ∷ y) =
    picked (λ t. t ≡ true → a ∷ x ≡ b ∷ y) (eqb a b) _ _
    (λ h e. rw (eqb-true a b h, equal_means x y e))
    (λ h e. absurd (false_true e))

-- ---- numbers in bytes

pos : (w : ℕ) → 0 < 256 ^ w
pos w = one-le-pow w 256 (lit< tt)

pub length_digits : (w n : ℕ) → length (digits w n) ≡ w
length_digits zero n = refl
length_digits (suc w) n = ap suc (length_digits w n)

low : (w n : ℕ) → number (digits w n) ≡ n % 256 ^ w
low zero n = sym (mod-one n)
low (suc w) n = rw (length_digits w n, low w n, pow-succ') (sym (mod-mul n (lit< tt) (pos w)))

pub number_digits : (w n : ℕ) → n < 256 ^ w → number (digits w n) ≡ n
number_digits w n h = low w n ∙ mod-eq_of_lt h

pub number_bound : (x : List ℕ) → Bytes x → number x < 256 ^ length x
number_bound [] h = lit< tt
number_bound (b ∷ r) h = rw pow-succ' (digits_lt h.0 (number_bound r h.1))

high : (w a x : ℕ) → digits w (a * 256 ^ w + x) ≡ digits w x
high zero a x = refl
high (suc w) a x =
    rw (pow-succ', ← mul_assoc a 256 (256 ^ w), high w (a * 256) x, mul-add-div_right (pos w) (a * 256) x, mul-add-mod_self_right a 256 (x / 256 ^ w)) refl

pub digits_number : (x : List ℕ) → Bytes x → digits (length x) (number x) ≡ x
digits_number [] h = refl
digits_number (b ∷ r) h =
    rw (high (length r) b (number r), digits_number r h.1, digits_div b (number_bound r h.1), mod-eq_of_lt h.0) refl

-- the last byte apart
pub digits_snoc : (w n : ℕ) → digits (suc w) n ≡ digits w (n / 256) ++ (n % 256 ∷ [])
digits_snoc zero n = rw (div-one n)
digits_snoc (suc w) n = rw (digits_snoc w n, pow-succ', ← div-div-eq-div-mul n 256 (256 ^ w)) refl

pub number_snoc : (x : List ℕ) (b : ℕ) → number (x ++ (b ∷ [])) ≡ number x * 256 + b
number_snoc [] b = omega arith
number_snoc (a ∷ x) b = rw (number_snoc x b, length-append x (b ∷ []), add-one, pow-suc, ← mul_assoc a (256 ^ length x) 256) (omega arith)

-- ---- stores

pub sets_append : (l : List ℕ) (i : ℕ) (a b : List ℕ) → sets l i (a ++ b) ≡ sets (sets l i a) (i + length a) b
sets_append l i [] b = rw add-zero
sets_append l i (x ∷ a) b = sets_append (set l i x) (suc i) a b ∙ rw (suc-add, add-suc)

-- a run of stores right behind another
pub then_sets : (l : List ℕ) (i j : ℕ) (a b : List ℕ) → j ≡ i + length a → sets (sets l i a) j b ≡ sets l i (a ++ b)
then_sets l i j a b e = rw e (sym (sets_append l i a b))

-- a store behind a run of stores can come first
pub set_sets : (l : List ℕ) (i j b : ℕ) (a : List ℕ) → i + length a ≤ j → set (sets l i a) j b ≡ sets (set l j b) i a
set_sets l i j b [] h = refl
set_sets l i j b (x ∷ a) h =
    set_sets (set l i x) (suc i) j b a (rw (suc-add, ← add-suc i (length a)) h)
    ∙ ap (λ (k : List ℕ). sets k (suc i) a) (set_comm l i j x b (λ e. omega arith))

-- n stored from its last byte on: that byte, and then the bytes before it
pub sets_last : (l : List ℕ) (at k n : ℕ) → 0 < k
    → sets l at (digits k n) ≡ sets (set l (at + (k - 1)) (n % 256)) at (digits (k - 1) (n / 256))
sets_last l at zero n h = absurd (omega arith)
sets_last l at (suc k) n h =
    let d = digits k (n / 256) in
    let e = length_digits k (n / 256) in
    rw (sub-one (suc k), digits_snoc k n, sets_append l at d (n % 256 ∷ []), e) (set_sets l at (at + k) (n % 256) d (omega arith))

module _ (w n at : ℕ) (out : List ℕ) where
  pub stored_room : at + w ≤ length out → (true ≡ leb (at + w) (length out)) × (sets out at (digits w n) ≡ stored w n at out)
  stored_room h = (sym (le-leb _ _ h), sym (pick_yes (at + w) (length out) _ _ h))

-- a row laid where it has room, and where it has none
module _ (b : List ℕ) (at : ℕ) (out : List ℕ) where
  pub laid_room : at + length b ≤ length out → laid b at out ≡ sets out at b
  laid_room h = pick_yes (at + length b) (length out) _ _ h

  pub laid_none : length out < at + length b → laid b at out ≡ out
  laid_none h = pick_no (at + length b) (length out) _ _ h

  pub length_laid : length (laid b at out) ≡ length out
  length_laid = picked (λ (x : List ℕ). length x ≡ length out) (leb (at + length b) (length out)) _ _ (λ h. length-sets out at b) (λ h. refl)
