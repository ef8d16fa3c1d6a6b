-- What one more byte does to the UTF-8 check, and what the comparison of two rows says.
use Rattle.std.specs.Prelude.{◌+◌, ◌-◌, ◌≤◌, ◌<◌, ◌≡◌, ◌∷◌, ◌⊎◌, Option, Some, None}
use Rattle.wire.proofs.Kit.{ℕ, zero, suc, refl, sym, ◌∙◌, List, [], Bool, true, false, ⊎_elim, add-one, arith}
use Rattle.wire.proofs.Kit.{length, get_or, drop, drop_of_length-le, drop-cons, leb, ltb, eqb, le-leb, lt-leb, leb-true, leb-false, eq-eqb, ne_eqb}
use Rattle.wire.proofs.Kit.{ltb-true, ltb-false, lt-ltb, le-ltb}
use mathlib.Core.Bool.{◌&&◌, ◌||◌, beq, not}
use lib.Seq.{drop-length}
use lib.Bits.{bit_or, or_add_and, and_le_l, and_le_r}
use lib.Dec.{T}
use Rattle.std.specs.Cmp.Lexicographic.{pointwise}
use Rattle.wire.specs.declared.utf8.Lead.{Lead}
use Rattle.wire.specs.Choice.{pick}
use Rattle.wire.specs.Utf8.{Range, Form, ◌to◌, has, tail, forms, begun, ends}
use Rattle.wire.specs.Code.{goes, Asked, Over, Onward, Plain, Run, need, owed, Fits, Owed, Paid}
use Rattle.wire.specs.Field.{equal}
use Rattle.wire.proofs.Laws.{false_true}

alike : (t : Bool) → pick t false false ≡ false
alike true = refl
alike false = refl

-- the one way or the other
split : {A : Type 0} (m n : ℕ) → (m < n → A) → (n ≤ m → A) → A
split {A} m n f g = go (ltb m n) refl
  where
    go : (t : Bool) → ltb m n ≡ t → A
    go true h = f (ltb-true m n h)
    go false h = g (ltb-false m n h)

-- ---- a range

module _ (low high b : ℕ) where
  pub has_yes : low ≤ b → b ≤ high → has (low to high) b ≡ true
  has_yes g h = rw (le-leb b high h, le-leb low b g)

  has_above : high < b → has (low to high) b ≡ false
  has_above h = rw (lt-leb b high h)

  has_below : b < low → has (low to high) b ≡ false
  has_below h = rw (lt-leb low b h) (alike (leb b high))

-- ---- the form that a byte begins

both : (t u : Bool) → T (pick t u false) → (t ≡ true) × T u
both true u h = (refl, h)
both false u h = absurd h

-- the first k forms begin with bytes below m
abbrev pub below : ℕ → ℕ → List Form → Bool
below zero m fs = true
below (suc k) m [] = true
below (suc k) m (f ∷ fs) = pick (leb (suc f.first.high) m) (below k m fs) false

-- no form begins with a byte below m
abbrev above : ℕ → List Form → Bool
above m [] = true
above m (f ∷ fs) = pick (leb m f.first.low) (above m fs) false

module _ (b : ℕ) (rest : List Range → Bool) where
  past : (k m : ℕ) (fs : List Form) → T (below k m fs) → m ≤ b → begun fs b rest ≡ begun (drop k fs) b rest
  past zero m fs t h = refl
  past (suc k) m [] t h = refl
  past (suc k) m (f ∷ fs) t h =
      let q = both (leb (suc f.first.high) m) (below k m fs) t in
      let g : suc f.first.high ≤ m = leb-true _ _ q.0 in
      rw (has_above f.first.low f.first.high b (omega arith)) (past k m fs q.1 h)

  none : (m : ℕ) (fs : List Form) → T (above m fs) → b < m → begun fs b rest ≡ false
  none m [] t h = refl
  none m (f ∷ fs) t h =
      let q = both (leb m f.first.low) (above m fs) t in
      let g : m ≤ f.first.low = leb-true _ _ q.0 in
      rw (has_below f.first.low f.first.high b (omega arith)) (none m fs q.1 h)

-- a byte of the first range of the form behind the first k
pub begins_at : {f : Form} {fs : List Form} (b k : ℕ) → drop k forms ≡ f ∷ fs → T (below k f.first.low forms)
    → f.first.low ≤ b → b ≤ f.first.high → (s : List ℕ) → ends [] (b ∷ s) ≡ ends f.behind s
unfolding ends
begins_at {f} {fs} b k e t x y s =
    past b (λ rs. ends rs s) k f.first.low forms t x ∙ rw (e, has_yes f.first.low f.first.high b x y)

pub begins : {f : Form} {fs : List Form} (b k : ℕ) (r : Option Lead) → drop k forms ≡ f ∷ fs → ((s : List ℕ) → ends f.behind s ≡ goes r s)
    → T (below k f.first.low forms) → f.first.low ≤ b → b ≤ f.first.high → Asked b r
begins b k r e g t x y = record { same = λ s. begins_at b k e t x y s ∙ g s }

-- a byte behind the first k forms and before the others
pub begins_none : (b k m n : ℕ) → T (below k m forms) → T (above n (drop k forms)) → m ≤ b → b < n → Asked b None
unfolding ends
begins_none b k m n t u x y =
    record { same = λ s. past b (λ rs. ends rs s) k m forms t x ∙ none b (λ rs. ends rs s) n (drop k forms) u y }

-- ---- the bytes behind it

module _ (s : List ℕ) (i : ℕ) (h : i < length s) where
  pub ends_lead : {r : Option Lead} → Asked (get_or s i 0) r → ends [] (drop i s) ≡ goes r (drop (i + 1) s)
  ends_lead a = rw (drop-cons s i 0 h, add-one) (a.same (drop (suc i) s))

  pub over_in : (low high : ℕ) → low ≤ get_or s i 0 → get_or s i 0 ≤ high → Over s i low high (Some (i + 1))
  unfolding ends
  over_in low high f g =
      record {
        same = λ rs. rw (drop-cons s i 0 h, add-one, has_yes low high (get_or s i 0) f g);
        ahead = λ k a. omega arith;
      }

  pub over_out : (low high : ℕ) → (high < get_or s i 0) ⊎ (get_or s i 0 < low) → Over s i low high None
  unfolding ends
  over_out low high d =
      let e = ⊎_elim (has_above low high (get_or s i 0)) (has_below low high (get_or s i 0)) d in
      record { same = λ rs. rw (drop-cons s i 0 h, e); ahead = λ k a. tt }

pub over_end : (s : List ℕ) (i low high : ℕ) → length s ≤ i → Over s i low high None
unfolding ends
over_end s i low high h = record { same = λ rs. rw (drop_of_length-le s h); ahead = λ k a. tt }

-- ---- runs

pub run_on : {s : List ℕ} {i j k : ℕ} → Run s i j → Run s j k → Run s i k
run_on f g = record { from = omega arith; within = g.within; same = f.same ∙ g.same }

run_none : (s : List ℕ) (i j : ℕ) → j ≡ i → i ≤ length s → Run s i j
run_none s i j e h = record { from = omega arith; within = omega arith; same = rw e }

pub run_one : (s : List ℕ) (i j : ℕ) → i < length s → get_or s i 0 < 0x80 → j ≡ i + 1 → Run s i j
run_one s i j h b e =
    record {
      from = omega arith;
      within = omega arith;
      same = rw (e, drop-cons s i 0 h, add-one) (begins_at (get_or s i 0) 0 refl tt (omega arith) (omega arith) (drop (suc i) s));
    }

pub run_end : {s : List ℕ} {i j : ℕ} → Run s i j → length s ≤ j → ends [] (drop i s) ≡ true
unfolding ends
run_end {s} {i} {j} r h =
    let e : j ≡ length s = omega arith in
    r.same ∙ rw (e, drop-length s)

-- ---- ASCII

pub plain_one : (s : List ℕ) (i j : ℕ) → i < length s → get_or s i 0 < 0x80 → j ≡ i + 1 → Plain s i j
plain_one s i j h b e = record { within = omega arith; ascii = λ k f l. let g : k ≡ i = omega arith in rw g b }

-- two that meet or overlap are one
pub plain_join : {s : List ℕ} {i j k l : ℕ} (m : ℕ) → Plain s i j → Plain s k l → k ≤ j → m ≡ l → Plain s i m
plain_join {s} {i} {j} {k} {l} m f g h e =
    record { within = omega arith; ascii = λ n a b. split n j (λ x. f.ascii n a x) (λ x. g.ascii n (omega arith) (omega arith)) }

-- what two bytes are or-ed to is below 0x80 only if both are
pub or_below : (a b : ℕ) → bit_or a b < 0x80 → (a < 0x80) × (b < 0x80)
or_below a b o =
    let sum = or_add_and a b in
    (omega (arith, and_le_r a b), omega (arith, and_le_l a b))

-- a is the bytes from i on and before j or-ed together
pub plain_or : {s : List ℕ} {i j a : ℕ} (k : ℕ) → (a < 0x80 → Plain s i j) → j < length s → k ≡ j + 1 → bit_or a (get_or s j 0) < 0x80 → Plain s i k
plain_or {s} {i} {j} {a} k f h e o =
    let w = or_below a (get_or s j 0) o in
    plain_join k (f w.0) (plain_one s j k h w.1 e) (omega arith) refl

-- the bytes from i to i + n or-ed together
abbrev pub ored : List ℕ → ℕ → ℕ → ℕ
ored s i zero = get_or s i 0
ored s i (suc n) = bit_or (ored s i n) (get_or s (i + suc n) 0)

pub plain_ored : (s : List ℕ) (i n j : ℕ) → i + n < length s → j ≡ i + n + 1 → ored s i n < 0x80 → Plain s i j
plain_ored s i zero j h e o = plain_one s i j (omega arith) o (omega arith)
plain_ored s i (suc n) j h e o = plain_or j (plain_ored s i n (i + suc n) (omega arith) (omega arith)) h e o

pub plain_run : {s : List ℕ} {i j : ℕ} → Plain s i j → i ≤ j → Run s i j
plain_run {s} {i} {j} p h = go (j - i) j (omega arith) (omega arith)
  where
    go : (n k : ℕ) → k ≡ i + n → k ≤ j → Run s i k
    go zero k e l = run_none s i k (omega arith) (omega arith)
    go (suc n) k e l =
        run_on (go n (i + n) refl (omega arith)) (run_one s (i + n) k (omega arith) (p.ascii (i + n) (omega arith) (omega arith)) (omega arith))

-- ---- text looked at byte by byte

module _ (q p : ℕ) where
  need_none : p < 0xC0 → q < 0xE0 → need q p ≡ []
  need_none h g = rw (lt-ltb p 0xC0 h, lt-ltb q 0xE0 g)

  need_last : p < 0xC0 → 0xE0 ≤ q → need q p ≡ tail ∷ []
  need_last h g = rw (lt-ltb p 0xC0 h, le-ltb q 0xE0 g)

  need_two : 0xC0 ≤ p → p < 0xE0 → need q p ≡ tail ∷ []
  need_two h g = rw (le-ltb p 0xC0 h, lt-ltb p 0xE0 g)

  need_e0 : p ≡ 0xE0 → need q p ≡ 0xA0 to 0xBF ∷ tail ∷ []
  need_e0 e = rw e

  need_ed : p ≡ 0xED → need q p ≡ 0x80 to 0x9F ∷ tail ∷ []
  need_ed e = rw e

  need_three : 0xE0 ≤ p → (p ≡ 0xE0 → ⊥) → (p ≡ 0xED → ⊥) → need q p ≡ tail ∷ tail ∷ []
  need_three h f g = rw (le-ltb p 0xC0 (omega arith), le-ltb p 0xE0 h, ne_eqb p 0xE0 f, ne_eqb p 0xED g)

-- a byte in the range that is due
ends_one : (low high b : ℕ) (rs : List Range) (s : List ℕ) → low ≤ b → b ≤ high → ends (low to high ∷ rs) (b ∷ s) ≡ ends rs s
unfolding ends
ends_one low high b rs s g h = rw (has_yes low high b g h)

module _ (q p b : ℕ) where
  fits_by : {x y : List Range} → need q p ≡ x → need p b ≡ y → ((s : List ℕ) → ends x (b ∷ s) ≡ ends y s) → Fits q p b
  fits_by e f g = record { same = λ s. rw (e, f) (g s) }

  -- a first byte, where nothing is due
  fits_lead : p < 0xC0 → q < 0xE0 → 0xC2 ≤ b → b < 0xF0 → Fits q p b
  fits_lead h g l m =
      let n = need_none q p h g in
      split b 0xE0
      (λ x. fits_by n (need_two p b (omega arith) x) (begins_at b 1 refl tt l (omega arith)))
      (λ x. split b 0xE1
      (λ y. fits_by n (need_e0 p b (omega arith)) (begins_at b 2 refl tt x (omega arith)))
      (λ y. split b 0xED
      (λ z. fits_by n (need_three p b x (λ e. omega arith) (λ e. omega arith)) (begins_at b 3 refl tt y (omega arith)))
      (λ z. split b 0xEE
      (λ w. fits_by n (need_ed p b (omega arith)) (begins_at b 4 refl tt z (omega arith)))
      (λ w. fits_by n (need_three p b x (λ e. omega arith) (λ e. omega arith)) (begins_at b 5 refl tt w (omega arith))))))

  -- a byte of ASCII
  fits_ascii : p < 0xC0 → q < 0xE0 → b < 0x80 → Fits q p b
  fits_ascii h g l = fits_by (need_none q p h g) (need_none p b (omega arith) (omega arith)) (begins_at b 0 refl tt (omega arith) (omega arith))

  -- a byte that is due
  fits_last : p < 0xC0 → 0xE0 ≤ q → 0x80 ≤ b → b < 0xC0 → Fits q p b
  fits_last h g l m =
      fits_by (need_last q p h g) (need_none p b m (omega arith)) (λ s. ends_one 0x80 0xBF b [] s l (omega arith))

  fits_two : 0xC0 ≤ p → p < 0xE0 → 0x80 ≤ b → b < 0xC0 → Fits q p b
  fits_two h g l m =
      fits_by (need_two q p h g) (need_none p b m g) (λ s. ends_one 0x80 0xBF b [] s l (omega arith))

  fits_three : 0xE0 ≤ p → 0x80 ≤ b → b < 0xC0 → (p ≡ 0xE0 → 0xA0 ≤ b) → (p ≡ 0xED → b < 0xA0) → Fits q p b
  fits_three h l m f g =
      let y = need_last p b m h in
      split p 0xE1
      (λ x.
      let e : p ≡ 0xE0 = omega arith in
      fits_by (need_e0 q p e) y (λ s. ends_one 0xA0 0xBF b (tail ∷ []) s (f e) (omega arith)))
      (λ x. split p 0xED
      (λ z. fits_by (need_three q p h (λ e. omega arith) (λ e. omega arith)) y (λ s. ends_one 0x80 0xBF b (tail ∷ []) s l (omega arith)))
      (λ z. split p 0xEE
      (λ w.
      let e : p ≡ 0xED = omega arith in
      let k = g e in
      fits_by (need_ed q p e) y (λ s. ends_one 0x80 0x9F b (tail ∷ []) s l (omega arith)))
      (λ w. fits_by (need_three q p h (λ e. omega arith) (λ e. omega arith)) y (λ s. ends_one 0x80 0xBF b (tail ∷ []) s l (omega arith)))))

pub both_true : (t u : Bool) → (t && u) ≡ true → (t ≡ true) × (u ≡ true)
both_true true u h = (refl, h)
both_true false u h = absurd (false_true h)

same_true : (t u : Bool) → beq t u ≡ true → t ≡ u
same_true true true h = refl
same_true true false h = absurd (false_true h)
same_true false true h = absurd (false_true h)
same_true false false h = refl

module _ (q p b : ℕ) where
  -- the byte is due
  due_in_lem : true ≡ (leb 0x80 b && ltb b 0xC0) → (0x80 ≤ b) × (b < 0xC0)
  due_in_lem e =
      let h = both_true (leb 0x80 b) (ltb b 0xC0) (sym e) in
      (leb-true 0x80 b h.0, ltb-true b 0xC0 h.1)

  -- the test of `fits`
  pub fits_test :
      ((((beq (leb 0xC0 p || leb 0xE0 q) (leb 0x80 b && ltb b 0xC0) && beq (eqb p 0xE0 && ltb b 0xA0) false) && beq (eqb p 0xED && leb 0xA0 b) false) && (ltb b 0xC0 || leb 0xC2 b)) && ltb b 0xF0) ≡ true
      → Fits q p b
  fits_test t =
      let t5 = both_true _ _ t in
      let t4 = both_true _ _ t5.0 in
      let t3 = both_true _ _ t4.0 in
      let t2 = both_true _ _ t3.0 in
      let top : b < 0xF0 = ltb-true b 0xF0 t5.1 in
      let due : (leb 0xC0 p || leb 0xE0 q) ≡ (leb 0x80 b && ltb b 0xC0) = same_true _ _ t2.0 in
      let low : (eqb p 0xE0 && ltb b 0xA0) ≡ false = same_true _ _ t2.1 in
      let high : (eqb p 0xED && leb 0xA0 b) ≡ false = same_true _ _ t3.1 in
      let lead : (ltb b 0xC0 || leb 0xC2 b) ≡ true = t4.1 in
      split p 0xC0
      (λ h. split q 0xE0
      (λ g.
      let d : false ≡ (leb 0x80 b && ltb b 0xC0) = rw (lt-leb 0xC0 p h, lt-leb 0xE0 q g) at due in
      split b 0x80
      (λ x. fits_ascii q p b h g x)
      (λ x. split b 0xC0
      (λ y. absurd (false_true (rw (le-leb 0x80 b x, lt-ltb b 0xC0 y) at d)))
      (λ y. let l : leb 0xC2 b ≡ true = rw (le-ltb b 0xC0 y) at lead in fits_lead q p b h g (leb-true 0xC2 b l) top)))
      (λ g.
      let d = due_in_lem (rw (lt-leb 0xC0 p h, le-leb 0xE0 q g) at due) in
      fits_last q p b h g d.0 d.1))
      (λ h.
      let d = due_in_lem (rw (le-leb 0xC0 p h) at due) in
      split p 0xE0
      (λ g. fits_two q p b h g d.0 d.1)
      (λ g. fits_three q p b g d.0 d.1
      (λ e. ltb-false b 0xA0 (rw (eq-eqb p 0xE0 e) at low))
      (λ e. leb-false 0xA0 b (rw (eq-eqb p 0xED e) at high))))

-- one byte more
pub owed_on : {s : List ℕ} {i j : ℕ} (k : ℕ) → Owed s i j → j + 3 ≤ length s → Fits (get_or s j 0) (get_or s (j + 1) 0) (get_or s (j + 2) 0) → k ≡ j + 1 → Owed s i k
owed_on {s} {i} {j} k o h f e =
    let e1 : k + 1 ≡ j + 2 = omega arith in
    let e2 : k + 2 ≡ suc (j + 2) = omega arith in
    record {
      from = omega arith;
      within = omega arith;
      same = o.same ∙ rw (e1, e2, e, drop-cons s (j + 2) 0 (omega arith)) (f.same (drop (suc (j + 2)) s));
    }

pub onward_paid : (s : List ℕ) (j w : ℕ) {r : Option ℕ} → 2 ≤ j → get_or s (j - 1) 0 < 0xC0 → get_or s (j - 2) 0 < 0xE0 → Owed s (j - 2) w → Paid s w r → Onward s j r
onward_paid s j w h f g o p =
    let e1 : j - 2 + 1 ≡ j - 1 = omega arith in
    let e2 : j - 2 + 2 ≡ j = omega arith in
    let n : owed s (j - 2) ≡ ends [] (drop j s) = rw (e1, e2, need_none (get_or s (j - 2) 0) (get_or s (j - 1) 0) f g) in
    record { same = sym n ∙ o.same ∙ p.same; ahead = λ k a b. p.ahead k (omega arith) }

-- ---- two rows

pointwise_equal : (x y : List ℕ) → pointwise eqb x y ≡ equal x y
pointwise_equal [] [] = refl
pointwise_equal [] (b ∷ y) = refl
pointwise_equal (a ∷ x) [] = refl
pointwise_equal (a ∷ x) (b ∷ y) = rw (pointwise_equal x y) (chosen (eqb a b) (equal x y))
  where
    chosen : (t u : Bool) → (t && u) ≡ pick t u false
    chosen true u = refl
    chosen false u = refl

-- what `!=` says of them
module _ (x y : List ℕ) where
  pub equal_not : true ≡ not (pointwise eqb x y) → equal x y ≡ false
  equal_not e = go (equal x y) (rw (pointwise_equal x y) at e)
    where
      go : (t : Bool) → true ≡ not t → t ≡ false
      go true h = absurd (false_true (sym h))
      go false h = refl

  pub equal_so : false ≡ not (pointwise eqb x y) → equal x y ≡ true
  equal_so e = go (equal x y) (rw (pointwise_equal x y) at e)
    where
      go : (t : Bool) → false ≡ not t → t ≡ true
      go true h = refl
      go false h = absurd (false_true h)
