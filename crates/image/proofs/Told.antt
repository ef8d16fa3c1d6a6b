-- Numbers tell just the record that has them, and laying a record by its numbers is the inverse of taking it.
use Rattle.std.specs.Prelude.{◌+◌, ◌^◌, ◌≤◌, ◌<◌, ◌≡◌, ◌≢◌, ◌↔◌, ◌∷◌, ◌++◌, Some, None, Option}
use Rattle.wire.proofs.Kit.{ℕ, refl, sym, ap, ◌∙◌, List, [], append_assoc, Bool, true, false, mod-eq_of_lt}
use Rattle.wire.proofs.Kit.{arith, length, take, drop, get_or, length-append, length-take-le, take-append-drop, drop-drop, sets, sets-eq, length-sets, take_at, drop_at}
use Rattle.wire.proofs.Kit.{leb, eqb, lit<, leb-true, leb-false, ne_eqb}
use native.Mathlib.Nat.{mod-lt, one-le-pow}
use Rattle.wire.specs.Choice.{pick}
use Rattle.wire.specs.Field.{to, equal, bytes_at}
use Rattle.wire.specs.Number.{Bytes}
use Rattle.wire.specs.declared.cursor.Cursor.{Cursor}
use Rattle.wire.proofs.Laws.{pick_yes, pick_no, picked, equal_same, equal_means, same_answer}
use Rattle.wire.proofs.Stands.{length_bytes}
use Rattle.image.specs.declared.record.Layout.{Layout}
use Rattle.image.specs.declared.record.Record.{Record}
use Rattle.image.specs.declared.record.Record.TheVariants.{Number, Boolean, Text, Object, Null, Undefined, Reference, EcmaArray, ObjectEnd, StrictArray, Date, Unsupported, Xml, TypedObject, Key, Packet, Header, Message, Lso}
use Rattle.image.specs.Record.{bit_of, layout_of, bytes_of, size}
use Rattle.image.specs.Due.{end, due, Ran, ran, run, went_to}
use Rattle.image.specs.Taking.{record_at, Fits, taken_to}
use Rattle.image.specs.Building.{numbers_in, Tells, low, of_kind, holder_of, sure, record_of, Put, putting, laid_of, put_of}
use Rattle.image.proofs.Laws.{size_bytes, small}
use Rattle.image.proofs.Found.{found_again, found_stood, nil, bit_small, fits}
use Rattle.wire.specs.Answer.{denied}
use Rattle.wire.proofs.Same.{ok_second}

-- ---- the record that numbers tell

-- a number of 64 bits is held whole
pub all_held : (n : ℕ) → n < 256 ^ 8 → low 8 n ≡ n
all_held n h = mod-eq_of_lt h

-- a number that is held whole is small
held : (w n : ℕ) → low w n ≡ n → n < 256 ^ w
held w n e = rw e at (mod-lt n (one-le-pow w 256 (lit< tt)))

-- what its fields hold of a record's own numbers
abbrev own : Record → Option Record
own r =
    let l = layout_of r in
    holder_of l.kind l.a.number l.b.number l.c.number l.d.number

-- is the record, where it can stand in an image,
fits_own : (r : Record) → Fits r → own r ≡ Some r
unfolding holder_of
fits_own (Number n) f = rw (mod-eq_of_lt f.a)
fits_own (Boolean true) f = refl
fits_own (Boolean false) f = refl
fits_own (Text p n) f = rw (mod-eq_of_lt f.a, mod-eq_of_lt f.b)
fits_own (Xml p n) f = rw (mod-eq_of_lt f.a, mod-eq_of_lt f.b)
fits_own Object f = refl
fits_own Null f = refl
fits_own Undefined f = refl
fits_own ObjectEnd f = refl
fits_own Unsupported f = refl
fits_own (Reference n) f = rw (mod-eq_of_lt f.a)
fits_own (EcmaArray n) f = rw (mod-eq_of_lt f.a)
fits_own (StrictArray n) f = rw (mod-eq_of_lt f.a)
fits_own (Date n true z) f = rw (mod-eq_of_lt f.a, mod-eq_of_lt f.c)
fits_own (Date n false z) f = rw (mod-eq_of_lt f.a, f.zone n z refl)
fits_own (TypedObject p n) f = rw (mod-eq_of_lt f.a, mod-eq_of_lt f.b)
fits_own (Key p n) f = rw (mod-eq_of_lt f.a, mod-eq_of_lt f.b)
fits_own (Packet h m) f = rw (mod-eq_of_lt f.a, mod-eq_of_lt f.b)
fits_own (Header p n true) f = rw (mod-eq_of_lt f.a, mod-eq_of_lt f.b)
fits_own (Header p n false) f = rw (mod-eq_of_lt f.a, mod-eq_of_lt f.b)
fits_own (Message p n q m) f = rw (mod-eq_of_lt f.a, mod-eq_of_lt f.b, mod-eq_of_lt f.c, mod-eq_of_lt f.d)
fits_own (Lso l p n) f = rw (mod-eq_of_lt f.a, mod-eq_of_lt f.b, mod-eq_of_lt f.c)

-- and only there
own_fits : (r : Record) → own r ≡ Some r → Fits r
unfolding holder_of
own_fits (Number n) e =
    let g : Some (Number (low 8 n)) ≡ Some (Number n) = e in
    fits (Number n) (held 8 n (cc)) nil nil nil (λ n z e. cc)
own_fits (Boolean b) e = fits (Boolean b) (bit_small b) nil nil nil (λ n z e. cc)
own_fits (Text p n) e =
    let g : Some (Text (low 3 p) (low 3 n)) ≡ Some (Text p n) = e in
    fits (Text p n) (held 3 p (cc)) (held 3 n (cc)) nil nil (λ n z e. cc)
own_fits (Xml p n) e =
    let g : Some (Xml (low 3 p) (low 3 n)) ≡ Some (Xml p n) = e in
    fits (Xml p n) (held 3 p (cc)) (held 3 n (cc)) nil nil (λ n z e. cc)
own_fits Object e = fits Object nil nil nil nil (λ n z e. cc)
own_fits Null e = fits Null nil nil nil nil (λ n z e. cc)
own_fits Undefined e = fits Undefined nil nil nil nil (λ n z e. cc)
own_fits ObjectEnd e = fits ObjectEnd nil nil nil nil (λ n z e. cc)
own_fits Unsupported e = fits Unsupported nil nil nil nil (λ n z e. cc)
own_fits (Reference n) e =
    let g : Some (Reference (low 2 n)) ≡ Some (Reference n) = e in
    fits (Reference n) (held 2 n (cc)) nil nil nil (λ n z e. cc)
own_fits (EcmaArray n) e =
    let g : Some (EcmaArray (low 4 n)) ≡ Some (EcmaArray n) = e in
    fits (EcmaArray n) (held 4 n (cc)) nil nil nil (λ n z e. cc)
own_fits (StrictArray n) e =
    let g : Some (StrictArray (low 4 n)) ≡ Some (StrictArray n) = e in
    fits (StrictArray n) (held 4 n (cc)) nil nil nil (λ n z e. cc)
own_fits (Date n true z) e =
    let g : Some (Date (low 8 n) true (low 2 z)) ≡ Some (Date n true z) = e in
    fits (Date n true z) (held 8 n (cc)) (bit_small true) (held 2 z (cc)) nil (λ n z e. cc)
own_fits (Date n false z) e =
    let g : Some (Date (low 8 n) false 0) ≡ Some (Date n false z) = e in
    let o : 0 ≡ z = cc in
    fits (Date n false z) (held 8 n (cc)) (bit_small false) (rw (sym o) (lit< tt)) nil (λ m w e. let f : z ≡ w = cc in sym f ∙ sym o)
own_fits (TypedObject p n) e =
    let g : Some (TypedObject (low 3 p) (low 2 n)) ≡ Some (TypedObject p n) = e in
    fits (TypedObject p n) (held 3 p (cc)) (held 2 n (cc)) nil nil (λ n z e. cc)
own_fits (Key p n) e =
    let g : Some (Key (low 3 p) (low 2 n)) ≡ Some (Key p n) = e in
    fits (Key p n) (held 3 p (cc)) (held 2 n (cc)) nil nil (λ n z e. cc)
own_fits (Packet h m) e =
    let g : Some (Packet (low 2 h) (low 2 m)) ≡ Some (Packet h m) = e in
    fits (Packet h m) (held 2 h (cc)) (held 2 m (cc)) nil nil (λ n z e. cc)
own_fits (Header p n b) e =
    let g : Some (Header (low 3 p) (low 2 n) (eqb (bit_of b) 1)) ≡ Some (Header p n b) = e in
    fits (Header p n b) (held 3 p (cc)) (held 2 n (cc)) (bit_small b) nil (λ n z e. cc)
own_fits (Message p n q m) e =
    let g : Some (Message (low 3 p) (low 2 n) (low 3 q) (low 2 m)) ≡ Some (Message p n q m) = e in
    fits (Message p n q m) (held 3 p (cc)) (held 2 n (cc)) (held 3 q (cc)) (held 2 m (cc)) (λ n z e. cc)
own_fits (Lso l p n) e =
    let g : Some (Lso (low 4 l) (low 3 p) (low 2 n)) ≡ Some (Lso l p n) = e in
    fits (Lso l p n) (held 4 l (cc)) (held 3 p (cc)) (held 2 n (cc)) nil (λ n z e. cc)

-- Whatever record the numbers tell is found,
pub told_whole : (fs : List ℕ) (r : Record) → Tells fs r → record_of fs ≡ Some r
unfolding record_of
told_whole fs r h = rw (h.numbers, fits_own r h.fits, equal_same (numbers_in (layout_of r)))

-- and only one that they tell.
pub told_right : (fs : List ℕ) (r : Record) → record_of fs ≡ Some r → Tells fs r
unfolding record_of
told_right fs r = go (holder_of (get_or fs 0 0) (get_or fs 1 0) (get_or fs 2 0) (get_or fs 3 0) (get_or fs 4 0)) refl
  where
    tells : fs ≡ numbers_in (layout_of r) → holder_of (get_or fs 0 0) (get_or fs 1 0) (get_or fs 2 0) (get_or fs 3 0) (get_or fs 4 0) ≡ Some r → Tells fs r
    tells n e = record { numbers = n; fits = own_fits r (rw n at e) }

    go : (t : Option Record) → holder_of (get_or fs 0 0) (get_or fs 1 0) (get_or fs 2 0) (get_or fs 3 0) (get_or fs 4 0) ≡ t → sure fs t ≡ Some r → Tells fs r
    go (Some s) h =
        picked (λ (u : Option Record). u ≡ Some r → Tells fs r) (equal (numbers_in (layout_of s)) fs) _ _
        (λ q e.
        let same : s ≡ r = cc in
        tells (sym (equal_means _ _ q) ∙ ap (λ (x : Record). numbers_in (layout_of x)) same) (h ∙ e))
        (λ q e. let z : ◌≡◌ {A = ℕ} 0 1 = cc in absurd (omega arith))
    go None h = λ e. let z : ◌≡◌ {A = ℕ} 0 1 = cc in absurd (omega arith)

pub told_exactly : (fs : List ℕ) (r : Record) → record_of fs ≡ Some r ↔ Tells fs r
told_exactly fs r = (told_right fs r, told_whole fs r)

-- so they tell one record, or none
pub one_told : (fs : List ℕ) {r s : Record} → Tells fs r → Tells fs s → r ≡ s
one_told fs {r} {s} g h = let e : Some r ≡ Some s = sym (told_whole fs r g) ∙ told_whole fs s h in cc

pub untold : (fs : List ℕ) → record_of fs ≡ None → (r : Record) → Tells fs r → ⊥
untold fs e r h = let f : Some r ≡ None = sym (told_whole fs r h) ∙ e in let z : ◌≡◌ {A = ℕ} 0 1 = cc in omega arith

-- What they tell is found where its bytes stand, and what is found anywhere is told by its numbers.
pub told_stands : (fs : List ℕ) (r : Record) → record_of fs ≡ Some r → (x y : List ℕ) → record_at (x ++ (bytes_of r ++ y)) (length x) ≡ taken_to r (to (length x + size r))
told_stands fs r e x y = found_again x y r (told_right fs r e).fits

pub found_told : (image : List ℕ) → Bytes image → (at : ℕ) (r : Record) (c : Cursor) → record_at image at ≡ taken_to r c → record_of (numbers_in (layout_of r)) ≡ Some r
found_told image bytes at r c e = told_whole (numbers_in (layout_of r)) r (record { numbers = refl; fits = (found_stood image bytes at r c e).fits })

-- the test that the numbers are a record's own
module _ (fs : List ℕ) (r : Record) (l : Layout) {t : Option Record} (e : t ≡ Some r) (f : l ≡ layout_of r) where
  pub sure_yes : equal (numbers_in l) fs ≡ true → Some r ≡ sure fs t
  sure_yes q = rw (e, ap (λ (x : Layout). equal (numbers_in x) fs) (sym f) ∙ q)

  pub sure_no : equal (numbers_in l) fs ≡ false → None ≡ sure fs t
  sure_no q = rw (e, ap (λ (x : Layout). equal (numbers_in x) fs) (sym f) ∙ q)

-- no record has a kind that is no byte
pub no_kind : (rs : List Record) (k : ℕ) → 256 ≤ k → of_kind rs k ≡ None
no_kind [] k h = refl
no_kind (r ∷ rs) k h = rw (ne_eqb k (layout_of r).kind (λ e. omega (arith, (small r).0))) (no_kind rs k h)

-- ---- the record laid

pub five : (l : List ℕ) → length l ≡ 5 → get_or l 0 0 ∷ get_or l 1 0 ∷ get_or l 2 0 ∷ get_or l 3 0 ∷ get_or l 4 0 ∷ [] ≡ l
five [] h = absurd (omega arith)
five (a ∷ []) h = absurd (omega arith)
five (a ∷ b ∷ []) h = absurd (omega arith)
five (a ∷ b ∷ c ∷ []) h = absurd (omega arith)
five (a ∷ b ∷ c ∷ d ∷ []) h = absurd (omega arith)
five (a ∷ b ∷ c ∷ d ∷ e ∷ []) h = refl
five (a ∷ b ∷ c ∷ d ∷ e ∷ f ∷ l) h = absurd (omega arith)

-- it is laid as a reading lays it, or refused as there
module _ (fs : List ℕ) (made : ℕ) (image : List ℕ) (r : Record) (told : record_of fs ≡ Some r) (p n : ℕ) where
  pub put_next : {c : Cursor} {m : ℕ} {i : List ℕ} → ran (went_to c m) i ≡ run (due r p (end n)) made image → putting 0 m i ≡ put_of fs made image
  unfolding put_of run
  put_next {c} {m} {i} e = rw told (go (leb (made + size r) (length image)) e)
    where
      go : (t : Bool) → ran (went_to c m) i ≡ pick t (ran (went_to (to n) (made + size r)) (sets image made (bytes_of r))) (ran (denied 4 p) image)
          → putting 0 m i ≡ pick t (putting 0 (made + size r) (sets image made (bytes_of r))) (putting 4 made image)
      go true e =
          let s : went_to c m ≡ went_to (to n) (made + size r) = ap (λ (x : Ran). x.step) e in
          let same : m ≡ made + size r = ok_second s in
          rw (same, ap (λ (x : Ran). x.image) e)
      go false e =
          let s : went_to c m ≡ denied 4 p = ap (λ (x : Ran). x.step) e in
          let z : ◌≡◌ {A = ℕ} 0 1 = cc in
          absurd (omega arith)

  pub put_stop : {a q : ℕ} {i : List ℕ} → ran (denied a q) i ≡ run (due r p (end n)) made image → putting a made i ≡ put_of fs made image
  unfolding put_of run
  put_stop {a} {q} {i} e = rw told (go (leb (made + size r) (length image)) e)
    where
      go : (t : Bool) → ran (denied a q) i ≡ pick t (ran (went_to (to n) (made + size r)) (sets image made (bytes_of r))) (ran (denied 4 p) image)
          → putting a made i ≡ pick t (putting 0 (made + size r) (sets image made (bytes_of r))) (putting 4 made image)
      go true e =
          let s : denied a q ≡ went_to (to n) (made + size r) = ap (λ (x : Ran). x.step) e in
          let z : ◌≡◌ {A = ℕ} 0 1 = cc in
          absurd (omega arith)
      go false e =
          let s : denied a q ≡ denied 4 p = ap (λ (x : Ran). x.step) e in
          let same : a ≡ 4 = same_answer s in
          rw (same, ap (λ (x : Ran). x.image) e)

pub put_none : (fs : List ℕ) (made : ℕ) (image : List ℕ) → record_of fs ≡ None → putting 6 made image ≡ put_of fs made image
unfolding put_of
put_none fs made image e = rw e

-- ---- what comes of it

-- stores between two parts of a list leave both
module _ (l : List ℕ) (i : ℕ) (x : List ℕ) (h : i + length x ≤ length l) where
  front_kept : take i (sets l i x) ≡ take i l
  front_kept = rw (sets-eq x l i h, append_assoc (take i l) x (drop (i + length x) l)) (take_at (take i l) (x ++ drop (i + length x) l) i (length-take-le i l (omega arith)))

  behind_kept : drop (i + length x) (sets l i x) ≡ drop (i + length x) l
  behind_kept =
      rw (sets-eq x l i h)
      (drop_at (take i l ++ x) (drop (i + length x) l) (i + length x) (rw (length-append, length-take-le i l (omega arith))))

-- stores of what stands there change nothing
sets_same : (l : List ℕ) (i w : ℕ) → i + w ≤ length l → sets l i (bytes_at w l i) ≡ l
sets_same l i w h =
    let n = length_bytes w l i h in
    rw (sets-eq (bytes_at w l i) l i (omega arith), n, ← drop-drop w i l, append_assoc (take i l) (bytes_at w l i) (drop w (drop i l)), take-append-drop w (drop i l)) (take-append-drop i l)

module _ (fs : List ℕ) (made : ℕ) (image : List ℕ) where
  -- a record that is told and has room, one that has none, and none that is told
  pub put_laid : {r : Record} → Tells fs r → made + size r ≤ length image → put_of fs made image ≡ putting 0 (made + size r) (sets image made (bytes_of r))
  unfolding put_of
  put_laid {r} t h = rw (told_whole fs r t) (pick_yes (made + size r) (length image) _ _ h)

  pub put_full : {r : Record} → Tells fs r → length image < made + size r → put_of fs made image ≡ putting 4 made image
  unfolding put_of
  put_full {r} t h = rw (told_whole fs r t) (pick_no (made + size r) (length image) _ _ h)

  pub put_cases : (P : Put → Type 0) → ((r : Record) → Tells fs r → made + size r ≤ length image → P (putting 0 (made + size r) (sets image made (bytes_of r))))
      → ((r : Record) → Tells fs r → length image < made + size r → P (putting 4 made image)) → (((r : Record) → Tells fs r → ⊥) → P (putting 6 made image))
      → P (put_of fs made image)
  unfolding put_of
  put_cases P f g h = go (record_of fs) refl
    where
      go : (t : Option Record) → record_of fs ≡ t → P (laid_of t made image)
      go (Some r) e =
          let t = told_right fs r e in
          picked P (leb (made + size r) (length image)) _ _ (λ q. f r t (leb-true _ _ q)) (λ q. g r t (leb-false _ _ q))
      go None e = h (untold fs e)

  -- The answers, each just where it is due: 6 where the numbers tell no record, 4 where they tell one that has no room, and else 0.
  pub put_six : (put_of fs made image).laying.answer ≡ 6 ↔ ((r : Record) → Tells fs r → ⊥)
  put_six = (
    put_cases (λ (x : Put). x.laying.answer ≡ 6 → (r : Record) → Tells fs r → ⊥) (λ r t h e. absurd (omega arith)) (λ r t h e. absurd (omega arith)) (λ n e. n),
    λ n. put_cases (λ (x : Put). x.laying.answer ≡ 6) (λ r t h. absurd (n r t)) (λ r t h. absurd (n r t)) (λ _. refl),
  )

  pub put_four : (put_of fs made image).laying.answer ≡ 4 ↔ ((r : Record) × Tells fs r × (length image < made + size r))
  put_four = (
    put_cases (λ (x : Put). x.laying.answer ≡ 4 → (r : Record) × Tells fs r × (length image < made + size r)) (λ r t h e. absurd (omega arith))
        (λ r t h e. (r, t, h)) (λ n e. absurd (omega arith)),
    λ x. ap (λ (y : Put). y.laying.answer) (put_full x.1 x.2),
  )

  pub put_zero : (put_of fs made image).laying.answer ≡ 0 ↔ ((r : Record) × Tells fs r × (made + size r ≤ length image))
  put_zero = (
    put_cases (λ (x : Put). x.laying.answer ≡ 0 → (r : Record) × Tells fs r × (made + size r ≤ length image)) (λ r t h e. (r, t, h))
        (λ r t h e. absurd (omega arith)) (λ n e. absurd (omega arith)),
    λ x. ap (λ (y : Put). y.laying.answer) (put_laid x.1 x.2),
  )

  -- A refusal changes nothing,
  pub put_refused : (put_of fs made image).laying.answer ≢ 0 → ((put_of fs made image).laying.made ≡ made) × ((put_of fs made image).image ≡ image)
  put_refused =
      put_cases (λ (x : Put). x.laying.answer ≢ 0 → (x.laying.made ≡ made) × (x.image ≡ image)) (λ r t h n. absurd (n refl)) (λ r t h n. (refl, refl))
      (λ _ n. (refl, refl))

  -- and what stands before and behind the record stays at any rate.
  pub put_before : take made (put_of fs made image).image ≡ take made image
  put_before =
      put_cases (λ (x : Put). take made x.image ≡ take made image) (λ r t h. front_kept image made (bytes_of r) (omega (arith, size_bytes r))) (λ r t h. refl)
      (λ _. refl)

  pub put_behind : drop (put_of fs made image).laying.made (put_of fs made image).image ≡ drop (put_of fs made image).laying.made image
  put_behind =
      put_cases (λ (x : Put). drop x.laying.made x.image ≡ drop x.laying.made image)
      (λ r t h. rw (← size_bytes r) (behind_kept image made (bytes_of r) (omega (arith, size_bytes r)))) (λ r t h. refl) (λ _. refl)

  pub put_length : length (put_of fs made image).image ≡ length image
  put_length =
      put_cases (λ (x : Put). length x.image ≡ length image) (λ r t h. length-sets image made (bytes_of r)) (λ r t h. refl) (λ _. refl)

  -- What was laid is taken again, from where it was laid up to what is made now.
  pub put_taken : (put_of fs made image).laying.answer ≡ 0
      → (r : Record) × Tells fs r × (record_at (put_of fs made image).image made ≡ taken_to r (to (put_of fs made image).laying.made))
  put_taken =
      put_cases (λ (x : Put). x.laying.answer ≡ 0 → (r : Record) × Tells fs r × (record_at x.image made ≡ taken_to r (to x.laying.made)))
      (λ r t h e. (r, t, found r t h)) (λ r t h e. absurd (omega arith)) (λ n e. absurd (omega arith))
    where
      found : (r : Record) → Tells fs r → made + size r ≤ length image → record_at (sets image made (bytes_of r)) made ≡ taken_to r (to (made + size r))
      found r t h =
          let l : length (take made image) ≡ made = length-take-le made image (omega arith) in
          let b = size_bytes r in
          rw (sets-eq (bytes_of r) image made (omega arith), append_assoc (take made image) (bytes_of r) (drop (made + length (bytes_of r)) image))
          (rw l at (found_again (take made image) (drop (made + length (bytes_of r)) image) r t.fits))

-- What was taken is laid again, at its place: the image stays, and what is made is what the taking came to.
pub taken_put : (image : List ℕ) → Bytes image → (at : ℕ) (r : Record) (c : Cursor) → record_at image at ≡ taken_to r c
    → put_of (numbers_in (layout_of r)) at image ≡ putting 0 c.at image
taken_put image bytes at r c e =
    let h = found_stood image bytes at r c e in
    put_laid (numbers_in (layout_of r)) at image (record { numbers = refl; fits = h.fits }) (omega (arith, h.next, h.within))
    ∙ rw (h.next, ← h.same, sets_same image at (size r) (omega (arith, h.next, h.within)))
