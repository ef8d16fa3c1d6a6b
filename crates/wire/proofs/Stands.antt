-- Fields against the bytes that stand in the input: what stands there is read, and what was read stood there.
use Rattle.std.specs.Prelude.{◌+◌, ◌^◌, ◌≤◌, ◌<◌, ◌≡◌, ◌∷◌, ◌++◌, Ok}
use Rattle.wire.proofs.Kit.{ℕ, zero, suc, refl, sym, ap, ap₂, ◌∙◌, List, [], append_assoc, Bool, true, false}
use Rattle.wire.proofs.Kit.{add_assoc, add-one, arith, length, take, drop, length-append, length-drop, take-append-drop, get_or, drop-cons, take_at}
use Rattle.wire.proofs.Kit.{drop_at, drop-drop, length-take-le, take-append-le, drop-append-le, take-append_seam, leb, eqb, le-leb, lt-leb, eq-eqb}
use Rattle.wire.proofs.Kit.{leb-true, leb-false, eqb-true}
use lib.Seq.{drop-append-add}
use Rattle.wire.specs.declared.cursor.Cursor.{Cursor}
use Rattle.wire.specs.declared.cursor.Span.{Span}
use Rattle.wire.specs.Answer.{denied}
use Rattle.wire.specs.Number.{digits, number, Bytes}
use Rattle.wire.specs.Utf8.{utf8}
use Rattle.wire.specs.Field.{to, bytes_at, Parsed, got_at, uint_at, u8_at, u16_at, u24_at, u32_at, u64_at, str_at, text_at, equal, tag_at, got, got_text}
use Rattle.wire.proofs.Laws.{picked, Read, u16_next, tag_next, length_digits, number_digits, number_bound, digits_number}

-- ---- a row of bytes at a place

-- at the place `at` of s stands x, and r behind it
pub record Here (s : List ℕ) (at : ℕ) (x r : List ℕ) : Type 0 where
  pub same : drop at s ≡ x ++ r

pub after : {at w : ℕ} {s x r : List ℕ} → Here s at x r → length x ≡ w → drop (at + w) s ≡ r
after {at} {w} {s} {x} {r} h l = sym (drop-drop w at s) ∙ (ap (drop w) h.same ∙ drop_at x r w l)

pub behind : {at w : ℕ} {s x r y z : List ℕ} → Here s at x r → length x ≡ w → r ≡ y ++ z → Here s (at + w) y z
behind h l e = record { same = after h l ∙ e }

pub join : {at w : ℕ} {s x r y z : List ℕ} → Here s at x r → length x ≡ w → Here s (at + w) y z → Here s at (x ++ y) z
join {x} {y} {z} h l g = record { same = h.same ∙ (ap (λ q. x ++ q) (sym (after h l) ∙ g.same) ∙ sym (append_assoc x y z)) }

-- the parts of a row: the first, and what stands behind it
pub cut : {s r : List ℕ} {at : ℕ} (x y : List ℕ) → Here s at (x ++ y) r → Here s at x (y ++ r)
cut {r} x y h = record { same = h.same ∙ append_assoc x y r }

pub skip : {s r : List ℕ} {at : ℕ} (x y : List ℕ) → Here s at (x ++ y) r → Here s (at + length x) y r
skip x y h = behind (cut x y h) refl refl

-- a row that is not empty ends inside
pub inside : {s x r : List ℕ} {at : ℕ} → Here s at x r → 1 ≤ length x → at + length x ≤ length s
inside {s} {x} {r} {at} h l = omega (arith, length-drop at s, ap length h.same, length-append x r)

-- the bytes at a place are the row that stands there
pub there : {s x r : List ℕ} {at : ℕ} (w : ℕ) → Here s at x r → length x ≡ w → bytes_at w s at ≡ x
there {x} {r} w h l = ap (take w) h.same ∙ take_at x r w l

-- the bytes that stand in the first part of an input stand there before any other second part
pub here_front : (x r q y z : List ℕ) (at : ℕ) → Here (x ++ r) at y z → at + length y ≤ length x → Here (x ++ q) at y (drop (length y) (drop at x) ++ q)
here_front x r q y z at h l =
    let i : at ≤ length x = omega arith in
    let n : ℕ = length y in
    let e : take n (drop at x) ≡ y =
    sym (take-append-le n (drop at x) r (omega (arith, length-drop at x))) ∙ (ap (take n) (sym (drop-append-le at x r i) ∙ h.same) ∙ take-append_seam y z) in
    record {
      same =
          drop-append-le at x q i
          ∙ (ap (λ u. u ++ q) (sym (take-append-drop n (drop at x)) ∙ ap (λ u. u ++ drop n (drop at x)) e) ∙ append_assoc y (drop n (drop at x)) q);
    }

-- w bytes that are all there stand there
pub stood : (w : ℕ) (s : List ℕ) (at : ℕ) → Here s at (bytes_at w s at) (drop (at + w) s)
stood w s at = record { same = sym (ap (λ r. bytes_at w s at ++ r) (sym (drop-drop w at s)) ∙ take-append-drop w (drop at s)) }

pub length_bytes : (w : ℕ) (s : List ℕ) (at : ℕ) → at + w ≤ length s → length (bytes_at w s at) ≡ w
length_bytes w s at h = length-take-le w (drop at s) (omega (arith, length-drop at s))

bytes_drop : (n : ℕ) (s : List ℕ) → Bytes s → Bytes (drop n s)
bytes_drop zero s h = h
bytes_drop (suc n) [] h = tt
bytes_drop (suc n) (b ∷ s) h = bytes_drop n s h.1

pub bytes_left : (x y : List ℕ) → Bytes (x ++ y) → Bytes x
bytes_left [] y h = tt
bytes_left (b ∷ x) y h = (h.0, bytes_left x y h.1)

pub bytes_here : {s x r : List ℕ} {at : ℕ} → Here s at x r → Bytes s → Bytes x
bytes_here {s} {x} {r} {at} h b = bytes_left x r (rw h.same at (bytes_drop at s b))

-- ---- what stands there is read

row_at : {s x r : List ℕ} {at : ℕ} (w : ℕ) → Here s at x r → length x ≡ w → 1 ≤ w → uint_at w s at ≡ got_at (number x) (at + w)
row_at {s} {at} w h l p = rw (le-leb (at + w) (length s) (omega (arith, inside h (omega arith))), there w h l)

uint_at_lem : {s r : List ℕ} {at : ℕ} (w n : ℕ) → Here s at (digits w n) r → n < 256 ^ w → 1 ≤ w → uint_at w s at ≡ got_at n (at + w)
uint_at_lem {at} w n h b p = row_at w h (length_digits w n) p ∙ ap (λ m. got_at m (at + w)) (number_digits w n b)

module _ {s r : List ℕ} {at : ℕ} where
  -- any byte, a number of no bound
  pub byte_at : (b : ℕ) → Here s at (b ∷ []) r → u8_at s at ≡ got_at b (at + 1)
  unfolding u8_at
  byte_at b h = row_at 1 h refl (omega arith) ∙ ap (λ m. got_at m (at + 1)) (omega arith)

  pub u8_at_lem : (n : ℕ) → Here s at (digits 1 n) r → n < 256 ^ 1 → u8_at s at ≡ got_at n (at + 1)
  unfolding u8_at
  u8_at_lem n h b = uint_at_lem 1 n h b (omega arith)

  pub u16_at_lem : (n : ℕ) → Here s at (digits 2 n) r → n < 256 ^ 2 → u16_at s at ≡ got_at n (at + 2)
  unfolding u16_at
  u16_at_lem n h b = uint_at_lem 2 n h b (omega arith)

  pub u24_at_lem : (n : ℕ) → Here s at (digits 3 n) r → n < 256 ^ 3 → u24_at s at ≡ got_at n (at + 3)
  unfolding u24_at
  u24_at_lem n h b = uint_at_lem 3 n h b (omega arith)

  pub u32_at_lem : (n : ℕ) → Here s at (digits 4 n) r → n < 256 ^ 4 → u32_at s at ≡ got_at n (at + 4)
  unfolding u32_at
  u32_at_lem n h b = uint_at_lem 4 n h b (omega arith)

  pub u64_at_lem : (n : ℕ) → Here s at (digits 8 n) r → n < 256 ^ 8 → u64_at s at ≡ got_at n (at + 8)
  unfolding u64_at
  u64_at_lem n h b = uint_at_lem 8 n h b (omega arith)

  pub str_at_lem : (t : List ℕ) → Here s at t r → at + length t ≤ length s → utf8 t ≡ true → str_at (length t) s at ≡ got_at (record { place = at; length = length t }) (at + length t)
  unfolding str_at
  str_at_lem t h f u = rw (le-leb (at + length t) (length s) f, there (length t) h refl, u)

pub text_at_lem : {s r : List ℕ} {at : ℕ} (w : ℕ) (t : List ℕ) → Here s at (digits w (length t) ++ t) r → length t < 256 ^ w → utf8 t ≡ true → 1 ≤ w
    → text_at w s at ≡ got_at (record { place = at + w; length = length t }) (at + w + length t)
unfolding text_at
text_at_lem {s} {r} {at} w t h b u p =
    let d : Here s at (digits w (length t)) (t ++ r) = cut (digits w (length t)) t h in
    let l = length_digits w (length t) in
    let f : at + w + length t ≤ length s = omega (arith, inside h (omega (arith, length-append (digits w (length t)) t)), length-append (digits w (length t)) t) in
    rw (le-leb (at + w) (length s) (omega arith), there w d l, number_digits w (length t) b) (str_at_lem t (behind d l refl) f u)

equal_refl : (x : List ℕ) → equal x x ≡ true
equal_refl [] = refl
equal_refl (a ∷ x) = rw (eq-eqb a a refl) (equal_refl x)

pub tag_at_lem : {s r : List ℕ} {at : ℕ} (fixed : List ℕ) → Here s at fixed r → 1 ≤ length fixed → tag_at fixed s at ≡ Ok (to (at + length fixed))
unfolding tag_at
tag_at_lem {s} {at} fixed h p = rw (le-leb (at + length fixed) (length s) (inside h p), there (length fixed) h refl, equal_refl fixed)

-- ---- what was read stood there

-- the number n in w bytes stands at a place
pub record Stood (w : ℕ) (s : List ℕ) (at n : ℕ) : Type 0 where
  pub here : Here s at (digits w n) (drop (at + w) s)
  pub bound : n < 256 ^ w

-- a text of n bytes behind its length of w bytes stands at a place
pub record StoodText (w : ℕ) (s : List ℕ) (at n : ℕ) : Type 0 where
  pub here : Here s at (digits w n ++ bytes_at n s (at + w)) (drop (at + w + n) s)
  pub long : length (bytes_at n s (at + w)) ≡ n
  pub bound : n < 256 ^ w
  pub right : utf8 (bytes_at n s (at + w)) ≡ true

module _ (s : List ℕ) (at : ℕ) where
  pub byte_stood : at < length s → Here s at (get_or s at 0 ∷ []) (drop (at + 1) s)
  byte_stood h = record { same = rw add-one (drop-cons s at 0 h) }

module _ (s : List ℕ) (bs : Bytes s) (at : ℕ) where
  pub number_stood : (w : ℕ) → at + w ≤ length s → Stood w s at (number (bytes_at w s at))
  number_stood w h =
      let l = length_bytes w s at h in
      let b : Bytes (bytes_at w s at) = bytes_here (stood w s at) bs in
      record {
        here = rw (ap (λ n. digits n (number (bytes_at w s at))) (sym l) ∙ digits_number (bytes_at w s at) b) (stood w s at);
        bound = rw l at (number_bound (bytes_at w s at) b);
      }

  pub text_stood : (w n : ℕ) → n ≡ number (bytes_at w s at) → at + w + n ≤ length s → utf8 (bytes_at n s (at + w)) ≡ true → StoodText w s at n
  text_stood w n e h u =
      let d : Stood w s at n = rw e (number_stood w (omega arith)) in
      record { here = join d.here (length_digits w n) (stood n s (at + w)); long = length_bytes n s (at + w) h; bound = d.bound; right = u }

  read_ends : (w n : ℕ) (c : Cursor) → Read w s at n c → Stood w s at n
  read_ends w n c r = rw r.value (number_stood w r.within)

  pub u16_ends : (n : ℕ) (c : Cursor) → u16_at s at ≡ Ok (n, c) → Stood 2 s at n
  u16_ends n c e = read_ends 2 n c (u16_next s at n c e)

equal_same : (x y : List ℕ) → equal x y ≡ true → x ≡ y
equal_same [] [] e = refl
equal_same [] (b ∷ y) e = let z : ◌≡◌ {A = ℕ} 0 1 = cc in absurd (omega arith)
equal_same (a ∷ x) [] e = let z : ◌≡◌ {A = ℕ} 0 1 = cc in absurd (omega arith)
equal_same (a ∷ x) (b ∷ y) f =
    picked (λ t. t ≡ true → a ∷ x ≡ b ∷ y) (eqb a b) _ _ (λ h e. ap₂ ◌∷◌ (eqb-true a b h) (equal_same x y e))
    (λ h e. let z : ◌≡◌ {A = ℕ} 0 1 = cc in absurd (omega arith)) f

pub tag_ends : (fixed s : List ℕ) (at : ℕ) (c : Cursor) → tag_at fixed s at ≡ Ok c → Here s at fixed (drop (at + length fixed) s)
tag_ends fixed s at c e =
    let r = tag_next s at fixed c e in
    let same : bytes_at (length fixed) s at ≡ fixed = equal_same (bytes_at (length fixed) s at) fixed r.right in
    rw same at (stood (length fixed) s at)

-- ---- a field has two ends, a text four

module _ (w : ℕ) (s : List ℕ) (at : ℕ) where
  number_case : (Q : Parsed ℕ → Type 0) → (at + w ≤ length s → Q (got_at (number (bytes_at w s at)) (at + w))) → (length s < at + w → Q (denied 2 at))
      → Q (uint_at w s at)
  number_case Q is out = picked Q (leb (at + w) (length s)) _ _ (λ h. is (leb-true _ _ h)) (λ h. out (leb-false _ _ h))

module _ (s : List ℕ) (at : ℕ) where
  byte_number : at < length s → number (bytes_at 1 s at) ≡ get_or s at 0
  byte_number h = ap number (there 1 (byte_stood s at h) refl) ∙ omega arith

module _ {A : Type 0} (P : A → Type 0) (stop : ℕ → ℕ → A) (s : List ℕ) (at : ℕ) where
  pub go8 : (k : ℕ → ℕ → A) → (at < length s → P (k (get_or s at 0) (at + 1))) → (length s ≤ at → P (stop 2 at)) → P (got stop (u8_at s at) k)
  unfolding u8_at
  go8 k is out =
      number_case 1 s at (λ u. P (got stop u k)) (λ h. let l : at < length s = omega arith in rw (byte_number s at l) (is l))
      (λ h. out (omega arith))

  pub go16 : (k : ℕ → ℕ → A) → (at + 2 ≤ length s → P (k (number (bytes_at 2 s at)) (at + 2))) → (length s < at + 2 → P (stop 2 at))
      → P (got stop (u16_at s at) k)
  unfolding u16_at
  go16 k = number_case 2 s at (λ u. P (got stop u k))

  pub go32 : (k : ℕ → ℕ → A) → (at + 4 ≤ length s → P (k (number (bytes_at 4 s at)) (at + 4))) → (length s < at + 4 → P (stop 2 at))
      → P (got stop (u32_at s at) k)
  unfolding u32_at
  go32 k = number_case 4 s at (λ u. P (got stop u k))

  pub go64 : (k : ℕ → ℕ → A) → (at + 8 ≤ length s → P (k (number (bytes_at 8 s at)) (at + 8))) → (length s < at + 8 → P (stop 2 at))
      → P (got stop (u64_at s at) k)
  unfolding u64_at
  go64 k = number_case 8 s at (λ u. P (got stop u k))

  pub go_text : (w : ℕ) (k : ℕ → ℕ → ℕ → A)
      → ((n : ℕ) → n ≡ number (bytes_at w s at) → at + w + n ≤ length s → utf8 (bytes_at n s (at + w)) ≡ true → P (k (at + w) n (at + w + n)))
      → (length s < at + w → P (stop 2 at))
      → ((n : ℕ) → n ≡ number (bytes_at w s at) → at + w ≤ length s → length s < at + w + n → P (stop 2 (at + w)))
      → ((n : ℕ) → n ≡ number (bytes_at w s at) → at + w + n ≤ length s → utf8 (bytes_at n s (at + w)) ≡ false → P (stop 3 (at + w)))
      → P (got_text stop (text_at w s at) k)
  unfolding text_at str_at
  go_text w k is short cut_off wrong =
      let n : ℕ = number (bytes_at w s at) in
      let Q : Parsed Span → Type 0 = λ u. P (got_text stop u k) in
      picked Q (leb (at + w) (length s)) _ _
      (λ h. picked Q (leb (at + w + n) (length s)) _ _
      (λ i. picked Q (utf8 (bytes_at n s (at + w))) _ _ (is n refl (leb-true _ _ i)) (wrong n refl (leb-true _ _ i)))
      (λ i. cut_off n refl (leb-true _ _ h) (leb-false _ _ i)))
      (λ h. short (leb-false _ _ h))

-- ---- what comes of a field, of an input that is bytes: of what stood there, or of a refusal

module _ {A : Type 0} (P : A → Type 0) (stop : ℕ → ℕ → A) (halts : (a p : ℕ) → P (stop a p)) (s : List ℕ) (bs : Bytes s) (at : ℕ) where
  pub end8 : (k : ℕ → ℕ → A) → ((b : ℕ) → Here s at (b ∷ []) (drop (at + 1) s) → P (k b (at + 1))) → P (got stop (u8_at s at) k)
  end8 k g = go8 P stop s at k (λ l. g _ (byte_stood s at l)) (λ l. halts 2 at)

  pub end16 : (k : ℕ → ℕ → A) → ((n : ℕ) → Stood 2 s at n → P (k n (at + 2))) → P (got stop (u16_at s at) k)
  end16 k g = go16 P stop s at k (λ l. g _ (number_stood s bs at 2 l)) (λ l. halts 2 at)

  pub end32 : (k : ℕ → ℕ → A) → ((n : ℕ) → Stood 4 s at n → P (k n (at + 4))) → P (got stop (u32_at s at) k)
  end32 k g = go32 P stop s at k (λ l. g _ (number_stood s bs at 4 l)) (λ l. halts 2 at)

  pub end64 : (k : ℕ → ℕ → A) → ((n : ℕ) → Stood 8 s at n → P (k n (at + 8))) → P (got stop (u64_at s at) k)
  end64 k g = go64 P stop s at k (λ l. g _ (number_stood s bs at 8 l)) (λ l. halts 2 at)

  pub end_text : (w : ℕ) (k : ℕ → ℕ → ℕ → A)
      → ((t r : List ℕ) → Here s at (digits w (length t) ++ t) r → length t < 256 ^ w → utf8 t ≡ true → P (k (at + w) (length t) (at + w + length t)))
      → P (got_text stop (text_at w s at) k)
  end_text w k g =
      go_text P stop s at w k
      (λ n e l u.
      let d = text_stood s bs at w n e l u in
      rw d.long at (g (bytes_at n s (at + w)) (drop (at + w + n) s) (rw d.long d.here) (rw d.long d.bound) u))
      (λ l. halts 2 at) (λ n e l m. halts 2 (at + w)) (λ n e l u. halts 3 (at + w))

-- ---- the same in a part that begins behind x: its places are counted from the whole's start

module _ (x s : List ℕ) (at : ℕ) where
  fit_both : (w : ℕ) → at + w ≤ length s → leb (length x + at + w) (length (x ++ s)) ≡ true
  fit_both w h = le-leb (length x + at + w) (length (x ++ s)) (omega (arith, length-append x s))

  out_both : (w : ℕ) → length s < at + w → leb (length x + at + w) (length (x ++ s)) ≡ false
  out_both w h = lt-leb (length x + at + w) (length (x ++ s)) (omega (arith, length-append x s))

  pub fits_both : (w : ℕ) → leb (length x + at + w) (length (x ++ s)) ≡ leb (at + w) (length s)
  fits_both w = go (leb (at + w) (length s)) refl
    where
      go : (t : Bool) → leb (at + w) (length s) ≡ t → leb (length x + at + w) (length (x ++ s)) ≡ t
      go true e = fit_both w (leb-true _ _ e)
      go false e = out_both w (leb-false _ _ e)

  pub bytes_both : (w : ℕ) → bytes_at w (x ++ s) (length x + at) ≡ bytes_at w s at
  bytes_both w = ap (take w) (drop-append-add x s at)

module _ (w : ℕ) (x s : List ℕ) (at : ℕ) where
  number_both : (Q : Parsed ℕ → Parsed ℕ → Type 0)
      → (at + w ≤ length s → Q (got_at (number (bytes_at w s at)) (length x + (at + w))) (got_at (number (bytes_at w s at)) (at + w)))
      → (length s < at + w → Q (denied 2 (length x + at)) (denied 2 at)) → Q (uint_at w (x ++ s) (length x + at)) (uint_at w s at)
  number_both Q is out =
      number_case w s at (Q (uint_at w (x ++ s) (length x + at)))
      (λ h. rw (fit_both x s at w h, bytes_both x s at w, add_assoc (length x) at w) (is h)) (λ h. rw (out_both x s at w h) (out h))

module _ {A B : Type 0} (P : A → B → Type 0) (stop : ℕ → ℕ → A) (halt : ℕ → ℕ → B) (x s : List ℕ) (at : ℕ) where
  pub both8 : (k : ℕ → ℕ → A) (l : ℕ → ℕ → B) → (at < length s → P (k (get_or s at 0) (length x + (at + 1))) (l (get_or s at 0) (at + 1)))
      → (length s ≤ at → P (stop 2 (length x + at)) (halt 2 at)) → P (got stop (u8_at (x ++ s) (length x + at)) k) (got halt (u8_at s at) l)
  unfolding u8_at
  both8 k l is out =
      number_both 1 x s at (λ u v. P (got stop u k) (got halt v l))
      (λ h. let l : at < length s = omega arith in rw (byte_number s at l) (is l)) (λ h. out (omega arith))

  pub both16 : (k : ℕ → ℕ → A) (l : ℕ → ℕ → B)
      → (at + 2 ≤ length s → P (k (number (bytes_at 2 s at)) (length x + (at + 2))) (l (number (bytes_at 2 s at)) (at + 2)))
      → (length s < at + 2 → P (stop 2 (length x + at)) (halt 2 at)) → P (got stop (u16_at (x ++ s) (length x + at)) k) (got halt (u16_at s at) l)
  unfolding u16_at
  both16 k l = number_both 2 x s at (λ u v. P (got stop u k) (got halt v l))

  pub both32 : (k : ℕ → ℕ → A) (l : ℕ → ℕ → B)
      → (at + 4 ≤ length s → P (k (number (bytes_at 4 s at)) (length x + (at + 4))) (l (number (bytes_at 4 s at)) (at + 4)))
      → (length s < at + 4 → P (stop 2 (length x + at)) (halt 2 at)) → P (got stop (u32_at (x ++ s) (length x + at)) k) (got halt (u32_at s at) l)
  unfolding u32_at
  both32 k l = number_both 4 x s at (λ u v. P (got stop u k) (got halt v l))

  pub both64 : (k : ℕ → ℕ → A) (l : ℕ → ℕ → B)
      → (at + 8 ≤ length s → P (k (number (bytes_at 8 s at)) (length x + (at + 8))) (l (number (bytes_at 8 s at)) (at + 8)))
      → (length s < at + 8 → P (stop 2 (length x + at)) (halt 2 at)) → P (got stop (u64_at (x ++ s) (length x + at)) k) (got halt (u64_at s at) l)
  unfolding u64_at
  both64 k l = number_both 8 x s at (λ u v. P (got stop u k) (got halt v l))

  pub both_text : (w : ℕ) (k : ℕ → ℕ → ℕ → A) (l : ℕ → ℕ → ℕ → B)
      → ((n : ℕ) → at + w + n ≤ length s → P (k (length x + (at + w)) n (length x + (at + w + n))) (l (at + w) n (at + w + n)))
      → ((a p : ℕ) → P (stop a (length x + p)) (halt a p)) → P (got_text stop (text_at w (x ++ s) (length x + at)) k) (got_text halt (text_at w s at) l)
  unfolding text_at str_at
  both_text w k l is out =
      go_text (P (got_text stop (text_at w (x ++ s) (length x + at)) k)) halt s at w l
      (λ n e h u.
      rw (fit_both x s at w (omega arith), bytes_both x s at w, ← e, add_assoc (length x) at w, fit_both x s (at + w) n h, bytes_both x s (at + w) n, u)
      (rw (add_assoc (length x) (at + w) n) (is n h)))
      (λ h. rw (out_both x s at w h) (out 2 at))
      (λ n e h i. rw (fit_both x s at w h, bytes_both x s at w, ← e, add_assoc (length x) at w, out_both x s (at + w) n i) (out 2 (at + w)))
      (λ n e h u.
      rw (fit_both x s at w (omega arith), bytes_both x s at w, ← e, add_assoc (length x) at w, fit_both x s (at + w) n h, bytes_both x s (at + w) n, u)
      (out 3 (at + w)))
