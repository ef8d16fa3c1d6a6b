-- The laws of a refusal by a field, whatever fields lead to it.
use Rattle.std.specs.Prelude.{◌+◌, ◌^◌, ◌≤◌, ◌<◌, ◌≡◌, ◌≢◌, ◌∷◌, ◌++◌}
use Rattle.wire.proofs.Kit.{ℕ, refl, sym, ap, ◌∙◌, List, [], append_assoc, true, arith, length, take, drop}
use Rattle.wire.proofs.Kit.{length-append, length-drop, take-append-le, drop-append-le, le-leb, lt-leb, eqb, ne_eqb}
use lib.Seq.{take-nil}
use Rattle.wire.specs.Number.{digits, number, Bytes}
use Rattle.wire.specs.Utf8.{utf8, ends}
use Rattle.wire.specs.Field.{bytes_at, str_at, text_at, got_text}
use Rattle.wire.proofs.Laws.{false_true, length_digits, number_digits}
use Rattle.wire.proofs.Stands.{Here, after, join, behind, inside, there, number_stood, text_stood, go_text}
use Rattle.image.specs.Due.{Due, end, stop, seen, due, ◌>>=◌, Ends, Stops}
use Rattle.amf0_theorems.specs.Refusal.{Field, Refuses, InText, Refused}
use Rattle.wire.specs.Choice.{pick}
use Rattle.amf0.specs.Marker.{marker_of}
use Rattle.amf0.specs.Fields.{shut}
use Rattle.amf0.proofs.Rows.{◌▸◌, each_marker}
use Rattle.wire.specs.Answer.{denied}

-- where no level is left, by a marker's number
pub shut_number : (m : ℕ) → shut (marker_of m) ≡ pick (eqb m 4) 3 (pick (eqb m 9) 3 (pick (eqb m 14) 3 5))
shut_number =
    each_marker (λ m t. shut t ≡ pick (eqb m 4) 3 (pick (eqb m 9) 3 (pick (eqb m 14) 3 5)))
    (refl ▸ refl ▸ refl ▸ refl ▸ refl ▸ refl ▸ refl ▸ refl ▸ refl ▸ refl ▸ refl ▸ refl ▸ refl ▸ refl ▸ refl ▸ refl ▸ refl ▸ refl ▸ tt)
    λ m h. rw (ne_eqb m 4 (λ e. omega arith), ne_eqb m 9 (λ e. omega arith), ne_eqb m 14 (λ e. omega arith))

-- ---- how a reading stops

-- where a reading is refused, R holds of the answer and the place
abbrev pub Told : (ℕ → ℕ → Type 0) → Due → Type 0
Told R (end n) = Unit {0}
Told R (stop a p) = R a p
Told R (seen fact d) = Told R d
Told R (due r p d) = Told R d

-- what follows from it holds there too
pub told_map : {R Q : ℕ → ℕ → Type 0} (d : Due) → ((a p : ℕ) → R a p → Q a p) → Told R d → Told Q d
told_map (end n) f t = tt
told_map (stop a p) f t = f a p t
told_map (seen fact d) f t = told_map d f t
told_map (due r p d) f t = told_map d f t

-- one reading and then another: it holds where either is refused
pub told_bind : (R : ℕ → ℕ → Type 0) (d : Due) (k : ℕ → Due) → Told R d → ((n : ℕ) → Ends d n → Told R (k n)) → Told R (d >>= k)
told_bind R (end n) k t f = f n refl
told_bind R (stop a p) k t f = t
told_bind R (seen fact d) k t f = told_bind R d k t f
told_bind R (due r p d) k t f = told_bind R d k t f

-- so it holds of the answer and the place that the reading is refused with
pub told_stops : (R : ℕ → ℕ → Type 0) (d : Due) (a p : ℕ) → Told R d → Stops d a p → R a p
told_stops R (end n) a p t h = absurd h
told_stops R (stop b q) a p t h = rw (h.0, h.1) t
told_stops R (seen fact d) a p t h = told_stops R d a p t h
told_stops R (due r q d) a p t h = told_stops R d a p t h

-- one reading and then another is refused where the first is
pub stops_first : (d : Due) (k : ℕ → Due) (a p : ℕ) → Stops d a p → Stops (d >>= k) a p
stops_first (end n) k a p h = absurd h
stops_first (stop b q) k a p h = h
stops_first (seen fact d) k a p h = stops_first d k a p h
stops_first (due r q d) k a p h = stops_first d k a p h

-- ---- the field that refuses an input

-- it is inside the input
pub refused_inside : {L : List ℕ → List ℕ → Field → Type 0} {s : List ℕ} {at a p : ℕ} → Refused L s at a p → at ≤ length s → p ≤ length s
refused_inside {s = s} {at} r l = omega (arith, r.here, ap length r.stands, length-drop at s, length-append r.before r.rest)

-- what is left behind a row that stands at a place of an input
pub left_over : {s x r : List ℕ} {at : ℕ} → Here s at x r → at ≤ length s → length s ≡ at + length x + length r
left_over {s} {x} {r} {at} h l = omega (arith, length-drop at s, ap length h.same, length-append x r)

-- a row stands before a field that refuses the input
pub refuse : {L : List ℕ → List ℕ → Field → Type 0} {s x r : List ℕ} {f : Field} {at a p : ℕ} → Here s at x r → p ≡ at + length x → L r x f → Refuses f r a
    → Refused L s at a p
refuse {x} {r} {f} h e l w = record { before = x; rest = r; field = f; stands = h.same; here = e; leads = l; refuses = w }

-- a refusal behind a row is one from the row on
pub onward : {L M : List ℕ → List ℕ → Field → Type 0} {s m z : List ℕ} {at q a p : ℕ} → Here s at m z → q ≡ at + length m
    → ((r x : List ℕ) (f : Field) → drop q s ≡ x ++ r → L r x f → M r (m ++ x) f) → Refused L s q a p → Refused M s at a p
onward {M} {s} {m} {z} h e g t =
    let same : z ≡ t.before ++ t.rest = sym (after {w = length m} h refl) ∙ (ap (λ u. drop u s) (sym e) ∙ t.stands) in
    refuse {L = M} (join h refl (behind h refl same)) (omega (arith, t.here, length-append m t.before))
    (g t.rest t.before t.field t.stands t.leads) t.refuses

-- a refusal, by other words for what leads to the field
pub reworded : {L M : List ℕ → List ℕ → Field → Type 0} {s : List ℕ} {at a p : ℕ} → ((r x : List ℕ) (f : Field) → L r x f → M r x f) → Refused L s at a p
    → Refused M s at a p
reworded words = onward {m = []} (record { same = refl }) (omega arith) λ r x f e. words r x f

-- ---- a text behind its length

-- what comes of a text: of one that is whole and right, or of a refusal by one of its two fields
module _ {A : Type 0} (P : A → Type 0) (stop : ℕ → ℕ → A) (s : List ℕ) (bs : Bytes s) (at : ℕ) where
  pub text_case : (w : ℕ) → 1 ≤ w → (k : ℕ → ℕ → ℕ → A)
      → ((t r : List ℕ) → Here s at (digits w (length t) ++ t) r → length t < 256 ^ w → utf8 t ≡ true → P (k (at + w) (length t) (at + w + length t)))
      → ((a p : ℕ) → Refused (λ r x f. InText w x f) s at a p → P (stop a p)) → P (got_text stop (text_at w s at) k)
  text_case w one k is out =
      go_text P stop s at w k
      (λ n e i u.
      let d = text_stood s bs at w n e i u in
      rw d.long at (is (bytes_at n s (at + w)) (drop (at + w + n) s) (rw d.long d.here) (rw d.long d.bound) u))
      (λ i.
      let h : Here s at [] (drop at s) = record { same = refl } in
      out 2 at (refuse h (omega arith) InText.size (Refuses.short (omega (arith, length-drop at s)))))
      (λ n e i j. out 2 (at + w) (letters n e i (Refuses.short (omega (arith, length-drop (at + w) s)))))
      (λ n e i u. out 3 (at + w) (letters n e (omega arith) (Refuses.not_utf8 (omega (arith, length-drop (at + w) s)) u)))
    where
      letters : {a : ℕ} (n : ℕ) → n ≡ number (bytes_at w s at) → at + w ≤ length s → Refuses (Field.text n) (drop (at + w) s) a
          → Refused (λ r x f. InText w x f) s at a (at + w)
      letters n e i r =
          let d = number_stood s bs at w i in
          refuse d.here (omega (arith, length_digits w (number (bytes_at w s at)))) (InText.letters d.bound) (rw e at r)

-- the letters of a text are refused
letters_stop : {n a : ℕ} (s : List ℕ) (at : ℕ) → Refuses (Field.text n) (drop at s) a → at ≤ length s → str_at n s at ≡ denied a at
unfolding str_at
letters_stop {n} s at (Refuses.short i) l = rw (lt-leb (at + n) (length s) (omega (arith, length-drop at s)))
letters_stop {n} s at (Refuses.not_utf8 i u) l = rw (le-leb (at + n) (length s) (omega (arith, length-drop at s)), u)

-- a text is refused by one of its two fields
pub text_stops : {w a : ℕ} {s x r : List ℕ} {at : ℕ} {f : Field} → 1 ≤ w → InText w x f → Refuses f r a → Here s at x r
    → text_at w s at ≡ denied a (at + length x)
unfolding text_at
text_stops {w} {s} {r} {at} one InText.size (Refuses.short i) h =
    rw (lt-leb (at + w) (length s) (omega (arith, length-drop at s, ap length h.same))) (ap (denied 2) (omega arith))
text_stops {w} {s} {at} one (InText.letters {n} b) u h =
    let d = length_digits w n in
    let i = inside h (omega arith) in
    rw (le-leb (at + w) (length s) (omega arith), there w h d, number_digits w n b) (rw d (letters_stop s (at + w) (rw (after h d) u) (omega arith)))

-- ---- a refusal that is not for want of bytes stands whatever follows

-- nothing but the empty row is all of no bytes
take_none : (x : List ℕ) → length x ≤ 0 → take (length x) [] ≡ x
take_none [] h = refl
take_none (b ∷ x) h = absurd (omega arith)

-- the field has bytes left
some_left : {f : Field} {a : ℕ} (r : List ℕ) → Refuses f r a → a ≢ 2 → 1 ≤ length r
unfolding ends
some_left r (Refuses.short h) ne = absurd (ne refl)
some_left r (Refuses.too_few h i) ne = absurd (ne refl)
some_left [] (Refuses.not_utf8 {n} h u) ne = absurd (false_true (sym u ∙ ap utf8 (take-nil n)))
some_left (b ∷ r) (Refuses.not_utf8 h u) ne = omega arith
some_left [] (Refuses.other_bytes {x} h d) ne = absurd (d (take_none x h))
some_left (b ∷ r) (Refuses.other_bytes h d) ne = omega arith
some_left r (Refuses.no_value b) ne = omega arith
some_left r (Refuses.too_deep d) ne = omega arith

-- the field refuses with more behind it as it did
still_refuses : {f : Field} {r : List ℕ} {a : ℕ} (q : List ℕ) → Refuses f r a → a ≢ 2 → Refuses f (r ++ q) a
still_refuses q (Refuses.short h) ne = absurd (ne refl)
still_refuses q (Refuses.too_few h i) ne = absurd (ne refl)
still_refuses {r} q (Refuses.not_utf8 {n} h u) ne =
    Refuses.not_utf8 {n = n} {r = r ++ q} (omega (arith, length-append r q)) (ap utf8 (take-append-le n r q h) ∙ u)
still_refuses {r} q (Refuses.other_bytes {x} h d) ne =
    Refuses.other_bytes {x = x} {r = r ++ q} (omega (arith, length-append r q)) λ e. d (sym (take-append-le (length x) r q h) ∙ e)
still_refuses q (Refuses.no_value b) ne = Refuses.no_value b
still_refuses q (Refuses.too_deep d) ne = Refuses.too_deep d

-- so an input is refused with more behind it, where what leads to the field does so then
pub still_refused : {L : List ℕ → List ℕ → Field → Type 0} {s : List ℕ} {at a p : ℕ} (q : List ℕ)
    → ((r x : List ℕ) (f : Field) → 1 ≤ length r → L r x f → L (r ++ q) x f) → Refused L s at a p → a ≢ 2 → Refused L (s ++ q) at a p
still_refused {L} {s} {at} q go t ne =
    let r = t.rest in
    let x = t.before in
    let some = some_left r t.refuses ne in
    let l : at ≤ length s = omega (arith, length-drop at s, ap length t.stands, length-append x r) in
    record {
      before = x;
      rest = r ++ q;
      field = t.field;
      stands = drop-append-le at s q l ∙ (ap (λ u. u ++ q) t.stands ∙ append_assoc x r q);
      here = t.here;
      leads = go r x t.field some t.leads;
      refuses = still_refuses q t.refuses ne;
    }
