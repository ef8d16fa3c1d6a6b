-- Where a field refuses the input, the reading of a value stops.
use Rattle.std.specs.Prelude.{◌+◌, ◌^◌, ◌≤◌, ◌<◌, ◌≡◌, ◌≢◌, ◌∷◌, ◌++◌, Option}
use Rattle.wire.proofs.Kit.{ℕ, zero, suc, refl, sym, ap, ◌∙◌, List, [], true, arith, length, drop, get_or, length-append}
use Rattle.wire.proofs.Kit.{eqb, le-leb, lt-leb, eqb-true, ne_eqb}
use Prim.Native.Nat.{pred}
use Rattle.wire.specs.Number.{digits, number}
use Rattle.wire.specs.Utf8.{utf8}
use Rattle.wire.specs.Field.{bytes_at, u8_at, u16_at, u32_at, u64_at, text_at, got_text, got_to}
use Rattle.wire.specs.declared.cursor.Cursor.{Cursor}
use Rattle.wire.proofs.Laws.{picked}
use Rattle.wire.proofs.Stands.{Here, cut, skip, after, byte_at, u64_at_lem, text_at_lem, byte_stood, go8}
use Rattle.image.specs.declared.record.Record.{Record}
use Rattle.image.specs.Due.{Due, stop, Stops}
use Rattle.amf0.specs.declared.read.Follow.{Follow}
use Rattle.amf0.specs.declared.read.Follow.TheVariants.{Nothing, Pairs}
use Rattle.amf0.specs.Marker.{marker_of}
use Rattle.amf0.specs.Fields.{fields_at, gives, shut, behind, Fields}
use Rattle.image.proofs.Settle.{stops_behind}
use Rattle.amf0.specs.Reading.{items, pair, pairs, value}
use Rattle.amf0.specs.Standard.{Sort, content}
use Rattle.amf0.specs.Standard.UTF-8.{short}
use Rattle.amf0.proofs.Laws.{value_cut}
use Rattle.amf0.proofs.Rows.{item_at, item_at_lem}
use Rattle.amf0_theorems.specs.Refusal.{Field, Bars, Refuses, InText, Own, Leads, RefusedValue}
use Rattle.amf0_theorems.specs.Refusal.Bars.{movie_clip, object_end, record_set}
use Rattle.amf0_theorems.proofs.Refused.{stops_first, left_over, text_stops, shut_number}
use Rattle.amf0_theorems.proofs.Complete.{part, follow_next, value_item, value_at_lem, past, pairs_at, begun, within}
use Rattle.amf0_theorems.proofs.Telling.{reads}
use Rattle.wire.specs.Answer.{denied}
use Rattle.amf0.specs.declared.type_marker.TypeMarker.{TypeMarker}

-- a marker that is not there
value_short : (left : ℕ) (s : List ℕ) (at : ℕ) → length s ≤ at → value left s at ≡ stop 2 at
unfolding u8_at
value_short left s at h = value_cut s at left (rw (lt-leb (at + 1) (length s) (omega arith)))

-- a marker that marks no value
pub value_bars : {m : ℕ} {c : Cursor} (left : ℕ) (s : List ℕ) (at : ℕ) → Bars m → u8_at s at ≡ got_to m c → value left s at ≡ stop 3 at
unfolding value fields_at marker_of
value_bars zero s at movie_clip e = rw e
value_bars zero s at object_end e = rw e
value_bars zero s at record_set e = rw e
value_bars (suc left) s at movie_clip e = rw e
value_bars (suc left) s at object_end e = rw e
value_bars (suc left) s at record_set e = rw e

-- where no level is left, a marker that marks a value is refused with 5
shut_deep : (m : ℕ) → (Bars m → ⊥) → shut (marker_of m) ≡ 5
shut_deep m no_bars =
    rw (shut_number m, ne_eqb m 4 (λ e. no_bars (rw e movie_clip)), ne_eqb m 9 (λ e. no_bars (rw e object_end)), ne_eqb m 14 (λ e. no_bars (rw e record_set)))

-- a marker that refuses the input
marker_stops : {r : List ℕ} {left a : ℕ} (s : List ℕ) (at : ℕ) → Refuses (Field.marker left) r a → Here s at [] r → at ≤ length s → value left s at ≡ stop a at
unfolding value
marker_stops {left} s at (Refuses.short i) h l = value_short left s at (omega (arith, left_over h l))
marker_stops {left} s at (Refuses.no_value {m} b) h l = value_bars left s at b (byte_at m (record { same = h.same }))
marker_stops s at (Refuses.too_deep {m} d) h l = rw (byte_at m (record { same = h.same }), shut_deep m d)

module _ {s r : List ℕ} {at : ℕ} (l : at ≤ length s) where
  -- what the fields behind a marker come to, the item comes to
  behind_marker : (m : ℕ) (y : List ℕ) {t : Option TypeMarker} {f : Fields} → marker_of m ≡ t → Here s at (m ∷ y) r → behind s at (at + 1) t ≡ f → item_at s at ≡ f
  unfolding item_at
  behind_marker m y e h g = rw (byte_at m (cut (m ∷ []) y h), e) g

  -- a text behind a marker
  text_behind : {w a : ℕ} {f : Field} (m : ℕ) (x : List ℕ) {t : Option TypeMarker} (q : ℕ → ℕ → Record) (g : Follow) → marker_of m ≡ t
      → behind s at (at + 1) t ≡ got_text denied (text_at w s (at + 1)) (λ p n e. gives (q p n) g e) → 1 ≤ w → InText w x f → Refuses f r a → Here s at (m ∷ x) r
      → item_at s at ≡ denied a (at + suc (length x))
  text_behind {a} m x q g e i o t u h = behind_marker m x e h (i ∙ rw (text_stops o t u (skip (m ∷ []) x h)) (ap (denied a) (omega arith)))

  -- a field of a value's own that refuses the input
  own_stops : {a : ℕ} {x : List ℕ} {f : Field} → Own x f → Refuses f r a → Here s at x r → item_at s at ≡ denied a (at + length x)
  unfolding fields_at marker_of u8_at u16_at u32_at u64_at
  own_stops Own.number (Refuses.short i) h = behind_marker 0 [] refl h (rw (lt-leb (at + 1 + 8) (length s) (omega (arith, left_over h l))))
  own_stops Own.boolean (Refuses.short i) h = behind_marker 1 [] refl h (rw (lt-leb (at + 1 + 1) (length s) (omega (arith, left_over h l))))
  own_stops (Own.string {x} t) u h = text_behind 2 x _ Nothing refl refl (omega arith) t u h
  own_stops Own.reference (Refuses.short i) h = behind_marker 7 [] refl h (rw (lt-leb (at + 1 + 2) (length s) (omega (arith, left_over h l))))
  own_stops Own.ecma_array (Refuses.short i) h = behind_marker 8 [] refl h (rw (lt-leb (at + 1 + 4) (length s) (omega (arith, left_over h l))))
  own_stops Own.strict_array (Refuses.short i) h = behind_marker 10 [] refl h (rw (lt-leb (at + 1 + 4) (length s) (omega (arith, left_over h l))))
  own_stops Own.strict_array (Refuses.too_few i j) h =
      let e : drop (at + 1) s ≡ r = after h refl in
      let n : ℕ = number (bytes_at 4 s (at + 1)) in
      let k : length r < 4 + n = rw e j in
      behind_marker 10 [] refl h
      (rw (le-leb (at + 1 + 4) (length s) (omega (arith, left_over h l)), lt-leb (at + 1 + 4 + n) (length s) (omega (arith, left_over h l))))
  own_stops Own.date (Refuses.short i) h = behind_marker 11 [] refl h (rw (lt-leb (at + 1 + 8) (length s) (omega (arith, left_over h l))))
  own_stops (Own.time_zone {n} b) (Refuses.short i) h =
      behind_marker 11 (digits 8 n) refl h
      (rw (u64_at_lem n (skip (11 ∷ []) (digits 8 n) h) b, lt-leb (at + 1 + 8 + 2) (length s) (omega (arith, left_over h l))) (ap (denied 2) (omega arith)))
  own_stops (Own.long_string {x} t) u h = text_behind 12 x _ Nothing refl refl (omega arith) t u h
  own_stops (Own.xml_document {x} t) u h = text_behind 15 x _ Nothing refl refl (omega arith) t u h
  own_stops (Own.typed_object {x} t) u h = text_behind 16 x _ Pairs refl refl (omega arith) t u h

-- where no end marker stands behind a name, the properties are refused where the name's value is
value_stops : (left : ℕ) (k s r : List ℕ) (at fuel a p : ℕ) → Here s at (digits 2 (length k) ++ k) r → length k < 256 ^ 2 → utf8 k ≡ true → 1 ≤ fuel
    → ((z : List ℕ) → r ≢ 9 ∷ z) → Stops (value left s (at + 2 + length k)) a p → Stops (pairs (value left s) s fuel at) a p
unfolding pairs pair
value_stops left k s r at zero a p h b u f other t = absurd (omega arith)
value_stops left k s r at (suc fuel) a p h b u f other t =
    let q : ℕ = at + 2 + length k in
    let P : Due → Type 0 = λ d. Stops d a p in
    let g : q ≡ at + length (digits 2 (length k) ++ k) = omega arith in
    let e : drop q s ≡ r = ap (λ n. drop n s) g ∙ after h refl in
    rw (text_at_lem 2 k h b u (omega arith))
    (go8 P stop s q _
    (λ i. picked P (eqb (get_or s q 0) 9) _ _
    (λ c. absurd (other (drop (q + 1) s) (sym e ∙ ((byte_stood s q i).same ∙ ap (λ m. m ∷ drop (q + 1) s) (eqb-true (get_or s q 0) 9 c)))))
    (λ c. stops_first (value left s q) (pairs (value left s) s fuel) a p t))
    (λ i. rw (value_short left s q i) at t))

-- a value whose marker or fields are refused
item_stops : {a p : ℕ} (left : ℕ) (s : List ℕ) (at : ℕ) → item_at s at ≡ denied a p → Stops (value (suc left) s at) a p
item_stops left s at e = rw (value_item left s at, e) (refl, refl)

-- a name is refused by one of its two fields
name_stops : {r x : List ℕ} {f : Field} {a : ℕ} (inner : ℕ → Due) (s : List ℕ) (at fuel : ℕ) → InText 2 x f → Refuses f r a → Here s at x r → at ≤ length s
    → length x ≤ fuel → Stops (pairs inner s fuel at) a (at + length x)
unfolding pairs
name_stops inner s at zero InText.size (Refuses.short i) h l j = (refl, omega arith)
name_stops inner s at zero (InText.letters b) u h l j = absurd (omega arith)
name_stops inner s at (suc fuel) t u h l j = rw (text_stops (omega arith) t u h) (refl, refl)

-- where a field refuses the input, the reading of the row stops there
leads_stop : {r x : List ℕ} {left : ℕ} {k : Sort} {f : Field} {a : ℕ} → Leads r left k x f → Refuses f r a → (s : List ℕ) (at fuel : ℕ) → Here s at x r
    → at ≤ length s → length x ≤ fuel → Stops (part (value left s) s fuel k at) a (at + length x)
unfolding items
leads_stop Leads.marker u s at fuel h l i = rw (marker_stops s at u h l) (refl, omega arith)
leads_stop (Leads.own {left} o) u s at fuel h l i = item_stops left s at (own_stops l o u h)
leads_stop {r} {a} (Leads.inside {left} {i = w} {x} {y} row c d) u s at fuel h l i =
    let q : ℕ = at + length x in
    let z = skip x y h in
    let p : at + length (x ++ y) ≡ q + length y = omega (arith, length-append x y) in
    rw (
      value_at_lem s at (suc left) (item_at_lem s (y ++ r) at q row (cut x y h) refl (omega (arith, left_over (cut x y h) l))) (omega arith),
      follow_next (value left s) s (content w) q,
      p,
    )
    (leads_stop d u s q (length s) z (omega (arith, left_over h l, length-append x y)) (within z))
leads_stop {left} (Leads.name t) u s at fuel h l i = name_stops (value left s) s at fuel t u h l i
leads_stop {r} {left} {a} (Leads.property {y} (short k b c) other d) u s at fuel h l i =
    let q : ℕ = at + 2 + length k in
    let p : at + length ((digits 2 (length k) ++ k) ++ y) ≡ q + length y = omega (arith, length-append k y) in
    rw p
    (value_stops left k s (y ++ r) at fuel a (q + length y) (cut (digits 2 (length k) ++ k) y h) b c (omega arith) other
    (leads_stop d u s q (length y) (past k y h) (omega (arith, left_over h l, length-append k y)) (omega arith)))
leads_stop {r} {left} {a} (Leads.next_property {y} {z} (short k b c) e g d) u s at fuel h l i =
    let q : ℕ = at + 2 + length k in
    let j : Here s q (y ++ z) r = past k (y ++ z) h in
    let m = begun e in
    let lk = length-append k (y ++ z) in
    let ly = length-append y z in
    let p : at + length ((digits 2 (length k) ++ k) ++ (y ++ z)) ≡ q + length y + length z = omega arith in
    rw (
      p,
      pairs_at {m = m.first} (value left s) fuel k (omega arith) b c (cut (digits 2 (length k) ++ k) (y ++ z) h)
          (record { same = (cut y z j).same ∙ ap (λ w. w ++ (z ++ r)) m.same }),
      m.other,
    )
    (stops_behind (value left s q) (pairs (value left s) s (pred fuel)) (q + length y) a (q + length y + length z)
    (reads left s (z ++ r) q e (cut y z j) g).ends
    (leads_stop d u s (q + length y) (pred fuel) (skip y z j) (omega (arith, left_over h l)) (omega arith)))
leads_stop {left} {a} (Leads.first {n} {x} d) u s at fuel h l i =
    stops_first (value left s at) (items (value left s) n) a (at + length x) (leads_stop d u s at fuel h l i)
leads_stop {r} {left} {a} (Leads.next {n} {x} {y} e g d) u s at fuel h l i =
    let p : at + length (x ++ y) ≡ at + length x + length y = omega (arith, length-append x y) in
    rw p
    (stops_behind (value left s at) (items (value left s) n) (at + length x) a (at + length x + length y)
    (reads left s (y ++ r) at e (cut x y h) g).ends
    (leads_stop d u s (at + length x) (length y) (skip x y h) (omega (arith, left_over h l, length-append x y)) (omega arith)))

-- the same of a value
pub refused_stops : (left : ℕ) (s : List ℕ) (at a p : ℕ) → at ≤ length s → RefusedValue left s at a p → Stops (value left s at) a p
refused_stops left s at a p l t =
    rw t.here (leads_stop t.leads t.refuses s at (length t.before) (record { same = t.stands }) l (omega arith))
