-- The laws of a reading carried out with no record laid.
use Rattle.std.specs.Prelude.{◌+◌, ◌-◌, ◌≤◌, ◌<◌, ◌≡◌, Result, Ok, Err, Some}
use Rattle.wire.proofs.Kit.{ℕ, suc, refl, sym, ap, ◌∙◌, arith, List, length, get_or}
use Rattle.wire.specs.Field.{to, u8_at, text_at, got_to}
use Rattle.wire.specs.declared.cursor.Cursor.{Cursor}
use Rattle.wire.proofs.Laws.{same_ok, same_err, same_answer, same_place, number_one, u8_next}
use Rattle.image.specs.declared.record.Record.{Record}
use Rattle.image.specs.Due.Fact.{dropped}
use Rattle.image.specs.Due.{Due, Fact, end, stop, seen, due, ◌>>=◌, based}
use Rattle.image.proofs.Laws.{based_bind, size_bytes, size_some}
use Rattle.amf0.specs.declared.type_marker.TypeMarker.{TypeMarker}
use Rattle.amf0.specs.Marker.{marker_of}
use Rattle.amf0.specs.declared.read.Follow.{Follow}
use Rattle.amf0.specs.Fields.{fields_at, based_fields, got_fields, Fields, fields_to}
use Rattle.amf0.specs.Part.{of_whole}
use Rattle.amf0.specs.Reading.{value, pair, pairs, items, follow, own_at}
use Rattle.amf0.specs.Survey.{end_of, passed, noted, Told, told, count, Onward, Ended, ends_at}
use Rattle.amf0.proofs.Laws.{value_fields, pairs_pair, pair_cut, pair_end, pair_key}
use Rattle.amf0.proofs.Parts.{ends_text}
use Rattle.amf0.proofs.Reasons.{KeptFields, fields_kept}
use Rattle.wire.specs.Answer.{Verdict, denied}
use Rattle.wire.specs.declared.cursor.Span.{Span}
use Rattle.wire.proofs.Same.{ok_first, ok_second}

-- ---- a reading counted, and then another

-- what a count leaves, handed on where it goes on
unfoldable after_end : Ended → List ℕ → (ℕ → List ℕ → Told) → Told
after_end (Ok c) t k = k c.at t
after_end (Err r) t k = told (denied r.answer r.place) t

unfoldable after : Told → (ℕ → List ℕ → Told) → Told
after x k = after_end x.ended x.counts k

count_bind : (d : Due) (k : ℕ → Due) (t : List ℕ) → count (d >>= k) t ≡ after (count d t) (λ n u. count (k n) u)
unfolding count after after_end
count_bind (end n) k t = refl
count_bind (stop a p) k t = refl
count_bind (seen fact d) k t = count_bind d k (noted fact t)
count_bind (due r p d) k t = count_bind d k t

module _ (b : ℕ) (d : Due) (k : ℕ → Due) (t : List ℕ) where
  -- the first goes on, and the second goes on from there
  pub count_then : {c : Cursor} {u : List ℕ} → told (ends_at c) u ≡ count (based b d) t → count (based b (d >>= k)) t ≡ count (based b (k c.at)) u
  unfolding after after_end
  count_then e = rw (based_bind b d k) (count_bind (based b d) (λ n. based b (k n)) t ∙ ap (λ (x : Told). after x (λ n u. count (based b (k n)) u)) (sym e))

  -- the first stops, and so does the whole
  pub count_halt : {a p : ℕ} {u : List ℕ} → told (denied a p) u ≡ count (based b d) t → count (based b (d >>= k)) t ≡ told (denied a p) u
  unfolding after after_end
  count_halt e = rw (based_bind b d k) (count_bind (based b d) (λ n. based b (k n)) t ∙ ap (λ (x : Told). after x (λ n u. count (based b (k n)) u)) (sym e))

module _ (t : List ℕ) where
  pub count_stop : (a p : ℕ) → count (stop a p) t ≡ told (denied a p) t
  unfolding count
  count_stop a p = refl

  pub count_end : (n : ℕ) → count (end n) t ≡ told (ends_at (to n)) t
  unfolding count
  count_end n = refl

-- a reading that stops where a field of the part is refused
pub count_field : {A : Type 0} (b : ℕ) (x : Result A Verdict) (d : Due) (t : List ℕ) {v : Verdict} → ((a p : ℕ) → x ≡ denied a p → d ≡ stop a p)
    → Err v ≡ of_whole b x → told (Err v) t ≡ count (based b d) t
count_field b (Ok y) d t f e = let z : ◌≡◌ {A = ℕ} 0 1 = cc in absurd (omega arith)
count_field b (Err r) d t f e = rw (same_err e, f r.answer r.place refl) (sym (count_stop t _ _))

-- ---- pairs and values in a row, counted

module _ (b : ℕ) (s : List ℕ) (inner : ℕ → Due) (fuel at : ℕ) (t : List ℕ) (h : length s ≤ fuel + at) {key : Span} {q : Cursor} (e : text_at 2 s at ≡ got_to key q) where
  same : pairs inner s fuel at ≡ pair inner (pairs inner s (fuel - 1)) s at key.place key.length q.at
  same = let r = ends_text s at 2 _ e in pairs_pair s at inner fuel h e (omega arith)

  pub pairs_stop : {a p : ℕ} → u8_at s q.at ≡ denied a p → pairs inner s fuel at ≡ stop a p
  pairs_stop f = same ∙ pair_cut s at inner _ _ _ q.at f

  module _ {m : ℕ} {c : Cursor} (f : u8_at s q.at ≡ got_to m c) where
    pub count_pairs_end : m ≡ 9 → count (based b (pairs inner s fuel at)) t ≡ told (ends_at c) (noted (dropped key.length) t)
    unfolding count
    count_pairs_end g = rw (same, pair_end s at inner (pairs inner s (fuel - 1)) key.place key.length q.at f g)

    pub count_pairs : (m ≡ 9 → ⊥) → count (based b (pairs inner s fuel at)) t ≡ count (based b (inner q.at >>= pairs inner s (fuel - 1))) t
    unfolding count
    count_pairs g = rw (same, pair_key s at inner (pairs inner s (fuel - 1)) key.place key.length q.at f g)

pub items_next : (inner : ℕ → Due) (n i at : ℕ) → i < n → items inner (n - i) at ≡ inner at >>= items inner (n - (i + 1))
unfolding items
items_next inner n i at h = let k : n - i ≡ suc (n - (i + 1)) = omega arith in rw k

-- a reading counted ends as the reading does
pub count_ended : (d : Due) (t : List ℕ) → (count d t).ended ≡ end_of d
unfolding count
count_ended (end n) t = refl
count_ended (stop a p) t = refl
count_ended (seen fact d) t = count_ended d (noted fact t)
count_ended (due r p d) t = count_ended d t

-- ---- a value's own fields, passed over

module _ (b at : ℕ) (look : ℕ → Fact) (more : Follow → ℕ → Due) where
  pub passed_stop : (x : Fields) {a p : ℕ} → denied a p ≡ passed (based_fields b x)
      → based b (got_fields stop x (λ r f q. seen (look q) (due r at (more f q)))) ≡ stop a p
  passed_stop (Ok x) {a} {p} e = let z : ◌≡◌ {A = ℕ} 0 1 = cc in absurd (omega arith)
  passed_stop (Err r) {a} {p} e =
      let f : r.answer ≡ a = sym (same_answer e) in
      let g : b + r.place ≡ p = sym (same_place e) in
      rw (f, g)

  -- what is seen of the value is counted, and what follows is left
  pub passed_got : (x : Fields) (t : List ℕ) {f : Follow} {c : Cursor} → got_to f c ≡ passed (based_fields b x)
      → count (based b (got_fields stop x (λ r f q. seen (look q) (due r at (more f q))))) t ≡ count (based b (more f c.at)) (noted (look c.at) t)
  unfolding count
  passed_got (Ok x) t {f} {c} e =
      let j : x.1 ≡ f = sym (ok_first e) in
      let k : x.2 ≡ c = sym (ok_second e) in
      rw (j, k)
  passed_got (Err r) t {f} {c} e = let z : ◌≡◌ {A = ℕ} 0 1 = cc in absurd (omega arith)

-- fields end behind the marker, in the input
pub fields_within : (b : ℕ) (s : List ℕ) (at : ℕ) {k : TypeMarker} {r : Record} {f : Follow} {c : Cursor} → at < length s → marker_of (get_or s at 0) ≡ Some k
    → fields_to r f c ≡ based_fields b (fields_at s (at + 1) k) → (at + 1 ≤ c.at) × (c.at ≤ length s)
fields_within b s at {k} {r} {f} {c} l h e = go (fields_at s (at + 1) k) (rw h at (fields_kept s at l)) e
  where
    go : (x : Fields) → KeptFields s at x → fields_to r f c ≡ based_fields b x → (at + 1 ≤ c.at) × (c.at ≤ length s)
    go (Ok y) (n, m) e =
        let z : y.2.at ≡ c.at = sym (ap (λ (x : Record × Follow × Cursor). x.2.at) (same_ok e)) in
        (omega (arith, size_bytes y.0, size_some y.0), omega arith)
    go (Err v) n e = let z : ◌≡◌ {A = ℕ} 0 1 = cc in absurd (omega arith)

-- and so where they are passed over
pub passed_within : (b : ℕ) (s : List ℕ) (at : ℕ) {k : TypeMarker} {f : Follow} {c : Cursor} → at < length s → marker_of (get_or s at 0) ≡ Some k
    → got_to f c ≡ passed (based_fields b (fields_at s (at + 1) k)) → (at + 1 ≤ c.at) × (c.at ≤ length s)
passed_within b s at {k} {f} {c} l h e = go (fields_at s (at + 1) k) (rw h at (fields_kept s at l)) e
  where
    go : (x : Fields) → KeptFields s at x → got_to f c ≡ passed (based_fields b x) → (at + 1 ≤ c.at) × (c.at ≤ length s)
    go (Ok y) (n, m) e =
        let z : y.2.at ≡ c.at = sym (ap (λ (x : Cursor). x.at) (ok_second e)) in
        (omega (arith, size_bytes y.0, size_some y.0), omega arith)
    go (Err r) n e = let z : ◌≡◌ {A = ℕ} 0 1 = cc in absurd (omega arith)

-- a value whose fields are passed: where they end and its marker's byte, and what is left to read
module _ (b : ℕ) (s : List ℕ) (at : ℕ) {m : ℕ} {k : TypeMarker} {f : Follow} {c : Cursor} (mark : u8_at s at ≡ got_to m (to (at + 1))) (known : marker_of m ≡ Some k) (e : got_to f c ≡ passed (based_fields b (fields_at s (at + 1) k))) where
  pub value_passed : (at + 1 ≤ c.at) × (c.at ≤ length s) × (m ≡ get_or s at 0)
  value_passed =
      let r = u8_next s at m _ mark in
      let l : at < length s = omega (arith, r.within) in
      let h = r.value ∙ number_one s at l in
      let g = passed_within b s at l (rw (← h) known) e in
      (g.0, g.1, h)

  pub value_noted : (left : ℕ) (t : List ℕ) → (left ≡ 0 → ⊥)
      → count (based b (value left s at)) t ≡ count (based b (follow (value (left - 1) s) s f c.at)) (noted (own_at (left - 1) s at c.at) t)
  value_noted left t z = rw (value_fields s at left m known z mark) (passed_got b at (own_at (left - 1) s at) (follow (value (left - 1) s) s) _ t e)

-- ---- the places that a reading goes on at

pub onward : {x : Ended} {l h l' h' : ℕ} → Onward x l h → l' ≤ l → h ≤ h' → Onward x l' h'
onward w lo hi = record { bounds = λ c e. let b = w.bounds c e in omega arith }

pub onward_next : {c : Cursor} {l h : ℕ} → l ≤ c.at → c.at ≤ h → Onward (ends_at c) l h
onward_next {c} lo hi = record { bounds = λ d e. let f : c.at ≡ d.at = ap (λ (x : Cursor). x.at) (cc) in omega arith }
