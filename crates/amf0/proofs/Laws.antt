-- The laws of the reading, step by step, that the functions' proofs cite.
use Rattle.std.specs.Prelude.{◌+◌, ◌-◌, ◌≤◌, ◌<◌, ◌≡◌, Ok, Err, Some, None}
use Rattle.wire.proofs.Kit.{ℕ, zero, suc, refl, sym, ap, ◌∙◌, List, sub-one, arith, length, leb, eq-eqb, ne_eqb, leb-true, leb-false}
use Rattle.wire.specs.declared.cursor.Cursor.{Cursor}
use Rattle.wire.specs.Field.{to, u8_at, text_at, got_to, text_to}
use Rattle.wire.specs.Limit as limit
use Rattle.wire.proofs.Laws.{pick_yes, pick_no, picked, u8_next, same_ok, same_answer, same_place}
use Rattle.image.specs.declared.record.Record.{Record}
use Rattle.image.specs.declared.record.Record.TheVariants.{ObjectEnd, Key}
use Rattle.image.specs.Due.{Due, Fact, end, stop, seen, due, ◌>>=◌, based}
use Rattle.image.specs.Due.Fact.{dropped}
use Rattle.image.specs.Whole.{Whole, settled}
use Rattle.image.proofs.Laws.{based_zero}
use Rattle.image.proofs.Settle.{settled_stop}
use Rattle.amf0.specs.declared.read.Follow.{Follow}
use Rattle.amf0.specs.declared.type_marker.TypeMarker.{TypeMarker}
use Rattle.amf0.specs.Marker.{marker_of}
use Rattle.amf0.specs.Fields.{fields_at, based_fields, got_fields, Fields, fields_to}
use Rattle.amf0.specs.Reading.{value, top_value, pair, pairs, items, follow, own_at, value_in, read_of}
use Rattle.wire.specs.Answer.{denied}
use Rattle.image.specs.Record.{moved}

-- a number that is at least k and is not k
pub up : {k m : ℕ} → k ≤ m → (m ≡ k → ⊥) → suc k ≤ m
up {k} {m} h n = omega arith

-- the cursor behind a byte that was read
pub u8_whole : (s : List ℕ) (at : ℕ) {m : ℕ} {c : Cursor} → u8_at s at ≡ got_to m c → u8_at s at ≡ got_to m (to (at + 1))
u8_whole s at {m} {c} e = e ∙ ap (λ (n : ℕ). got_to m (to n)) (u8_next s at m c e).next

-- ---- the fields of a value

-- what follows the fields of a part, by what they were read as
pub fields_refused : (b at : ℕ) (look : ℕ → Fact) (more : Follow → ℕ → Due) (x : Fields) {a p : ℕ} → denied a p ≡ based_fields b x
    → based b (got_fields stop x (λ r f q. seen (look q) (due r at (more f q)))) ≡ stop a p
fields_refused b at look more (Ok x) {a} {p} e = let z : ◌≡◌ {A = ℕ} 0 1 = cc in absurd (omega arith)
fields_refused b at look more (Err r) {a} {p} e =
    let f : r.answer ≡ a = sym (same_answer e) in
    let g : b + r.place ≡ p = sym (same_place e) in
    rw (f, g)

pub fields_due : (b at : ℕ) (look : ℕ → Fact) (more : Follow → ℕ → Due) (x : Fields) {r : Record} {f : Follow} {c : Cursor} → fields_to r f c ≡ based_fields b x
    → based b (got_fields stop x (λ r f q. seen (look q) (due r at (more f q)))) ≡ seen (look c.at) (due r (b + at) (based b (more f c.at)))
fields_due b at look more (Ok x) {r} {f} {c} e =
    let w : (r, f, c) ≡ (moved b x.0, x.1, x.2) = same_ok e in
    let i : moved b x.0 ≡ r = sym (ap (λ (y : Record × Follow × Cursor). y.0) w) in
    let j : x.1 ≡ f = sym (ap (λ (y : Record × Follow × Cursor). y.1) w) in
    let k : x.2 ≡ c = sym (ap (λ (y : Record × Follow × Cursor). y.2) w) in
    rw (i, j, k)
fields_due b at look more (Err x) {r} {f} {c} e = let z : ◌≡◌ {A = ℕ} 0 1 = cc in absurd (omega arith)

-- ---- a value

module _ (s : List ℕ) (at : ℕ) where
  pub value_cut : (left : ℕ) {a p : ℕ} → u8_at s at ≡ denied a p → value left s at ≡ stop a p
  unfolding value
  value_cut zero e = rw e
  value_cut (suc left) e = rw e

  -- by what its marker marks, and whether a level is left
  module _ (left m : ℕ) {c : Cursor} where
    pub value_refused : marker_of m ≡ None → u8_at s at ≡ got_to m c → value left s at ≡ stop 3 at
    unfolding value
    value_refused h e = go left
      where
        go : (l : ℕ) → value l s at ≡ stop 3 at
        go zero = rw (e, h)
        go (suc l) = rw (e, h)

    module _ {k : TypeMarker} (h : marker_of m ≡ Some k) where
      pub value_deep : left ≡ 0 → u8_at s at ≡ got_to m c → value left s at ≡ stop 5 at
      unfolding value
      value_deep z e = rw (z, e, h)

      pub value_fields : (left ≡ 0 → ⊥) → u8_at s at ≡ got_to m c
          → value left s at ≡ got_fields stop (fields_at s c.at k) (λ r f q. seen (own_at (left - 1) s at q) (due r at (follow (value (left - 1) s) s f q)))
      unfolding value
      value_fields z e = go left z
        where
          go : (l : ℕ) → (l ≡ 0 → ⊥)
              → value l s at ≡ got_fields stop (fields_at s c.at k) (λ r f q. seen (own_at (l - 1) s at q) (due r at (follow (value (l - 1) s) s f q)))
          go zero z = absurd (z refl)
          go (suc l) z = rw (e, h, sub-one (suc l))

  -- ---- pairs

  module _ (inner : ℕ → Due) (fuel : ℕ) (h : length s ≤ fuel + at) where
    pub pairs_cut : {a p : ℕ} → text_at 2 s at ≡ denied a p → pairs inner s fuel at ≡ stop a p
    unfolding pairs text_at
    pairs_cut {a} {p} e = go fuel h
      where
        go : (f : ℕ) → length s ≤ f + at → pairs inner s f at ≡ stop a p
        go zero h =
            let d = sym (pick_no (at + 2) (length s) _ _ (omega arith)) ∙ e in
            let f : 2 ≡ a = same_answer d in
            let g : at ≡ p = same_place d in
            rw (f, g)
        go (suc f) h = rw e

    pub pairs_pair : {p n : ℕ} {c : Cursor} → text_at 2 s at ≡ text_to p n c → at < length s
        → pairs inner s fuel at ≡ pair inner (pairs inner s (fuel - 1)) s at p n c.at
    unfolding pairs
    pairs_pair {p} {n} {c} e g = go fuel h
      where
        go : (f : ℕ) → length s ≤ f + at → pairs inner s f at ≡ pair inner (pairs inner s (f - 1)) s at p n c.at
        go zero h = absurd (omega arith)
        go (suc f) h = rw (e, sub-one (suc f))

  module _ (inner more : ℕ → Due) (p n q : ℕ) where
    pub pair_cut : {a w : ℕ} → u8_at s q ≡ denied a w → pair inner more s at p n q ≡ stop a w
    unfolding pair
    pair_cut e = rw e

    pub pair_end : {m : ℕ} {c : Cursor} → u8_at s q ≡ got_to m c → m ≡ 9 → pair inner more s at p n q ≡ seen (dropped n) (due ObjectEnd q (end c.at))
    unfolding pair
    pair_end {m} e h = rw (e, eq-eqb m 9 h)

    pub pair_key : {m : ℕ} {c : Cursor} → u8_at s q ≡ got_to m c → (m ≡ 9 → ⊥) → pair inner more s at p n q ≡ due (Key p n) at (inner q >>= more)
    unfolding pair
    pair_key {m} e h = rw (e, ne_eqb m 9 h)

-- ---- values in a row

pub items_done : (inner : ℕ → Due) (k at : ℕ) → k ≤ 0 → items inner k at ≡ end at
unfolding items
items_done inner zero at h = refl
items_done inner (suc k) at h = absurd (omega arith)

pub items_item : (inner : ℕ → Due) (k at : ℕ) → 0 < k → items inner k at ≡ inner at >>= items inner (k - 1)
unfolding items
items_item inner zero at h = absurd (omega arith)
items_item inner (suc k) at h = rw (sub-one (suc k))

-- ---- a part of an input, and the whole of one

module _ (base : ℕ) (s : List ℕ) (at : ℕ) where
  pub part_over : limit.bytes < base + length s → value_in base s at ≡ stop 1 0
  unfolding value_in
  part_over h = pick_no (base + length s) limit.bytes _ _ h

  pub part_past : base + length s ≤ limit.bytes → length s < at → value_in base s at ≡ stop 1 0
  unfolding value_in
  part_past h g = pick_yes (base + length s) limit.bytes _ _ h ∙ pick_no at (length s) _ _ g

  pub part_read : base + length s ≤ limit.bytes → at ≤ length s → value_in base s at ≡ based base (top_value s at)
  unfolding value_in
  part_read h g = pick_yes (base + length s) limit.bytes _ _ h ∙ pick_yes at (length s) _ _ g

-- the value at the front of an input that is its own part
pub whole_read : (s : List ℕ) (room : ℕ) → settled (value_in 0 s 0) room ≡ read_of s room
whole_read s room =
    picked (λ (x : Whole). settled (value_in 0 s 0) room ≡ x) (leb (length s) limit.bytes) _ _
    (λ h.
    let g : 0 + length s ≤ limit.bytes = omega (arith, leb-true (length s) limit.bytes h) in
    ap (λ (d : Due). settled d room) (part_read 0 s 0 g (omega arith) ∙ based_zero (top_value s 0)))
    (λ h.
    let g : limit.bytes < 0 + length s = omega (arith, leb-false (length s) limit.bytes h) in
    ap (λ (d : Due). settled d room) (part_over 0 s 0 g) ∙ settled_stop 1 0 room)
