-- Why each packet call is refused, and what it accepts, by the grammars.
use Rattle.std.specs.Prelude.{◌≤◌, ◌≡◌, ◌≢◌, ◌↔◌, ◌∷◌}
use Rattle.wire.proofs.Kit.{ℕ, suc, refl, sym, ap, List, [], arith, length, get_or, length-append, leb, ltb, leb-true, leb-false, le-leb}
use Rattle.wire.proofs.Kit.{ltb-true, ltb-false, ne_eqb}
use Rattle.wire.specs.Number.{Bytes}
use Rattle.wire.specs.Limit as limit
use Rattle.wire.proofs.Laws.{picked, same_answer, same_place}
use Rattle.image.specs.Whole.{Whole, refused, in_room, all}
use Rattle.amf0.specs.Span.{Span, span_at, Fault}
use Rattle.amf0_theorems.proofs.Call.{call_either}
use Rattle.amf0_theorems.specs.Refusal.{Field, Refuses}
use Rattle.packet.specs.declared.head.Entry.{Entry}
use Rattle.packet.specs.Packet.{Label, Item, Packet, Items, Encoded}
use Rattle.packet.specs.Shown.{Shallow, Within}
use Rattle.packet.specs.Reading.{packet_at, incomplete_of, whole_of}
use Rattle.packet.specs.Entry.{Cut, found, stops, cut_of, no_entry, Listed, list_of, found_in, span, read_span, read_entry, entry_in}
use Rattle.packet.proofs.Laws.{cut_told, entry_none, entry_chosen}
use Rattle.packet_theorems.specs.Refusal.{Way, whole, Entries, IsPacket, Seven, RefusedPacket, RefusedCut}
use Rattle.packet_theorems.specs.Why.{Readable, Comes, ComesWhole, ComesList, ComesNth, ComesEntry, ComesSpan}
use Rattle.packet_theorems.proofs.Outcome as outcome
use Rattle.packet_theorems.proofs.Outcome.{comes_list, span_either, entry_either}
use Rattle.packet_theorems.proofs.CutExactly.{cut_sound}
use Rattle.packet_theorems.proofs.Whole.{packet_found, encoded_row}
use Rattle.packet_theorems.proofs.Ways.{seven_version}
use Rattle.packet_theorems.proofs.Refusals.{packet_refused, cut_refused_exactly}
use Rattle.amf0_theorems.proofs.Spans.{all_here, left_behind, comes_value, value_inside}
use Rattle.amf0_theorems.proofs.Refused.{refused_inside}
use Rattle.amf0_theorems.specs.Spans.{LeftOver, ComesValue}
use Rattle.wire.specs.Answer.{denied}
use Rattle.packet.specs.Entry.{Found}

-- ---- the grammar and the packet as the Rust has it

-- entries with values that are not too deep are gone over by the whole reading
items_entries : {Kind : Label → Type 0} {is : List Item} {x : List ℕ} → Items Kind is x → Shallow limit.levels is → Entries whole Kind (length is) x
items_entries Items.none deep = Entries.none
items_entries (Items.more {v} k h b e i) deep = Entries.more k h b (record { tree = v; encodes = e; deep = deep.0 }) (items_entries i deep.1)

-- and it goes over no others
record Itemed (Kind : Label → Type 0) (n : ℕ) (x : List ℕ) : Type 0 where
  items : List Item
  encodes : Items Kind items x
  count : length items ≡ n
  shallow : Shallow limit.levels items

entries_items : {Kind : Label → Type 0} {n : ℕ} {x : List ℕ} → Entries whole Kind n x → Itemed Kind n x
entries_items Entries.none = record { items = []; encodes = Items.none; count = refl; shallow = tt }
entries_items (Entries.more {d} {l} k h b v z) =
    let i = entries_items z in
    record {
      items = record { label = l; declared = d; value = v.tree } ∷ i.items;
      encodes = Items.more k h b v.encodes i.encodes;
      count = ap suc i.count;
      shallow = (v.deep, i.shallow);
    }

-- The whole reading goes over just the packets whose values are not too deep.
pub readable_packet : (x : List ℕ) → Readable x ↔ IsPacket whole x
readable_packet x = (λ r. to r.encoded r.within, from)
  where
    to : {p : Packet} {x : List ℕ} → Encoded p x → Within limit.levels p → IsPacket whole x
    to (Encoded.packet h m hs ms) deep = IsPacket.packet h (items_entries hs deep.0) m (items_entries ms deep.1)

    from : {x : List ℕ} → IsPacket whole x → Readable x
    from (IsPacket.packet {h} {m} l hs k ms) =
        let a = entries_items hs in
        let b = entries_items ms in
        record {
          packet = record { headers = a.items; messages = b.items };
          encoded = encoded_row h m l k a.count b.count a.encodes b.encodes;
          within = (a.shallow, b.shallow);
        }

-- ---- the cut

-- A cut is refused for the limit, by a field or for bytes left over, and then where the list is too short; else it returns the packet's length and the
-- number of its entries, and the list has them.
pub cut_reasons : (s : List ℕ) (room : ℕ) → Bytes s → ComesList s room (list_of s room)
cut_reasons s room bs = go (comes_list s room)
  where
    go : {w : Listed} → outcome.ComesList s room w → ComesList s room w
    go (outcome.ComesList.not_cut {a} {p} e) = ComesList.not_cut ((cut_refused_exactly s a p bs).0 e)
    go (outcome.ComesList.too_short {es} e h) = ComesList.too_short (cut_sound s es (length s) bs e) h
    go (outcome.ComesList.cut {es} e h) = ComesList.cut (cut_sound s es (length s) bs e) h

-- `nth` is refused as the cut is, or for want of an entry; else it finds the entry with that number.
pub nth_reasons : (s : List ℕ) (number : ℕ) → Bytes s → ComesNth s number (found_in (cut_of s) number)
nth_reasons s number bs = go (cut_of s) refl
  where
    go : (x : Cut) → cut_of s ≡ x → ComesNth s number (found_in x number)
    go (stops a p) e = ComesNth.not_cut ((cut_refused_exactly s a p bs).0 e)
    go (found es z) e =
        let f = cut_sound s es z bs e in
        picked (ComesNth s number) (ltb number (length es)) _ _ (λ t. ComesNth.is f (ltb-true _ _ t)) (λ t. ComesNth.no_entry f (ltb-false _ _ t))

-- ---- places

left_inside : {P : List ℕ → Type 0} {s : List ℕ} {a p : ℕ} → LeftOver P s a p → p ≤ length s
left_inside (LeftOver.behind {x} b r i) = omega (arith, length-append x (b ∷ r))

-- what refuses a cut is inside the packet
cut_refused_inside : {s : List ℕ} {a p : ℕ} → RefusedCut s a p → p ≤ length s
cut_refused_inside (RefusedCut.over_limit l) = omega arith
cut_refused_inside (RefusedCut.not_cut l (RefusedPacket.version_3 Seven.begins)) = omega arith
cut_refused_inside (RefusedCut.not_cut l (RefusedPacket.field q)) = refused_inside q (omega arith)
cut_refused_inside (RefusedCut.left_over l x) = left_inside x

-- The bytes of a packet that was cut, or the place of a refusal, are inside the packet.
pub cut_inside : (s : List ℕ) (room : ℕ) → Bytes s → (list_of s room).cutting.used ≤ length s
cut_inside s room bs = go (cut_reasons s room bs)
  where
    go : {w : Listed} → ComesList s room w → w.cutting.used ≤ length s
    go (ComesList.not_cut q) = cut_refused_inside q
    go (ComesList.too_short c l) = omega arith
    go (ComesList.cut c l) = omega arith

-- So is the place of a refusal of `nth`,
pub nth_inside : (s : List ℕ) (number a p : ℕ) → Bytes s → found_in (cut_of s) number ≡ denied a p → p ≤ length s
nth_inside s number a p bs = go (nth_reasons s number bs)
  where
    go : {f : Found} → ComesNth s number f → f ≡ denied a p → p ≤ length s
    go (ComesNth.not_cut r) e = omega (arith, same_place e, cut_refused_inside r)
    go (ComesNth.no_entry c l) e = omega (arith, same_place e)
    go (ComesNth.is c l) e = let z : ◌≡◌ {A = ℕ} 0 1 = cc in absurd (omega arith)

-- and so are the bytes that `parse_entry` used, or the place of its refusal.
pub entry_inside : (s : List ℕ) (number room : ℕ) → Bytes s → (read_entry s number room).reading.used ≤ length s
entry_inside s number room bs =
    entry_either (λ w. w.reading.used ≤ length s) s number room (λ a p h. nth_inside s number a p bs h) (λ e h l i. value_inside s (span e) room i)

-- ---- answers

-- the answers of fields
fault : {f : Field} {r : List ℕ} {a : ℕ} → Refuses f r a → Fault a
fault (Refuses.short l) = Fault.short
fault (Refuses.too_few l m) = Fault.short
fault (Refuses.not_utf8 l u) = Fault.malformed
fault (Refuses.other_bytes l n) = Fault.malformed
fault (Refuses.no_value b) = Fault.malformed
fault (Refuses.too_deep b) = Fault.too_deep

fault_some : {a : ℕ} → Fault a → (a ≢ 0) × (a ≢ 7)
fault_some Fault.short = (λ e. omega arith, λ e. omega arith)
fault_some Fault.malformed = (λ e. omega arith, λ e. omega arith)
fault_some Fault.too_deep = (λ e. omega arith, λ e. omega arith)

pub refused_some : {w : Way} {s : List ℕ} {a p : ℕ} → RefusedPacket w s a p → a ≢ 0
refused_some (RefusedPacket.version_3 v) e = omega arith
refused_some (RefusedPacket.field q) e = (fault_some (fault q.refuses)).0 e

-- 7 is for version 3 alone
refused_seven : {w : Way} {s : List ℕ} {a p : ℕ} → RefusedPacket w s a p → a ≡ 7 → Seven s
refused_seven (RefusedPacket.version_3 v) e = v
refused_seven (RefusedPacket.field q) e = absurd ((fault_some (fault q.refuses)).1 e)

left_three : {P : List ℕ → Type 0} {s : List ℕ} {a p : ℕ} → LeftOver P s a p → a ≡ 3
left_three (LeftOver.behind b r i) = refl

-- also where it refuses a cut
cut_seven_of : {s : List ℕ} {a p : ℕ} → RefusedCut s a p → a ≡ 7 → (length s ≤ limit.bytes) × Seven s
cut_seven_of (RefusedCut.over_limit l) e = absurd (omega arith)
cut_seven_of (RefusedCut.not_cut l q) e = (l, refused_seven q e)
cut_seven_of (RefusedCut.left_over l x) e = absurd (omega (arith, left_three x))

-- ---- version 3

-- an input of version 3 is refused at once, whatever the room
seven_read : (s : List ℕ) (room : ℕ) → length s ≤ limit.bytes → Seven s → incomplete_of s room ≡ refused 7 1
unfolding incomplete_of packet_at in_room
seven_read s room l v = rw (le-leb (length s) limit.bytes l, seven_version v)

seven_cut : (s : List ℕ) → Bytes s → length s ≤ limit.bytes → Seven s → cut_of s ≡ stops 7 1
seven_cut s bs l v = (cut_refused_exactly s 7 1 bs).1 (RefusedCut.not_cut l (RefusedPacket.version_3 v))

-- The answer of `cut` is 7 exactly where the packet, within the limit, begins with 00 03.
pub cut_seven : (s : List ℕ) (room : ℕ) → Bytes s → (list_of s room).cutting.answer ≡ 7 ↔ (length s ≤ limit.bytes) × Seven s
unfolding list_of
cut_seven s room bs = (go (cut_reasons s room bs), λ x. rw (seven_cut s bs x.0 x.1))
  where
    go : {w : Listed} → ComesList s room w → w.cutting.answer ≡ 7 → (length s ≤ limit.bytes) × Seven s
    go (ComesList.not_cut q) e = cut_seven_of q e
    go (ComesList.too_short c l) e = absurd (omega arith)
    go (ComesList.cut c l) e = absurd (omega arith)

-- So is that of `nth`.
pub nth_seven : (s : List ℕ) (number : ℕ) → Bytes s → ((p : ℕ) × (found_in (cut_of s) number ≡ denied 7 p)) ↔ (length s ≤ limit.bytes) × Seven s
nth_seven s number bs = (λ x. go (nth_reasons s number bs) x.1, λ x. (1, rw (seven_cut s bs x.0 x.1)))
  where
    go : {f : Found} {p : ℕ} → ComesNth s number f → f ≡ denied 7 p → (length s ≤ limit.bytes) × Seven s
    go (ComesNth.not_cut q) e = cut_seven_of q (same_answer e)
    go (ComesNth.no_entry c l) e = absurd (omega (arith, same_answer e))
    go (ComesNth.is c l) e = let z : ◌≡◌ {A = ℕ} 0 1 = cc in absurd (omega arith)

-- ---- the readings, over what is proved of values

-- The incomplete reading is refused for the limit, for the room, for version 3 or by a field; else a packet stands at the front of the input, which it uses.
pub reasons : (s : List ℕ) (room : ℕ) → Bytes s → Comes s room (incomplete_of s room)
unfolding incomplete_of
reasons s room bs =
    call_either s (packet_at s) room (Comes s room) Comes.over_limit (λ i p j. Comes.no_room i j)
    (λ i j n e.
    let f = packet_found s n bs e in
    let p : Readable f.row = record { packet = f.packet; encoded = f.encoded; within = f.within } in
    rw f.next (Comes.read f.rest i j f.here.same p))
    (λ i j a p t. Comes.not_read i j ((packet_refused s a p bs).0 t))

-- The whole reading is refused for the limit, for the room, for version 3, by a field or for bytes left over; else all of the input is a packet.
pub parse_reasons : (s : List ℕ) (room : ℕ) → Bytes s → ComesWhole s room (whole_of s room)
unfolding whole_of
parse_reasons s room bs = go (reasons s room bs)
  where
    go : {w : Whole} → Comes s room w → ComesWhole s room (all s w)
    go (Comes.over_limit i) = ComesWhole.over_limit i
    go (Comes.no_room i j) = ComesWhole.no_room i j
    go (Comes.not_read {a} i j q) = rw (ne_eqb a 0 (refused_some q)) (ComesWhole.not_read i j q)
    go (Comes.read {x} r i j e p) = picked (ComesWhole s room) (leb (length s) (length x)) _ _
        (λ t.
        let l : length x ≡ length s = omega (arith, leb-true (length s) (length x) t, ap length e, length-append x r) in
        rw l (ComesWhole.read i j (rw (all_here {s = s} {x = x} {r = r} (record { same = e }) l) at p)))
        (λ t. ComesWhole.left_over i j (left_behind Readable s x r p e (leb-false (length s) (length x) t)))

-- The reading of an entry is refused as the cut is or for want of an entry, for the room, for depth or as damaged; else all bytes of its span are a value.
pub entry_reasons : (s : List ℕ) (number room : ℕ) → Bytes s → ComesEntry s number room (read_entry s number room)
unfolding read_entry
entry_reasons s number room bs = go (nth_reasons s number bs) refl
  where
    go : {f : Found} → ComesNth s number f → found_in (cut_of s) number ≡ f → ComesEntry s number room (entry_in s (cut_of s) number room)
    go (ComesNth.not_cut q) h = rw (entry_none s number room (cut_of s) (sym h)) (ComesEntry.not_cut q)
    go (ComesNth.no_entry e l) h = rw (entry_none s number room (cut_of s) (sym h)) (ComesEntry.no_entry e l)
    go (ComesNth.is {es} e l) h =
        let i : Entry = get_or es number no_entry in
        let c = entry_chosen s number room (cut_of s) {e = i} (cut_told s) (sym h) in
        rw c.read (ComesEntry.found e l (comes_value s (span i) room bs c.inside))

-- The reading of a span is refused for the limit or where it is not inside the packet, and then as that of an entry.
pub span_reasons : (s : List ℕ) (place n room : ℕ) → Bytes s → ComesSpan s place n room (read_span s place n room)
span_reasons s place n room bs =
    span_either (ComesSpan s place n room) s place n room ComesSpan.over_limit ComesSpan.outside λ i j.
    ComesSpan.inside i j (comes_value s (span_at place n) room bs j)

-- The answer of `parse_incomplete` is 7 exactly where the input, within the limit, begins with 00 03.
pub incomplete_seven : (s : List ℕ) (room : ℕ) → Bytes s → (incomplete_of s room).reading.answer ≡ 7 ↔ (length s ≤ limit.bytes) × Seven s
incomplete_seven s room bs = (go (reasons s room bs), λ x. rw (seven_read s room x.0 x.1))
  where
    go : {w : Whole} → Comes s room w → w.reading.answer ≡ 7 → (length s ≤ limit.bytes) × Seven s
    go (Comes.over_limit i) e = absurd (omega arith)
    go (Comes.no_room i j) e = absurd (omega arith)
    go (Comes.not_read i j q) e = (i, refused_seven q e)
    go (Comes.read r i j same p) e = absurd (omega arith)

-- So is that of `parse`.
pub parse_seven : (s : List ℕ) (room : ℕ) → Bytes s → (whole_of s room).reading.answer ≡ 7 ↔ (length s ≤ limit.bytes) × Seven s
unfolding whole_of
parse_seven s room bs = (go (parse_reasons s room bs), λ x. rw (seven_read s room x.0 x.1))
  where
    go : {w : Whole} → ComesWhole s room w → w.reading.answer ≡ 7 → (length s ≤ limit.bytes) × Seven s
    go (ComesWhole.over_limit i) e = absurd (omega arith)
    go (ComesWhole.no_room i j) e = absurd (omega arith)
    go (ComesWhole.not_read i j q) e = (i, refused_seven q e)
    go (ComesWhole.left_over i j x) e = absurd (omega (arith, left_three x))
    go (ComesWhole.read i j p) e = absurd (omega arith)

-- And that of `parse_entry`.
pub entry_seven : (s : List ℕ) (number room : ℕ) → Bytes s → (read_entry s number room).reading.answer ≡ 7 ↔ (length s ≤ limit.bytes) × Seven s
unfolding read_entry
entry_seven s number room bs = (go (entry_reasons s number room bs), λ x. rw (seven_cut s bs x.0 x.1))
  where
    other : {i : Span} {w : Whole} → ComesValue s i room w → w.reading.answer ≢ 7
    other (ComesValue.no_room q h) e = omega arith
    other (ComesValue.deep h q) e = omega arith
    other (ComesValue.damaged h q a) e = omega arith
    other (ComesValue.unused h x) e = omega arith
    other (ComesValue.read h v) e = omega arith

    go : {w : Whole} → ComesEntry s number room w → w.reading.answer ≡ 7 → (length s ≤ limit.bytes) × Seven s
    go (ComesEntry.not_cut q) e = cut_seven_of q e
    go (ComesEntry.no_entry c l) e = absurd (omega arith)
    go (ComesEntry.found c l v) e = absurd (other v e)
