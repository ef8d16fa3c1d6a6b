-- The theorems on the packet calls, over what they come to.
use Rattle.std.specs.Prelude.{◌+◌, ◌*◌, ◌≤◌, ◌<◌, ◌≡◌, ◌≢◌, ◌↔◌, ◌⊎◌, Ok}
use Rattle.wire.proofs.Kit.{ℕ, refl, sym, ap, ◌∙◌, inl, inr, List, [], append-nil, false, arith, zero-add, length, get_or}
use Rattle.wire.proofs.Kit.{ltb, lt-leb, lt-ltb}
use Rattle.wire.specs.Number.{Bytes}
use Rattle.wire.specs.Limit as limit
use Rattle.wire.proofs.Laws.{picked, pick_no, same_answer}
use Rattle.image.specs.Due.{Due, Ends, Lacks}
use Rattle.image.specs.Whole.{Whole, bytes, accepted, refused, all}
use Rattle.packet.specs.declared.head.Entry.{Entry}
use Rattle.packet.specs.Head.{front_of}
use Rattle.packet.specs.Reading.{packet_at, incomplete_of, whole_of}
use Rattle.packet.specs.Entry.{Cut, found, stops, cut_of, no_entry, read_span, read_entry, found_in, span, span_of}
use Rattle.packet.specs.Change.{known}
use Rattle.packet.proofs.Laws.{Tells, Splits, cut_told, entry_chosen, span_read}
use Rattle.image.proofs.Kept.{stops_kept}
use Rattle.packet.proofs.Reasons.{packet_kept}
use Rattle.amf0.specs.Span.{Span, span_at, held, in_span, one_value}
use Rattle.amf0_theorems.proofs.Call.{value_sober, value_bounded, call_answers, call_refused, call_over_limit, call_room_exact, call_room_place, call_room, call_inside, call_takes}
use Rattle.amf0_theorems.proofs.Spans.{length_based, ends_based, held_length, answer_either, answer_known, answer_refused, answer_takes, lies_within, TakesSpan}
use Rattle.amf0_theorems.proofs.Telling as telling
use Rattle.packet_theorems.proofs.Frame.{measured_at_lem, cut_read}
use Rattle.packet_theorems.proofs.Outcome.{packet_bounded, span_either, entry_either}
use Rattle.image.proofs.Settle.{one_end, ends_not, lacks_over, all_cases}
use Rattle.wire.specs.Answer.{denied}

-- ---- the answers

-- an answer of the whole readings: 0 to 5, or 7
pub record Answer (a : ℕ) : Type 0 where
  pub high : a ≤ 7
  pub tree : a ≢ 6

pub incomplete_answers : (s : List ℕ) (room : ℕ) → Answer (incomplete_of s room).reading.answer
unfolding incomplete_of
incomplete_answers s room =
    call_answers s (packet_at s) room Answer (record { high = omega arith; tree = λ e. omega arith }) (record { high = omega arith; tree = λ e. omega arith })
    (record { high = omega arith; tree = λ e. omega arith }) λ a p t.
    let b = (stops_kept (Tells 2) s 0 a p (packet_at s) (packet_kept s) t).0 in
    record { high = b.high; tree = b.tree }

-- what holds of the incomplete reading, and of a refusal with 3 where that one ends, holds of the whole one
pub over_all : (P : Whole → Type 0) (s : List ℕ) (room : ℕ) → P (incomplete_of s room) → P (refused 3 (incomplete_of s room).reading.used) → P (whole_of s room)
unfolding whole_of
over_all P s room f g = all_cases s (incomplete_of s room) P (λ a. f) (λ a l. g) (λ a l. f)

pub parse_answers : (s : List ℕ) (room : ℕ) → Answer (whole_of s room).reading.answer
parse_answers s room =
    over_all (λ w. Answer w.reading.answer) s room (incomplete_answers s room) (record { high = omega arith; tree = λ e. omega arith })

-- a refusal of `nth`: 1 for an input over the limit, 2, 3, 5 or 7 from the cut, or 8
pub record NthAnswer (s : List ℕ) (a : ℕ) : Type 0 where
  pub low : 1 ≤ a
  pub high : a ≤ 8
  pub room : a ≢ 4
  pub tree : a ≢ 6
  pub over : a ≡ 1 → limit.bytes < length s

missing : (s : List ℕ) (number : ℕ) (x : Cut) → Splits s x → {a p : ℕ} → found_in x number ≡ denied a p → NthAnswer s a
missing s number (stops b q) w {a} {p} h =
    let e : b ≡ a = same_answer h in
    let c = w.cuts in
    rw (← e) (record { low = c.low; high = omega arith; room = c.room; tree = c.tree; over = w.over })
missing s number (found es z) w {a} {p} h =
    picked (λ f. f ≡ denied a p → NthAnswer s a) (ltb number (length es)) _ _
    (λ t e. let z : ◌≡◌ {A = ℕ} 0 1 = cc in absurd (omega arith))
    (λ t e. rw (← same_answer e) eight)
    h
  where
    eight : NthAnswer s 8
    eight =
        record {
          low = omega arith;
          high = omega arith;
          room = λ e. omega arith;
          tree = λ e. omega arith;
          over = λ e. absurd (omega arith);
        }

pub nth_answers : (s : List ℕ) (number a p : ℕ) → found_in (cut_of s) number ≡ denied a p → NthAnswer s a
nth_answers s number a p h = missing s number (cut_of s) (cut_told s) h

-- an answer of the reading of an entry: any of the table's but 6
pub record EntryAnswer (a : ℕ) : Type 0 where
  pub high : a ≤ 9
  pub tree : a ≢ 6

pub entry_answers : (s : List ℕ) (number room : ℕ) → EntryAnswer (read_entry s number room).reading.answer
entry_answers s number room = entry_either (λ w. EntryAnswer w.reading.answer) s number room
    (λ a p h. let m = nth_answers s number a p h in record { high = omega arith; tree = m.tree })
    (λ e h l i. answer_known one_value s (span e) i (value_sober _) room EntryAnswer
    (record { high = omega arith; tree = λ z. omega arith }) (record { high = omega arith; tree = λ z. omega arith })
    (record { high = omega arith; tree = λ z. omega arith }) (record { high = omega arith; tree = λ z. omega arith }))

-- The answer of each call is 1 exactly where the input is over the limit.
pub incomplete_over_limit : (s : List ℕ) (room : ℕ) → (incomplete_of s room).reading.answer ≡ 1 ↔ limit.bytes < length s
unfolding incomplete_of
incomplete_over_limit s room = call_over_limit s (packet_at s) room (packet_bounded s)

pub parse_over_limit : (s : List ℕ) (room : ℕ) → (whole_of s room).reading.answer ≡ 1 ↔ limit.bytes < length s
unfolding whole_of incomplete_of
parse_over_limit s room = (
  over_all (λ w. w.reading.answer ≡ 1 → limit.bytes < length s) s room (incomplete_over_limit s room).0 (λ e. absurd (omega arith)),
  λ l. ap (λ w. (all s w).reading.answer) (pick_no (length s) limit.bytes _ _ l),
)

pub entry_over_limit : (s : List ℕ) (number room : ℕ) → (read_entry s number room).reading.answer ≡ 1 ↔ limit.bytes < length s
unfolding read_entry cut_of front_of
entry_over_limit s number room = (
  entry_either (λ w. w.reading.answer ≡ 1 → limit.bytes < length s) s number room (λ a p h. (nth_answers s number a p h).over)
      (λ e h l i. answer_known one_value s (span e) i (value_sober _) room (λ a. a ≡ 1 → limit.bytes < length s) (λ z. absurd (omega arith)) (λ z. absurd (omega arith))
      (λ z. absurd (omega arith)) (λ z. absurd (omega arith))),
  λ l. rw (lt-leb (length s) limit.bytes l),
)

-- ---- acceptances

-- What `parse_incomplete` accepts ends inside the input, and what `parse` accepts it has used to the last byte.
pub incomplete_uses : (s : List ℕ) (room : ℕ) → (incomplete_of s room).reading.answer ≡ 0 → (incomplete_of s room).reading.used ≤ length s
unfolding incomplete_of
incomplete_uses s room e = (call_takes s (packet_at s) room (packet_bounded s) e).within

pub parse_uses_all : (s : List ℕ) (room : ℕ) → (whole_of s room).reading.answer ≡ 0 → (whole_of s room).reading.used ≡ length s
unfolding whole_of
parse_uses_all s room =
    all_cases s (incomplete_of s room) (λ w. w.reading.answer ≡ 0 → w.reading.used ≡ length s) (λ n e. absurd (n e)) (λ a l e. absurd (omega arith))
    (λ a l e. omega (arith, incomplete_uses s room a))

-- What `parse_span` accepts is a span inside the packet, all of whose bytes are used: the image is that of the value in them alone, and has room.
pub span_takes : (s : List ℕ) (place n room : ℕ) → (read_span s place n room).reading.answer ≡ 0 → TakesSpan s place n room (read_span s place n room)
span_takes s place n room = span_either (λ w. w.reading.answer ≡ 0 → TakesSpan s place n room w) s place n room
    (λ h z. absurd (omega arith)) (λ h i z. absurd (omega arith))
    (λ h i z. record { small = h; inside = i; takes = answer_takes one_value s (span_at place n) i (value_sober _) room z })

-- an entry of a cut, of which P holds
pub record OfEntry (s : List ℕ) (number : ℕ) (P : Entry → Type 0) : Type 0 where
  pub entry : Entry
  pub found : found_in (cut_of s) number ≡ Ok entry
  pub holds : P entry

-- What `parse_entry` accepts is an entry of the cut, and its span is accepted likewise.
pub entry_takes : (s : List ℕ) (number room : ℕ) → let w = read_entry s number room in
    w.reading.answer ≡ 0 → OfEntry s number (λ e. TakesSpan s e.place e.length room w)
entry_takes s number room =
    entry_either (λ w. w.reading.answer ≡ 0 → OfEntry s number (λ e. TakesSpan s e.place e.length room w)) s number room
    (λ a p h z. let m = nth_answers s number a p h in absurd (omega arith)) λ e h l i z.
    record { entry = e; found = h; holds = record { small = l; inside = i; takes = answer_takes one_value s (span e) i (value_sober _) room z } }

-- An entry that the cut finds reads as its span does.
pub entry_span : (s : List ℕ) (number room : ℕ) (e : Entry) → found_in (cut_of s) number ≡ Ok e
    → read_span s e.place e.length room ≡ read_entry s number room
unfolding read_entry
entry_span s number room e f =
    let c = entry_chosen s number room (cut_of s) {e = e} (cut_told s) (sym f) in
    span_read s (span e) room c.short c.inside ∙ sym c.read

-- An entry whose length is not known was measured: it is accepted, and uses the length that it was measured to have, or it is refused with 4, and nothing else.
pub measured_read : (s : List ℕ) (es : List Entry) (n k room : ℕ) → Bytes s → cut_of s ≡ found es n → k < length es → let e = get_or es k no_entry in
    known s e ≡ false → (read_entry s k room ≡ accepted e.length (read_entry s k room).bytes) ⊎ ((p : ℕ) × (read_entry s k room ≡ refused 4 p))
unfolding read_entry
measured_read s es n k room bs cut h u =
    let c = cut_read s es n cut in
    let e : Entry = get_or es k no_entry in
    let d : Due = in_span one_value s (span e) in
    let x : List ℕ = span_of s e in
    let i : e.place + e.length ≤ length s = omega (arith, c.all, (lies_within no_entry k c.lies h).1) in
    let v = measured_at_lem s es k (c.measured bs) h u in
    let r = telling.reads limit.levels x [] 0 v.encodes (record { same = sym (append-nil x) }) v.deep in
    let t : Ends d e.length = ends_based e.place (one_value x) e.length (rw (zero-add, held_length s (span e) i) at r.ends) in
    rw (cut, lt-ltb k (length es) h)
    (answer_either one_value s (span e) i (value_sober x) room (λ w. (w ≡ accepted e.length w.bytes) ⊎ ((p : ℕ) × (w ≡ refused 4 p)))
    (λ q l. inr (q, refl)) (λ l q o. absurd (ends_not d e.length 5 q t o)) (λ l a q o w. absurd (ends_not d e.length a q t o))
    (λ l m o w. absurd (omega (arith, one_end d t o))) (λ l o. inl refl))

-- ---- refusals

-- A refused call returns a place for the bytes used, makes none, and has no byte of an image.
pub incomplete_refused : (s : List ℕ) (room : ℕ) → (incomplete_of s room).reading.answer ≢ 0
    → incomplete_of s room ≡ refused (incomplete_of s room).reading.answer (incomplete_of s room).reading.used
unfolding incomplete_of
incomplete_refused s room = call_refused s (packet_at s) room

pub parse_refused : (s : List ℕ) (room : ℕ) → (whole_of s room).reading.answer ≢ 0
    → whole_of s room ≡ refused (whole_of s room).reading.answer (whole_of s room).reading.used
parse_refused s room = over_all (λ w. w.reading.answer ≢ 0 → w ≡ refused w.reading.answer w.reading.used) s room (incomplete_refused s room) (λ ne. refl)

pub entry_refused : (s : List ℕ) (number room : ℕ) → (read_entry s number room).reading.answer ≢ 0
    → read_entry s number room ≡ refused (read_entry s number room).reading.answer (read_entry s number room).reading.used
entry_refused s number room = entry_either (λ w. w.reading.answer ≢ 0 → w ≡ refused w.reading.answer w.reading.used) s number room (λ a p h ne. refl)
    (λ e h l i. answer_refused one_value s (span e) i (value_sober _) room)

-- The bytes used by `parse_incomplete` or `parse`, or the place of their refusal, are inside the input.
pub incomplete_inside : (s : List ℕ) (room : ℕ) → (incomplete_of s room).reading.used ≤ length s
unfolding incomplete_of
incomplete_inside s room = call_inside s (packet_at s) room (packet_bounded s)

pub parse_inside : (s : List ℕ) (room : ℕ) → (whole_of s room).reading.used ≤ length s
parse_inside s room = let n = incomplete_inside s room in over_all (λ w. w.reading.used ≤ length s) s room n n

-- ---- the room

-- In a room of three bytes for each byte of the input, no whole reading is refused for room.
pub incomplete_room : (s : List ℕ) (room : ℕ) → 3 * length s ≤ room → (incomplete_of s room).reading.answer ≢ 4
unfolding incomplete_of
incomplete_room s room = call_room s (packet_at s) room (packet_bounded s)

-- Within the limit, the incomplete reading gives 4 exactly where the records that it finds have more bytes than the room.
pub incomplete_room_exact : (s : List ℕ) (room : ℕ) → length s ≤ limit.bytes
    → (incomplete_of s room).reading.answer ≡ 4 ↔ room < length (bytes (packet_at s))
unfolding incomplete_of
incomplete_room_exact s room = call_room_exact s (packet_at s) room (packet_bounded s)

-- And its place is then that of the first record that has no room.
pub incomplete_room_place : (s : List ℕ) (room p : ℕ) → length s ≤ limit.bytes → incomplete_of s room ≡ refused 4 p ↔ Lacks (packet_at s) 0 room p
unfolding incomplete_of
incomplete_room_place s room p = call_room_place s (packet_at s) room (packet_bounded s) p

pub parse_room : (s : List ℕ) (room : ℕ) → 3 * length s ≤ room → (whole_of s room).reading.answer ≢ 4
parse_room s room h = over_all (λ w. w.reading.answer ≢ 4) s room (incomplete_room s room h) (λ e. omega arith)

-- In a room of three bytes for each byte of a span, no reading of it is refused for room.
pub span_room : (s : List ℕ) (place n room : ℕ) → 3 * n ≤ room → (read_span s place n room).reading.answer ≢ 4
span_room s place n room h =
    let P : Whole → Type 0 = λ w. w.reading.answer ≢ 4 in
    let p : Span = span_at place n in
    span_either P s place n room (λ l e. omega arith) (λ l i e. omega arith) λ l i.
    answer_either one_value s p i (value_sober _) room P
    (λ q r e. omega (arith, lacks_over (in_span one_value s p) 0 room q r, length_based place (one_value (held s p)), (value_bounded (held s p)).small, held_length s p i)) (λ r q t e. omega arith) (λ r a q t k e. omega arith)
    (λ r m t k e. omega arith) (λ r t e. omega arith)

-- So it is for an entry in a room of three bytes for each byte of its span: the other entries don't count.
pub entry_room : (s : List ℕ) (number room : ℕ) (e : Entry) → found_in (cut_of s) number ≡ Ok e → 3 * e.length ≤ room
    → (read_entry s number room).reading.answer ≢ 4
entry_room s number room e f h = rw (← entry_span s number room e f) (span_room s e.place e.length room h)
