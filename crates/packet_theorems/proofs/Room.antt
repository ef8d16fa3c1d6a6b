-- More room changes nothing, for every packet call. So the round trip goes in every room that is not refused for room, and in that of the first reading.
use Rattle.std.specs.Prelude.{◌*◌, ◌≤◌, ◌<◌, ◌≡◌, ◌≢◌, ◌↔◌}
use Rattle.wire.proofs.Kit.{ℕ, refl, ap, List, Bool, le_refl, arith, length, get_or, leb, ltb}
use Rattle.wire.specs.Limit as limit
use Rattle.wire.specs.Text.{inside_of}
use Rattle.image.specs.Out.{written}
use Rattle.image.specs.Due.{Lacks}
use Rattle.image.specs.Whole.{Whole, bytes, accepted, refused, all}
use Rattle.amf0.specs.Span.{Span, span_at, judge, in_span, answer_of, one_value}
use Rattle.amf0_theorems.proofs.More.{More, in_room_more, pick_more, pass_more, any_room, all_iff, all_refusal}
use Rattle.amf0_theorems.proofs.Room.{alike_length}
use Rattle.packet.specs.Reading.{packet_at, incomplete_of, whole_of}
use Rattle.packet.specs.Entry.{Cut, found, stops, cut_of, no_entry, span, read_span, entry_in, read_entry}
use Rattle.packet.specs.Writing.{write_of}
use Rattle.packet.specs.Written.{rewrite_of}
use Rattle.packet_theorems.proofs.Taken.{whole_taken}
use Rattle.packet_theorems.proofs.Theorems.{incomplete_room_exact, incomplete_room_place}
use Rattle.packet_theorems.proofs.WriteTheorems.{RoundTrip, round_trip, again}
use Rattle.packet_theorems.proofs.WriteOutcome.{WasRead}

-- ---- more room

-- the value in a span
value_more : (s : List ℕ) (p : Span) → More (answer_of one_value s p)
value_more s p = pass_more (judge p) (λ w four. rw four) (in_room_more (in_span one_value s p) accepted refused)

-- Where a room does, every larger room gives the same to `parse_incomplete`.
pub incomplete_more : (s : List ℕ) (room more : ℕ) → room ≤ more → (incomplete_of s room).reading.answer ≢ 4 → incomplete_of s more ≡ incomplete_of s room
unfolding incomplete_of
incomplete_more s = pick_more (leb (length s) limit.bytes) (refused 1 0) (in_room_more (packet_at s) accepted refused)

-- And to `parse`.
pub parse_more : (s : List ℕ) (room more : ℕ) → room ≤ more → (whole_of s room).reading.answer ≢ 4 → whole_of s more ≡ whole_of s room
unfolding whole_of
parse_more s = pass_more (all s) (λ w four. rw four) (incomplete_more s)

-- And to `parse_entry`.
pub entry_more : (s : List ℕ) (number room more : ℕ) → room ≤ more → (read_entry s number room).reading.answer ≢ 4 → read_entry s number more ≡ read_entry s number room
unfolding read_entry
entry_more s number = go (cut_of s)
  where
    go : (x : Cut) → More (entry_in s x number)
    go (stops a p) = λ room more h n. refl
    go (found es z) = pick_more (ltb number (length es)) (refused 8 0) (value_more s (span (get_or es number no_entry)))

-- And to `parse_span`.
pub span_more : (s : List ℕ) (place n room more : ℕ) → room ≤ more → (read_span s place n room).reading.answer ≢ 4 → read_span s place n more ≡ read_span s place n room
unfolding read_span
span_more s place n =
    pick_more (leb (length s) limit.bytes) (refused 1 0) (pick_more (inside_of s place n) (refused 8 0) (value_more s (span_at place n)))

-- ---- the room

-- Within the limit, `parse` gives 4 exactly where the records that it finds have more bytes than the room.
pub parse_room_exact : (s : List ℕ) (room : ℕ) → length s ≤ limit.bytes → (whole_of s room).reading.answer ≡ 4 ↔ room < length (bytes (packet_at s))
unfolding whole_of
parse_room_exact s room h = all_iff s (incomplete_of s room) 4 (λ z. omega arith) (λ z. omega arith) (incomplete_room_exact s room h)

-- And its place is then that of the first record that has no room.
pub parse_room_place : (s : List ℕ) (room p : ℕ) → length s ≤ limit.bytes → whole_of s room ≡ refused 4 p ↔ Lacks (packet_at s) 0 room p
unfolding whole_of
parse_room_place s room p h = all_refusal s (incomplete_of s room) 4 p (λ z. omega arith) (λ z. omega arith) (incomplete_room_place s room p h)

-- what was written of a packet that was read is not refused for room where the first image has room.
holds : {s b : List ℕ} {exact : Bool} {v : Whole} (more room : ℕ) → RoundTrip s b exact v (whole_of b more) → length v.bytes ≤ room
    → (whole_of b room).reading.answer ≢ 4
holds {b} more room t h f =
    let x = whole_taken b more t.answer in
    omega (arith, (parse_room_exact b room x.small).0 f, ap (λ (w : Whole). length w.bytes) x.result, alike_length t.alike)

-- ---- the round trip

-- A packet that was read, whole or as far as it was used, and then written, in either setting,
module _ {s : List ℕ} {room : ℕ} {v : Whole} (m : WasRead s room v) (exact : Bool) (b : List ℕ) (out : ℕ) (f : write_of v.bytes s exact out ≡ written b) where
  -- reads back in every room that is not refused for room,
  pub round_trip_any : (more : ℕ) → (whole_of b more).reading.answer ≢ 4 → RoundTrip s b exact v (whole_of b more)
  round_trip_any more = any_room (whole_of b) (parse_more b) (RoundTrip s b exact v) (3 * length b) (round_trip m exact b out f) more

  -- and so in the room of the first reading.
  pub same_room : RoundTrip s b exact v (whole_of b room)
  same_room = let more : ℕ = 3 * length b in round_trip_any room (holds more room (round_trip m exact b out f more (le_refl more)) m.fits)

  -- To read it in such a room and write it once more in the same setting changes nothing more.
  pub again_any : (more once : ℕ) → (whole_of b more).reading.answer ≢ 4 → length b ≤ once → rewrite_of whole_of b more exact once ≡ written b
  again_any more once n h =
      any_room (whole_of b) (parse_more b) (λ w. write_of w.bytes b exact once ≡ written b) (3 * length b) (λ l i. again m exact b out f l once i h) more n
