-- Demand 2 for a tree that was read by entry: its image, over the packet, is written, in no more bytes than its span, and reads back as the same tree.
use Rattle.std.specs.Prelude.{◌*◌, ◌≤◌, ◌≡◌, ◌≢◌}
use Rattle.wire.proofs.Kit.{ℕ, ap, List, arith, length}
use Rattle.wire.specs.Number.{Bytes}
use Rattle.image.specs.Out.{written}
use Rattle.image.specs.Whole.{Whole}
use Rattle.amf0.specs.Reading.{read_of}
use Rattle.amf0.specs.Writing.{write_of}
use Rattle.amf0_theorems.proofs.Spans.{TakesSpan}
use Rattle.amf0_theorems.proofs.SpanTrip.{Rewritten, SpanTrip, span_write, span_trip, span_trip_any, span_same_room, span_again}
use Rattle.packet.specs.declared.head.Entry.{Entry}
use Rattle.packet.specs.Entry.{read_entry}
use Rattle.packet_theorems.proofs.Theorems.{OfEntry, entry_takes}

module _ (s : List ℕ) (number room : ℕ) (bs : Bytes s) (ok : (read_entry s number room).reading.answer ≡ 0) where
  -- what follows for every span that is accepted so follows for the entry
  by_span : (P : Entry → Type 0) → ((e : Entry) → TakesSpan s e.place e.length room (read_entry s number room) → P e) → OfEntry s number P
  by_span P f = let t = entry_takes s number room ok in record { entry = t.entry; found = t.found; holds = f t.entry t.holds }

  -- A tree that was read by entry is written, where the output has as much room as the bytes used: as the same tree, in no more bytes than its span.
  pub entry_write : (out : ℕ) → (read_entry s number room).reading.used ≤ out
      → OfEntry s number (λ e. Rewritten s e.place e.length (read_entry s number room) out)
  entry_write out h = by_span _ λ e t.
      let used = ap (λ (w : Whole). w.reading.used) t.takes.same in
      span_write s e.place e.length room (read_entry s number room) bs t out (omega arith)

  module _ (b : List ℕ) (out : ℕ) (f : write_of (read_entry s number room).bytes s out ≡ written b) where
    -- A tree that was read by entry and then written reads back, given room, as the same tree, texts and number bits included, in no more bytes than its
    -- span.
    pub entry_trip : (more : ℕ) → 3 * length b ≤ more → OfEntry s number (λ e. SpanTrip s e.place e.length b (read_entry s number room) (read_of b more))
    entry_trip more h = by_span _ λ e t. span_trip s e.place e.length room _ bs t b out f more h

    -- It does in every room that is not refused for room.
    pub entry_trip_any : (more : ℕ) → (read_of b more).reading.answer ≢ 4
        → OfEntry s number (λ e. SpanTrip s e.place e.length b (read_entry s number room) (read_of b more))
    entry_trip_any more n = by_span _ λ e t. span_trip_any s e.place e.length room _ bs t b out f more n

    -- So it does in the room of the first reading.
    pub entry_same_room : OfEntry s number (λ e. SpanTrip s e.place e.length b (read_entry s number room) (read_of b room))
    entry_same_room = by_span _ λ e t. span_same_room s e.place e.length room _ bs t b out f

    -- To read it in such a room and write it once more changes nothing more.
    pub entry_again : (more once : ℕ) → (read_of b more).reading.answer ≢ 4 → length b ≤ once → write_of (read_of b more).bytes b once ≡ written b
    entry_again more once n h =
        let t = entry_takes s number room ok in
        span_again s t.entry.place t.entry.length room _ bs t.holds b out f more once n h
