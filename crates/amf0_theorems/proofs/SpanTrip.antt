-- Demand 2 for a tree that was read in a span of an input: its image, over the input, is written, in no more bytes than the span, and reads back as the same
-- tree.
use Rattle.std.specs.Prelude.{◌+◌, ◌*◌, ◌≤◌, ◌≡◌, ◌≢◌}
use Rattle.wire.proofs.Kit.{ℕ, sym, ap, ◌∙◌, List, le_refl, arith, length, drop}
use Rattle.wire.specs.Field.{bytes_at}
use Rattle.wire.specs.Limit as limit
use Rattle.wire.specs.Number.{Bytes}
use Rattle.wire.proofs.Stands.{stood, length_bytes}
use Rattle.image.specs.Out.{written}
use Rattle.image.specs.Whole.{Whole, bytes}
use Rattle.amf0.specs.Reading.{top_value, read_of}
use Rattle.amf0.specs.Span.{span_at}
use Rattle.amf0.specs.Standard.{Sort, Tree, Encodes}
use Rattle.amf0.specs.Writing.{write_of}
use Rattle.amf0.specs.Written.{write, Images, Writable, Alike}
use Rattle.amf0_theorems.proofs.Call.{value_bounded}
use Rattle.amf0_theorems.proofs.More.{any_room}
use Rattle.amf0_theorems.proofs.Room.{holds}
use Rattle.amf0_theorems.proofs.Shortest.{least}
use Rattle.amf0_theorems.proofs.Spans.{length_based, alone, all_value, TakesSpan}
use Rattle.amf0_theorems.proofs.Telling as telling
use Rattle.amf0_theorems.proofs.Theorems.{room_more}
use Rattle.amf0_theorems.proofs.WriteOutcome.{sized_written, read_image}
use Rattle.amf0_theorems.proofs.WriteTheorems.{ReadsBack, written_tree, written_again, trip}

-- ---- what was read

-- the tree that the bytes of a span encode, and the image of it, over the packet, that a reading in a room made
record Read (s : List ℕ) (place n room : ℕ) (w : Whole) : Type 0 where
  tree : Tree Sort.value
  encodes : Encodes Sort.value tree (bytes_at n s place)
  long : length (bytes_at n s place) ≡ n
  made : w.bytes ≡ bytes (top_value s place)
  writable : Writable w.bytes s tree
  fits : length w.bytes ≤ room

-- what was accepted was read
span_read : (s : List ℕ) (place n room : ℕ) (w : Whole) → Bytes s → TakesSpan s place n room w → Read s place n room w
span_read s place n room w bs t =
    let x : List ℕ = bytes_at n s place in
    let d = top_value x 0 in
    let here = stood n s place in
    let long : length x ≡ n = length_bytes n s place t.inside in
    let v = all_value s (span_at place n) bs t.inside t.takes.ends in
    let q = telling.reads limit.levels s (drop (place + n) s) place v.encodes here v.deep in
    let a = alone s place n bs t.inside (rw long at q.ends) in
    let made : w.bytes ≡ bytes (top_value s place) = ap (λ (y : Whole). y.bytes) t.takes.same ∙ sym a.same in
    let size = ap (λ (y : Whole). length y.bytes) t.takes.same in
    record {
      tree = v.tree;
      encodes = v.encodes;
      long = long;
      made = made;
      writable =
          record {
            text_size = t.small;
            image_size = omega (arith, size, length_based place d, (value_bounded x).small, t.inside, t.small);
            images = rw made (read_image v.encodes here v.deep t.small);
            deep = v.deep;
          };
      fits = omega (arith, size, t.takes.fits);
    }

-- ---- what was read, written

-- the n bytes of s from a place on encode a tree, and the image that v has of it is written as that tree, in no more bytes
pub record Rewritten (s : List ℕ) (place n : ℕ) (v : Whole) (out : ℕ) : Type 0 where
  pub tree : Tree Sort.value
  pub before : Encodes Sort.value tree (bytes_at n s place)
  pub writes : write_of v.bytes s out ≡ written (write tree)
  pub after : Encodes Sort.value tree (write tree)
  pub fewer : length (write tree) ≤ n

-- the n bytes of s from a place on encode a tree, b is the same tree in no more bytes, and w reads it back; the images, v's over s and w's over b, differ in
-- the places of texts alone
pub record SpanTrip (s : List ℕ) (place n : ℕ) (b : List ℕ) (v w : Whole) : Type 0 where
  pub tree : Tree Sort.value
  pub before : Encodes Sort.value tree (bytes_at n s place)
  pub image : Images s tree v.bytes
  pub back : ReadsBack b tree w
  pub fewer : length b ≤ n
  pub alike : Alike s b v.bytes w.bytes

-- a span that was accepted, with the result w
module _ (s : List ℕ) (place n room : ℕ) (w : Whole) (bs : Bytes s) (t : TakesSpan s place n room w) where
  -- the tree that was read
  was_read : Read s place n room w
  was_read = span_read s place n room w bs t

  -- A tree that was read by span is written, where the output has as much room as the span: as the same tree, in no more bytes.
  pub span_write : (out : ℕ) → n ≤ out → Rewritten s place n w out
  span_write out h =
      let r = was_read in
      let v = written_tree w.bytes s r.tree out r.writable in
      let l = least r.encodes in
      record {
        tree = r.tree;
        before = r.encodes;
        writes = v.0 ∙ sized_written (write r.tree) out (omega (arith, r.long, t.inside, t.small)) (omega (arith, r.long));
        after = v.1.encodes;
        fewer = omega (arith, r.long);
      }

  module _ (b : List ℕ) (out : ℕ) (f : write_of w.bytes s out ≡ written b) where
    -- A tree that was read by span and then written reads back, given room, as the same tree, texts and number bits included, in no more bytes than the span.
    pub span_trip : (more : ℕ) → 3 * length b ≤ more → SpanTrip s place n b w (read_of b more)
    span_trip more h =
        let r = was_read in
        let t = trip b out more r.made r.encodes (stood n s place) r.writable f h in
        record {
          tree = r.tree;
          before = r.encodes;
          image = r.writable.images;
          back = t.back;
          fewer = omega (arith, t.fewer, r.long);
          alike = t.alike;
        }

    -- It does in every room that is not refused for room.
    pub span_trip_any : (more : ℕ) → (read_of b more).reading.answer ≢ 4 → SpanTrip s place n b w (read_of b more)
    span_trip_any more = any_room (read_of b) (room_more b) (SpanTrip s place n b w) (3 * length b) span_trip more

    -- So it does in the room of the first reading.
    pub span_same_room : SpanTrip s place n b w (read_of b room)
    span_same_room =
        let more : ℕ = 3 * length b in
        let t = span_trip more (le_refl more) in
        span_trip_any room (holds more room t.back.answer t.alike was_read.fits)

    -- To read it in such a room and write it once more changes nothing more.
    pub span_again : (more once : ℕ) → (read_of b more).reading.answer ≢ 4 → length b ≤ once → write_of (read_of b more).bytes b once ≡ written b
    span_again more once ne h =
        any_room (read_of b) (room_more b) (λ v. write_of v.bytes b once ≡ written b) (3 * length b)
        (λ m i. written_again w.bytes s b was_read.tree out m once was_read.writable f i h) more ne
