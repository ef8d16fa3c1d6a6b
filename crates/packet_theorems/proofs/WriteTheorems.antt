-- The theorems on the writer of packets, over what its public call comes to.
use Rattle.std.specs.Prelude.{◌*◌, ◌≤◌, ◌<◌, ◌≡◌, ◌↔◌, ◌⊎◌}
use Rattle.wire.proofs.Kit.{ℕ, refl, sym, ap, subst, ◌∙◌, inl, inr, ⊎_elim, List, append-nil, Bool, true, arith, length, take}
use Rattle.wire.proofs.Kit.{get_or, length-take-le}
use Rattle.wire.specs.Number.{Bytes}
use Rattle.wire.specs.Limit as limit
use Rattle.wire.proofs.Stands.{Here}
use Rattle.image.specs.Out.{Written, written, unwritten, sized}
use Rattle.image.specs.Whole.{Whole}
use Rattle.amf0.specs.Written as amf0
use Rattle.amf0.specs.Written.{Alike}
use Rattle.amf0.specs.Writing.{whole}
use Rattle.amf0_theorems.specs.Unwritten.{Stops}
use Rattle.amf0_theorems.proofs.WriteOutcome.{sized_written, written_sized}
use Rattle.amf0_theorems.proofs.WriteRefusal.{ends_or_stops}
use Rattle.amf0_theorems.proofs.WriteReasons.{call_refusals, stops_once, stops_deep, only_deep, call_settled, accepted, call_answers}
use Rattle.amf0_theorems.proofs.Settled.{Settled}
use Rattle.packet.specs.declared.head.Entry.{Entry}
use Rattle.packet.specs.Packet.{Packet, Encoded}
use Rattle.packet.specs.Shown.{Within}
use Rattle.packet.specs.Reading.{whole_of}
use Rattle.packet.specs.Entry.{found, cut_of, no_entry, read_entry}
use Rattle.packet.specs.Change.{Agrees}
use Rattle.packet.specs.Writing.{packet, write_of}
use Rattle.packet.specs.Written.{write, saying, Images, Writable, rewrite_of, Parts, items_of, no_item}
use Rattle.packet_theorems.specs.Cuts.{Exact}
use Rattle.packet_theorems.specs.Unwritten.{Refused, Outcome}
use Rattle.packet_theorems.proofs.Puts.{image_puts, packet_written}
use Rattle.packet_theorems.proofs.Shortest.{write_encoded, packet_least, write_saying, within_saying, within_said}
use Rattle.packet_theorems.proofs.Unique.{images_one}
use Rattle.packet_theorems.proofs.PacketBytes.{encoded_bytes}
use Rattle.packet_theorems.proofs.WriteOutcome.{ReadImage, taken_image, WasRead, images_alike}
use Rattle.packet_theorems.proofs.WriteReasons.{reasons, packet_refusing}
use Rattle.packet_theorems.proofs.WriteSound.{image_of}
use Rattle.packet_theorems.proofs.WriteRefusal.{refused_by}
use Rattle.packet_theorems.proofs.WriteRefusing.{refuses_by}
use Rattle.packet_theorems.proofs.Cutting.{packet_cut, shallow_append, shallow_at}
use Rattle.packet_theorems.proofs.Taken.{whole_taken}
use Rattle.packet_theorems.proofs.PacketTheorems.{complete, Gives, entry_complete}
use Rattle.packet_theorems.proofs.Demand3.{agreement}

-- ---- the writing and the packet

-- No image is that of two packets, but for the lengths that their entries declare, which an image does not tell.
pub one_packet : (image text : List ℕ) (exact : Bool) (p q : Packet) → length image ≤ limit.image → Images text p image → Images text q image
    → saying exact p ≡ saying exact q
one_packet image text exact p q h a b = images_one exact h a b

-- the packet p, written as b
pub record WrittenAs (exact : Bool) (p : Packet) (b : List ℕ) : Type 0 where
  pub same : b ≡ write exact p
  pub encoded : Encoded (saying exact p) b
  pub small : length b ≤ limit.bytes
  pub bytes : Bytes b

-- What is written of the image of a packet is that packet, but for the lengths that its entries declare: those are as asked for.
pub written_is : (image text b : List ℕ) (exact : Bool) (p : Packet) (out : ℕ) → Writable image text p → write_of image text exact out ≡ written b
    → WrittenAs exact p b
written_is image text b exact p out w e =
    let g = written_sized (write exact p) out b (sym (packet_written exact out w) ∙ e) in
    let x = write_encoded exact w.images w.image_size (λ t. g.small) in
    rw g.same (record { same = refl; encoded = x; small = g.small; bytes = encoded_bytes x })

-- an acceptance of all of b, which is the packet p but for the lengths that its entries declare, with an image of that packet
pub record ReadsBack (b : List ℕ) (exact : Bool) (p : Packet) (w : Whole) : Type 0 where
  pub answer : w.reading.answer ≡ 0
  pub used : w.reading.used ≡ length b
  pub encoded : Encoded (saying exact p) b
  pub image : ReadImage b (saying exact p) w

-- What is written reads back whole, given room, as the packet of the image, but for the lengths that its entries declare.
pub written_back : (image text b : List ℕ) (exact : Bool) (p : Packet) (out more : ℕ) → Writable image text p → write_of image text exact out ≡ written b
    → 3 * length b ≤ more → ReadsBack b exact p (whole_of b more)
written_back image text b exact p out more w e h =
    let x = written_is image text b exact p out w e in
    let deep : Within limit.levels (saying exact p) = within_saying limit.levels exact p w.deep in
    let c = complete (saying exact p) b more x.encoded deep x.small h in
    let here : Here b 0 b _ = record { same = sym (append-nil b) } in
    record { answer = c.answer; used = c.used; encoded = x.encoded; image = taken_image x.encoded deep here (whole_taken b more c.answer) }

-- And to write that once more, in either setting, puts out what the packet is written as: in the same setting, the same bytes.
pub written_again : (image text b : List ℕ) (exact : Bool) (p : Packet) (out more : ℕ) → Writable image text p → write_of image text exact out ≡ written b
    → 3 * length b ≤ more → ((next : Bool) (once : ℕ) → rewrite_of whole_of b more next once ≡ sized (write next p) once)
    × ((once : ℕ) → length b ≤ once → rewrite_of whole_of b more exact once ≡ written b)
written_again image text b exact p out more w e h =
    let x = written_is image text b exact p out w e in
    let m = (written_back image text b exact p out more w e h).image.writable in
    let other : (next : Bool) (once : ℕ) → rewrite_of whole_of b more next once ≡ sized (write next p) once =
    λ next once. packet_written next once m ∙ ap (λ z. sized z once) (write_saying next exact p) in
    (other, λ once i. other exact once ∙ (ap (λ z. sized z once) (sym x.same) ∙ sized_written b once x.small i))

-- ---- what was read, written

-- the used bytes of s are a packet, and w puts out the same packet, but for the lengths that its entries declare, in no more bytes
pub record Rewritten (s : List ℕ) (exact : Bool) (v : Whole) (w : Written) : Type 0 where
  pub packet : Packet
  pub before : Encoded packet (take v.reading.used s)
  pub after : Encoded (saying exact packet) w.bytes
  pub answer : w.writing.answer ≡ 0
  pub count : w.writing.count ≡ length w.bytes
  pub fewer : w.writing.count ≤ v.reading.used

-- the used bytes of s are a packet, all of b is the same packet but for the lengths that its entries declare, in no more bytes, and the images that v and w
-- have of them differ in the places of texts alone
pub record RoundTrip (s b : List ℕ) (exact : Bool) (v w : Whole) : Type 0 where
  pub packet : Packet
  pub before : Encoded packet (take v.reading.used s)
  pub after : Encoded (saying exact packet) b
  pub answer : w.reading.answer ≡ 0
  pub used : w.reading.used ≡ length b
  pub fewer : length b ≤ v.reading.used
  pub image : Images s packet v.bytes
  pub image_too : Images b (saying exact packet) w.bytes
  pub alike : Alike s b v.bytes w.bytes

-- A packet that was read: whole (`read_whole`), or as far as the incomplete reading used it (`read_incomplete`).
module _ {s : List ℕ} {room : ℕ} {v : Whole} (m : WasRead s room v) (exact : Bool) where
  fewer : length (write exact m.packet) ≤ v.reading.used
  fewer = omega (arith, packet_least exact m.encoded, length-take-le v.reading.used s m.used)

  -- It is written, in either setting, where the output has as much room as the bytes used: as the same packet, but for the lengths that its entries declare,
  -- in no more bytes.
  pub accepted_write : (out : ℕ) → v.reading.used ≤ out → Rewritten s exact v (write_of v.bytes s exact out)
  accepted_write out h =
      let w = m.image.writable in
      let l : length (write exact m.packet) ≤ limit.bytes = omega (arith, fewer, m.used, w.text_size) in
      rw (packet_written exact out w ∙ sized_written (write exact m.packet) out l (omega (arith, fewer)))
      (record {
        packet = m.packet;
        before = m.encoded;
        after = write_encoded exact w.images w.image_size (λ t. l);
        answer = refl;
        count = refl;
        fewer = fewer;
      })

  module _ (b : List ℕ) (out : ℕ) (e : write_of v.bytes s exact out ≡ written b) where
    -- Written, in either setting, it reads back, given room, as the same packet: the same headers, flags, targets, responses and values, texts and number bits
    -- included, in no more bytes than were used. Only text places and declared lengths may differ.
    pub round_trip : (more : ℕ) → 3 * length b ≤ more → RoundTrip s b exact v (whole_of b more)
    round_trip more h =
        let w = m.image.writable in
        let r = written_back v.bytes s b exact m.packet out more w e h in
        record {
          packet = m.packet;
          before = m.encoded;
          after = r.encoded;
          answer = r.answer;
          used = r.used;
          fewer = rw (written_is v.bytes s b exact m.packet out w e).same fewer;
          image = w.images;
          image_too = r.image.writable.images;
          alike = images_alike exact m.image r.image;
        }

    -- To read that and write it once more in the same setting changes nothing more.
    pub again : (more once : ℕ) → 3 * length b ≤ more → length b ≤ once → rewrite_of whole_of b more exact once ≡ written b
    again more once h = (written_again v.bytes s b exact m.packet out more m.image.writable e h).1 once

-- ---- the cut of what is written

-- the lengths of b are exact or not known, and its cut finds the entries of the packet p, headers first and then messages
pub record CutsExactly (b : List ℕ) (p : Packet) : Type 0 where
  pub exact : Exact b
  pub entries : List Entry
  -- up to the last byte
  pub cut : cut_of b ≡ found entries (length b)
  -- as many as p has
  pub count : length entries ≡ length (items_of p)
  -- each with the kind, the flag and the texts of p's, and a span that is what the value is written as
  pub each : (k : ℕ) → k < length entries → let i = get_or (items_of p) k no_item in Parts b i.label (amf0.write i.value) (get_or entries k no_entry)
  -- read by entry, in a room of three times that span, each value is accepted: all of its span is used, and the image tells it
  pub reads : (k room : ℕ) → k < length entries → 3 * (get_or entries k no_entry).length ≤ room
      → Gives b (get_or (items_of p) k no_item).value (get_or entries k no_entry).length (read_entry b k room)
  -- and reading by entry agrees with the whole reading, in every room in which that accepts
  pub agrees : (room : ℕ) → (whole_of b room).reading.answer ≡ 0 → Agrees b room

-- What the writer makes of the image of any packet, in either setting, is cut into that packet's entries.
pub cuts_exactly : (image text b : List ℕ) (exact : Bool) (p : Packet) (out : ℕ) → Writable image text p → write_of image text exact out ≡ written b
    → CutsExactly b p
cuts_exactly image text b exact p out w e =
    let g = written_sized (write exact p) out b (sym (packet_written exact out w) ∙ e) in
    let f = packet_cut exact w.images w.image_size g.small w.deep in
    let m = write_encoded exact w.images w.image_size (λ t. g.small) in
    let bs : Bytes (write exact p) = encoded_bytes m in
    let all = shallow_append limit.levels p.headers p.messages w.deep.0 w.deep.1 in
    rw g.same
    (record {
      exact = f.exact;
      entries = f.entries;
      cut = f.cut;
      count = f.count;
      each = f.each;
      reads = λ k room h r.
          let o = f.each k h in
          entry_complete (write exact p) bs f.entries (length (write exact p)) f.cut k h (get_or (items_of p) k no_item).value room
          (rw o.span (f.encodes k h)) (shallow_at limit.levels (items_of p) k all (omega (arith, f.count)))
          (rw o.span (rw o.long at r));
      agrees = λ room a. agreement (write exact p) room bs f.exact a;
    })

-- the used bytes of s are a packet, and b is cut into its entries
pub record CutsAsRead (s b : List ℕ) (v : Whole) : Type 0 where
  pub packet : Packet
  pub before : Encoded packet (take v.reading.used s)
  pub cuts : CutsExactly b packet

-- So is what it makes of a packet that was read.
pub cuts_as_read : {s : List ℕ} {room : ℕ} {v : Whole} (m : WasRead s room v) (b : List ℕ) (exact : Bool) (out : ℕ) → write_of v.bytes s exact out ≡ written b
    → CutsAsRead s b v
cuts_as_read {s} {v = v} m b exact out f =
    record { packet = m.packet; before = m.encoded; cuts = cuts_exactly v.bytes s b exact m.packet out m.image.writable f }

-- ---- the answers

-- The answer is one of 0, 1, 4, 5 and 6.
pub write_answers : (image text : List ℕ) (exact : Bool) (room : ℕ)
    → let a = (write_of image text exact room).writing.answer in (a ≡ 0) ⊎ ((a ≡ 1) ⊎ ((a ≡ 4) ⊎ ((a ≡ 5) ⊎ (a ≡ 6))))
write_answers image text exact room = call_answers image text room (whole image (packet exact image text)) (packet_refusing image text exact)

-- The writing is refused with an answer at a place exactly where the records before it begin a packet, and what stands there is not what is due and gives
-- that answer.
pub refusal : (image text : List ℕ) (exact : Bool) (a p : ℕ) → Bytes image → Stops (whole image (packet exact image text)) a p ↔ Refused image text a p
refusal image text exact a p bs = (refused_by text image bs exact a p, refuses_by text image bs exact a p)

-- An image is refused with one answer, at one place.
pub one_refusal : (image text : List ℕ) (a b p q : ℕ) → Bytes image → Refused image text a p → Refused image text b q → (a ≡ b) × (p ≡ q)
one_refusal image text a b p q bs x y =
    stops_once (whole image (packet true image text)) a b p q (refuses_by text image bs true a p x) (refuses_by text image bs true b q y)

-- The image of a packet is refused with 5 only, and only where a value of it is too deep.
pub refused_image : (image text : List ℕ) (a u : ℕ) (p : Packet) → Bytes image → Refused image text a u → Images text p image
    → (a ≡ 5) × (Within limit.levels p → ⊥)
refused_image image text a u p bs x m =
    stops_deep (image_puts text image {D = Within limit.levels p → ⊥} true m (λ l. l)).puts a u (refuses_by text image bs true a u x)

-- An image is that of a packet whose values are not too deep, or it is refused at a place.
pub packet_or_refusal : (image text : List ℕ) → Bytes image
    → ((p : Packet) × Images text p image × Within limit.levels p) ⊎ ((a : ℕ) × (u : ℕ) × Refused image text a u)
packet_or_refusal image text bs =
    ⊎_elim (λ e. inl (image_of text image bs true e.0 e.1)) (λ e. inr (e.0, e.1, refused_by text image bs true e.0 e.1 e.2))
    (ends_or_stops (whole image (packet true image text)))

-- A call is refused for a size, by what stands at a place of the image, or for the room; else it puts out what the packet is written as.
pub write_reasons : (image text : List ℕ) (exact : Bool) (room : ℕ) → Bytes image → Outcome image text exact room (write_of image text exact room)
write_reasons = reasons

-- Within the limits, a call is refused with 5, or with 6, exactly where the image is so refused by what stands at a place.
pub write_refusals : (image text : List ℕ) (exact : Bool) (room a : ℕ) → Bytes image → length text ≤ limit.bytes → length image ≤ limit.image
    → (a ≡ 5) ⊎ (a ≡ 6) → write_of image text exact room ≡ unwritten a ↔ (p : ℕ) × Refused image text a p
write_refusals image text exact room a bs h i o =
    call_refusals image text (whole image (packet exact image text)) room a (Refused image text a) (packet_refusing image text exact) h i o λ p.
    refusal image text exact a p bs

-- A write is accepted exactly where the image is that of a packet whose bytes are within the limit and the room.
pub write_accepted : (image text : List ℕ) (exact : Bool) (room : ℕ) → Bytes image → (write_of image text exact room).writing.answer ≡ 0
    ↔ (p : Packet) × Writable image text p × (length (write exact p) ≤ limit.bytes) × (length (write exact p) ≤ room)
write_accepted image text exact room bs = accepted (write_of image text exact room) (reasons image text exact room bs) λ p. packet_written exact room

-- Within the limits, the image of a packet with a value that is too deep is refused with 5.
pub write_deep : (image text : List ℕ) (exact : Bool) (p : Packet) (room : ℕ) → Bytes image → length text ≤ limit.bytes → length image ≤ limit.image
    → Images text p image → (Within limit.levels p → ⊥) → write_of image text exact room ≡ unwritten 5
write_deep image text exact p room bs h i m d =
    only_deep (write_of image text exact room) (reasons image text exact room bs) h i other (λ q f. let e = refused_image image text 6 q p bs f m in omega (arith, e.0))
  where
    other : (q : Packet) → Writable image text q → ⊥
    other q w =
        let e = one_packet image text exact p q i m w.images in
        d (within_said limit.levels exact p (subst (Within limit.levels) (sym e) (within_saying limit.levels exact q w.deep)))

-- A refused write counts 0 and has no byte of an output; an accepted one counts the bytes that it has of it, and they have room.
pub write_settled : (image text : List ℕ) (exact : Bool) (room : ℕ) → Settled room (write_of image text exact room)
write_settled image text exact room = call_settled image text room (whole image (packet exact image text)) (packet_refusing image text exact)
