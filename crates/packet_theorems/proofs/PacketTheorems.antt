-- The theorems on the readers of packets, over what their public calls come to.
use Rattle.std.specs.Prelude.{◌+◌, ◌*◌, ◌≤◌, ◌<◌, ◌≡◌, ◌↔◌, ◌++◌, Ok}
use Rattle.wire.proofs.Kit.{ℕ, refl, sym, ap, ap₂, ◌∙◌, List, [], append-nil, arith, le_refl, length, get_or, take, drop}
use Rattle.wire.proofs.Kit.{take-append_seam, take-length, le-leb, lt-ltb}
use Rattle.wire.specs.Number.{Bytes}
use Rattle.wire.specs.Limit as limit
use Rattle.wire.proofs.Stands.{stood, length_bytes}
use Rattle.image.specs.Due.{Due}
use Rattle.image.specs.Whole.{Whole, bytes, accepted}
use Rattle.amf0.specs.Reading.{top_value}
use Rattle.amf0.specs.Span.{one_value}
use Rattle.amf0.specs.Standard.{Sort, Tree, depth, Encodes}
use Rattle.amf0.specs.Shown.{Shows}
use Rattle.amf0_theorems.proofs.Spans.{length_based, Takes, past, lies_within, alone, all_value}
use Rattle.amf0_theorems.proofs.Telling as telling
use Rattle.amf0_theorems.proofs.Spelling.{shown}
use Rattle.amf0_theorems.proofs.Call.{Taken, value_bounded}
use Rattle.image.proofs.Settle.{on_ends}
use Rattle.packet.specs.declared.head.Entry.{Entry}
use Rattle.packet.specs.Packet.{Packet, Encoded}
use Rattle.packet.specs.Shown.{ShowsPacket, Within}
use Rattle.packet.specs.Reading.{packet_at, incomplete_of, whole_of}
use Rattle.packet.specs.Entry.{found, cut_of, no_entry, span, span_of, read_entry, found_in}
use Rattle.packet_theorems.proofs.Agree.{good_entry}
use Rattle.packet_theorems.proofs.Frame.{cut_read}
use Rattle.packet_theorems.proofs.Theorems.{entry_takes}
use Rattle.packet_theorems.proofs.Taken.{roomy, taken, whole_taken}
use Rattle.packet_theorems.proofs.Outcome.{packet_bounded}
use Rattle.packet_theorems.proofs.Whole.{packet_told, FoundPacket, packet_found, packet_unique}

-- ---- the readings and the standard

-- the packet that the used bytes of an input encode, and that the image's bytes show
pub record Means (s : List ℕ) (w : Whole) : Type 0 where
  pub packet : Packet
  pub encoded : Encoded packet (take w.reading.used s)
  pub within : Within limit.levels packet
  pub shows : ShowsPacket s packet w.bytes
  pub made : w.reading.made ≡ length w.bytes
  pub used : w.reading.used ≤ length s

means : (s : List ℕ) (room n : ℕ) (w : Whole) → Bytes s → Taken s (packet_at s) room n w → Means s w
means s room n w bs t = rw t.result (go (packet_found s n bs t.ends))
  where
    go : FoundPacket s n → Means s (accepted n (bytes (packet_at s)))
    go f =
        let same : take n s ≡ f.row = ap₂ take f.next f.here.same ∙ take-append_seam f.row f.rest in
        record {
          packet = f.packet;
          encoded = rw same f.encoded;
          within = f.within;
          shows = (packet_told s f.rest f.encoded f.here f.within).shows t.small;
          made = refl;
          used = t.within;
        }

-- What the incomplete reading accepts is a packet: the bytes used encode one, its values at most as deep as the limit, and the image shows it.
pub sound_incomplete : (s : List ℕ) (room : ℕ) → Bytes s → (incomplete_of s room).reading.answer ≡ 0 → Means s (incomplete_of s room)
sound_incomplete s room bs e = means s room (incomplete_of s room).reading.used (incomplete_of s room) bs (taken s room e)

-- So is what the whole reading accepts, and every byte is used.
pub sound : (s : List ℕ) (room : ℕ) → Bytes s → (whole_of s room).reading.answer ≡ 0 → Means s (whole_of s room) × ((whole_of s room).reading.used ≡ length s)
sound s room bs e =
    let t = whole_taken s room e in
    (means s room (length s) (whole_of s room) bs t, ap (λ (w : Whole). w.reading.used) t.result)

-- an acceptance of n bytes, with an image that shows the packet p
pub record Accepts (s : List ℕ) (p : Packet) (n : ℕ) (w : Whole) : Type 0 where
  pub answer : w.reading.answer ≡ 0
  pub used : w.reading.used ≡ n
  pub shows : ShowsPacket s p w.bytes

-- Every packet of the standard's within the limits is accepted by the incomplete reading, whatever follows it, where the room is three times the input.
pub complete_incomplete : (p : Packet) (x r : List ℕ) (room : ℕ) → Encoded p x → Within limit.levels p → length (x ++ r) ≤ limit.bytes
    → 3 * length (x ++ r) ≤ room → Accepts (x ++ r) p (length x) (incomplete_of (x ++ r) room)
complete_incomplete p x r room e l h i =
    let t = packet_told (x ++ r) r e (record { same = refl }) l in
    let d : Due = packet_at (x ++ r) in
    rw (roomy (x ++ r) room h (omega (arith, (packet_bounded (x ++ r)).small)), on_ends d (length x) _ _ t.ends)
    (record { answer = refl; used = refl; shows = t.shows h })

-- And by the whole reading, where nothing follows it.
pub complete : (p : Packet) (s : List ℕ) (room : ℕ) → Encoded p s → Within limit.levels p → length s ≤ limit.bytes
    → 3 * length s ≤ room → Accepts s p (length s) (whole_of s room)
unfolding whole_of
complete p s room e l h i =
    let t = packet_told s [] e (record { same = sym (append-nil s) }) l in
    let d : Due = packet_at s in
    rw (roomy s room h (omega (arith, (packet_bounded s).small)), on_ends d (length s) _ _ t.ends, le-leb (length s) (length s) (le_refl (length s)))
    (record { answer = refl; used = refl; shows = t.shows h })

-- Within the limit, and where the room is three times the input, the whole reading accepts exactly the standard's packets.
pub exactly : (s : List ℕ) (room : ℕ) → Bytes s → length s ≤ limit.bytes → 3 * length s ≤ room
    → (whole_of s room).reading.answer ≡ 0 ↔ (p : Packet) × Encoded p s × Within limit.levels p
exactly s room bs h i = (
  λ e.
      let m = sound s room bs e in
      (m.0.packet, rw (ap (λ n. take n s) m.1 ∙ take-length s) at m.0.encoded, m.0.within),
  λ v. (complete v.0 s room v.1 v.2 h i).answer,
)

-- No row of bytes encodes two packets, and none that encodes a packet begins another.
pub unique : (p q : Packet) (x y r t : List ℕ) → Encoded p x → Encoded q y → x ++ r ≡ y ++ t → (p ≡ q) × (x ≡ y)
unique p q x y r t e f same = packet_unique r t e f same

-- ---- reading by entry

-- an acceptance of n bytes, with an image that tells the tree t, its texts taken out of s
pub record Gives (s : List ℕ) (t : Tree Sort.value) (n : ℕ) (w : Whole) : Type 0 where
  pub answer : w.reading.answer ≡ 0
  pub used : w.reading.used ≡ n
  pub shows : Shows s t w.bytes

-- an entry's span is inside the packet
span_inside : (s : List ℕ) (es : List Entry) (n k : ℕ) → cut_of s ≡ found es n → k < length es → past (span (get_or es k no_entry)) ≤ length s
span_inside s es n k cut h =
    let c = cut_read s es n cut in
    omega (arith, c.all, (lies_within no_entry k c.lies h).1)

-- the entry with the number k of a packet that is cut
module _ (s : List ℕ) (bs : Bytes s) (es : List Entry) (n : ℕ) (cut : cut_of s ≡ found es n) (k : ℕ) (h : k < length es) where
  entry_gives : (t : Tree Sort.value) (room : ℕ) → let e = get_or es k no_entry in
      Encodes Sort.value t (span_of s e) → depth t ≤ limit.levels → length (bytes (top_value (span_of s e) 0)) ≤ room
      → Gives s t e.length (read_entry s k room)
  entry_gives t room x deep i =
      let e : Entry = get_or es k no_entry in
      let within : e.place + e.length ≤ length s = span_inside s es n k cut h in
      let b = telling.reads limit.levels s (drop (e.place + e.length) s) e.place x (stood e.length s e.place) deep in
      let a = alone s e.place e.length bs within (rw (length_bytes e.length s e.place within) at b.ends) in
      rw (good_entry s room es n cut k e h refl (record { ends = a.ends; fits = rw length_based i }))
      (record {
        answer = refl;
        used = refl;
        shows = rw (← a.same) (shown s (drop (e.place + e.length) s) e.place x (stood e.length s e.place) deep (cut_read s es n cut).small);
      })

  -- Where the bytes of an entry's value encode a tree of the standard's, at most as deep as the limit, the entry is accepted in a room of three times those
  -- bytes: all of them are used, and the image tells that tree.
  pub entry_complete : (t : Tree Sort.value) (room : ℕ) → let e = get_or es k no_entry in
      Encodes Sort.value t (span_of s e) → depth t ≤ limit.levels → 3 * length (span_of s e) ≤ room → Gives s t e.length (read_entry s k room)
  entry_complete t room x deep i = entry_gives t room x deep (omega (arith, (value_bounded (span_of s (get_or es k no_entry))).small))

  -- What is accepted is a value: the bytes of the entry's value encode a tree of the standard's, at most as deep as the limit, and the image tells it.
  pub entry_sound : (room : ℕ) → (read_entry s k room).reading.answer ≡ 0 → let e = get_or es k no_entry in
      (t : Tree Sort.value) × Encodes Sort.value t (span_of s e) × (depth t ≤ limit.levels) × Gives s t e.length (read_entry s k room)
  entry_sound room zero =
      let e : Entry = get_or es k no_entry in
      let t = entry_takes s k room zero in
      let is : found_in (cut_of s) k ≡ Ok e = rw (cut, lt-ltb k (length es) h) in
      let g = sym is ∙ t.found in
      let same : t.entry ≡ e = cc in
      let take : Takes one_value s (span e) room (read_entry s k room) = rw same at t.holds.takes in
      let r = all_value s (span e) bs (span_inside s es n k cut h) take.ends in
      (r.tree, r.encodes, r.deep, entry_gives r.tree room r.encodes r.deep (rw length_based at take.fits))
