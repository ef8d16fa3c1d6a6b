-- Demand 2 of the calls, what each format says in its own way: what is accepted, and what is put out.
use Rattle.std.specs.Prelude.{◌*◌, ◌≤◌, ◌≡◌, ◌++◌, Ok}
use Rattle.wire.proofs.Kit.{ℕ, refl, sym, ap, ◌∙◌, List, arith, Bool, length}
use Rattle.wire.specs.Number.{Bytes}
use Rattle.wire.specs.Limit as limit
use Rattle.image.specs.declared.reading.Reading.{Reading}
use Rattle.image.specs.declared.writing.Writing.{Writing}
use Rattle.image.specs.Whole.{Whole}
use Rattle.image.specs.Out.{Written}
use Rattle.amf0.specs.Standard.{Sort, Tree, depth, Encodes}
use Rattle.amf0.specs.Reading.{read_of}
use Rattle.amf0.specs.Writing as amf0
use Rattle.amf0.specs.Written as tree_writing
use Rattle.amf0_theorems.proofs.Theorems as values
use Rattle.amf0_theorems.proofs.WriteOutcome.{written_sized}
use Rattle.amf0_theorems.proofs.WriteTheorems as values_write
use Rattle.lso.specs.File.{Lso, File, deepest}
use Rattle.lso.specs.Reading as lso
use Rattle.lso.specs.Writing as lso_write
use Rattle.lso.specs.Written as file_writing
use Rattle.lso_theorems.specs.Refusal.{Halts}
use Rattle.lso_theorems.proofs.Stopping.{Accepts}
use Rattle.lso_theorems.proofs.Theorems as files
use Rattle.lso_theorems.proofs.WriteTheorems as files_write
use Rattle.packet.specs.declared.head.Entry.{Entry}
use Rattle.packet.specs.Packet.{Packet, Encoded}
use Rattle.packet.specs.Shown.{Within}
use Rattle.packet.specs.Reading as packet
use Rattle.packet.specs.Entry.{span_of, read_span, read_entry}
use Rattle.packet.specs.Writing as packet_write
use Rattle.packet.specs.Written as packet_writing
use Rattle.packet_theorems.proofs.Theorems.{entry_takes, span_takes}
use Rattle.amf0_theorems.proofs.Spans.{TakesSpan}
use Rattle.amf0_theorems.proofs.SpanTrip.{span_write}
use Rattle.packet_theorems.proofs.WriteOutcome.{read_whole, read_incomplete}
use Rattle.packet_theorems.proofs.PacketTheorems as packets
use Rattle.packet_theorems.proofs.WriteTheorems as packets_write
use Rattle.demands.specs.Forms.{made, sent}
use Rattle.demands.proofs.Calls.{ParseSingleElement, LsoParse, LsoParseIncomplete, PacketParse, PacketParseIncomplete, ParseEntry, WriteValue, LsoWrite, PacketWrite, Nth}
use Rattle.demands.proofs.Told.{value_reads, file_reads, file_incomplete_reads, packet_reads, packet_incomplete_reads, entry_reads, value_puts, file_puts, packet_puts}
use Rattle.demands.proofs.Laws.{made_is, sent_is}
use Rattle.demands.proofs.Demand3.{found_in_lem}

-- ---- what is accepted

-- Every value of the standard's within the limits is accepted, whatever follows it, where the room is three times the input.
pub value_complete : (t : Tree Sort.value) (x rest i : List ℕ) (r : Reading) (left : List ℕ) → Encodes Sort.value t x → depth t ≤ limit.levels
    → length (x ++ rest) ≤ limit.bytes → 3 * length (x ++ rest) ≤ length i → ParseSingleElement (x ++ rest) i r left
    → values.Accepts (x ++ rest) t (length x) (made r left)
value_complete t x rest i r left e d h l a = rw (made_is value_reads (x ++ rest) i r left a) (values.complete t x rest (length i) e d h l)

-- Every file within the limits is accepted by the whole reading,
pub file_complete : (f : Lso) (s i : List ℕ) (r : Reading) (left : List ℕ) → File f s → deepest f.body ≤ limit.levels → length s ≤ limit.bytes
    → 3 * length s ≤ length i → LsoParse s i r left → Accepts s f (length s) (made r left)
file_complete f s i r left e d h l a = rw (made_is file_reads s i r left a) (files.complete_whole f s (length i) e d h l)

-- and by the incomplete one, where no further element can be read behind it.
pub file_incomplete_complete : (f : Lso) (x rest i : List ℕ) (r : Reading) (left : List ℕ) → Bytes (x ++ rest) → File f x → deepest f.body ≤ limit.levels
    → length (x ++ rest) ≤ limit.bytes → 3 * length (x ++ rest) ≤ length i → Halts (x ++ rest) (length x) → LsoParseIncomplete (x ++ rest) i r left
    → Accepts (x ++ rest) f (length x) (made r left)
file_incomplete_complete f x rest i r left bs e d h l k a =
    rw (made_is file_incomplete_reads (x ++ rest) i r left a) (files.complete_incomplete f x rest (length i) bs e d h l k)

-- Every packet within the limits is accepted by the whole reading,
pub packet_complete : (p : Packet) (s i : List ℕ) (r : Reading) (left : List ℕ) → Encoded p s → Within limit.levels p → length s ≤ limit.bytes
    → 3 * length s ≤ length i → PacketParse s i r left → packets.Accepts s p (length s) (made r left)
packet_complete p s i r left e d h l a = rw (made_is packet_reads s i r left a) (packets.complete p s (length i) e d h l)

-- and by the incomplete one, whatever follows it.
pub packet_incomplete_complete : (p : Packet) (x rest i : List ℕ) (r : Reading) (left : List ℕ) → Encoded p x → Within limit.levels p
    → length (x ++ rest) ≤ limit.bytes → 3 * length (x ++ rest) ≤ length i → PacketParseIncomplete (x ++ rest) i r left
    → packets.Accepts (x ++ rest) p (length x) (made r left)
packet_incomplete_complete p x rest i r left e d h l a =
    rw (made_is packet_incomplete_reads (x ++ rest) i r left a) (packets.complete_incomplete p x rest (length i) e d h l)

-- the tree that the bytes of an entry's value encode, and that the image's bytes tell
pub record Means (s : List ℕ) (e : Entry) (v : Whole) : Type 0 where
  pub tree : Tree Sort.value
  pub encodes : Encodes Sort.value tree (span_of s e)
  pub deep : depth tree ≤ limit.levels
  pub gives : packets.Gives s tree e.length v

-- What `parse_entry` accepts is a value, and the image tells its tree.
pub entry_sound : (s : List ℕ) (k : ℕ) (e : Entry) (i : List ℕ) (r : Reading) (left : List ℕ) → Bytes s → Nth s k (Ok e) → ParseEntry s k i r left
    → r.answer ≡ 0 → Means s e (made r left)
entry_sound s k e i r left bs f a z =
    let g = found_in_lem f in
    let w = made_is (entry_reads k) s i r left a in
    rw (w, g.same)
    (means (read_entry s k (length i))
    (packets.entry_sound s bs g.entries g.ends g.cut k g.below (length i) (sym (ap (λ (v : Whole). v.reading.answer) w) ∙ z)))
  where
    means : {e : Entry} (v : Whole)
        → (t : Tree Sort.value) × Encodes Sort.value t (span_of s e) × (depth t ≤ limit.levels) × packets.Gives s t e.length v → Means s e v
    means v (t, x, d, g) = record { tree = t; encodes = x; deep = d; gives = g }

-- An entry whose bytes encode a tree within the limit is accepted in a room of three times those bytes.
pub entry_complete : (s : List ℕ) (k : ℕ) (e : Entry) (t : Tree Sort.value) (i : List ℕ) (r : Reading) (left : List ℕ) → Bytes s → Nth s k (Ok e)
    → Encodes Sort.value t (span_of s e) → depth t ≤ limit.levels → 3 * length (span_of s e) ≤ length i → ParseEntry s k i r left
    → packets.Gives s t e.length (made r left)
entry_complete s k e t i r left bs f x d l a =
    let g = found_in_lem f in
    rw (made_is (entry_reads k) s i r left a, g.same)
    (packets.entry_complete s bs g.entries g.ends g.cut k g.below t (length i) (rw g.same at x) d (rw g.same at l))

-- ---- what is put out

-- What is put out of the image of a tree is its shortest encoding.
pub value_shortest : (t : Tree Sort.value) (i text o : List ℕ) (w : Writing) (y : List ℕ) → tree_writing.Writable i text t → WriteValue i text o w y
    → w.answer ≡ 0 → tree_writing.Shortest t (sent w y)
value_shortest t i text o w y h b z =
    let g = values_write.written_tree i text t (length o) h in
    rw (written_sized (tree_writing.write t) (length o) (sent w y) (sym g.0 ∙ sent_is value_puts i text o w y b z)).same g.1

-- What is put out of the image of a file is that file, but for the length that it says.
pub file_written : (f : Lso) (i text o : List ℕ) (w : Writing) (y : List ℕ) → file_writing.Writable i text f → LsoWrite i text o w y → w.answer ≡ 0
    → files_write.WrittenAs f (sent w y)
file_written f i text o w y h b z = files_write.written_is i text (sent w y) f (length o) h (sent_is file_puts i text o w y b z)

-- That length is 16 plus the name's length plus the body's.
pub file_length : (i text o : List ℕ) (w : Writing) (y : List ℕ) → Bytes i → LsoWrite i text o w y → w.answer ≡ 0 → file_writing.SaysLength (sent w y)
file_length i text o w y bs b z =
    let e = sent_is file_puts i text o w y b z in
    rw (ap (λ (v : Written). v.bytes) e) at (files_write.written_length i text (length o) bs (ap (λ (v : Written). v.writing.answer) e))

-- What is put out of the image of a packet is that packet, but for the lengths that its entries declare: those are as asked for.
pub packet_written : (p : Packet) (exact : Bool) (i text o : List ℕ) (w : Writing) (y : List ℕ) → packet_writing.Writable i text p
    → PacketWrite i text exact o w y → w.answer ≡ 0 → packets_write.WrittenAs exact p (sent w y)
packet_written p exact i text o w y h b z =
    packets_write.written_is i text (sent w y) exact p (length o) h (sent_is (packet_puts exact) i text o w y b z)

-- It is cut into that packet's entries.
pub packet_cuts : (p : Packet) (exact : Bool) (i text o : List ℕ) (w : Writing) (y : List ℕ) → packet_writing.Writable i text p
    → PacketWrite i text exact o w y → w.answer ≡ 0 → packets_write.CutsExactly (sent w y) p
packet_cuts p exact i text o w y h b z =
    packets_write.cuts_exactly i text (sent w y) exact p (length o) h (sent_is (packet_puts exact) i text o w y b z)

-- ---- what was read, written: that it is, in no more bytes

-- as the law of rewriting asks for it
abbrev Fewer : Whole → Written → Type 0
Fewer v w = (w.writing.answer ≡ 0) × (w.writing.count ≤ v.reading.used)

-- a value,
pub value_fewer : (s : List ℕ) (room out : ℕ) → Bytes s → (read_of s room).reading.answer ≡ 0 → (read_of s room).reading.used ≤ out
    → Fewer (read_of s room) (amf0.write_of (read_of s room).bytes s out)
value_fewer s room out bs z l =
    let g = values_write.accepted_write s room out z l (values.sound s room bs z) in
    rw g.0 (refl, g.1)

-- a file that was read whole,
pub file_fewer : (s : List ℕ) (room out : ℕ) → Bytes s → (lso.whole_of s room).reading.answer ≡ 0 → (lso.whole_of s room).reading.used ≤ out
    → Fewer (lso.whole_of s room) (lso_write.write_of (lso.whole_of s room).bytes s out)
file_fewer s room out bs z l = let g = files_write.accepted_write s room out bs z l in (g.answer, g.fewer)

-- a file as far as it was used,
pub file_incomplete_fewer : (s : List ℕ) (room out : ℕ) → Bytes s → (lso.incomplete_of s room).reading.answer ≡ 0 → (lso.incomplete_of s room).reading.used ≤ out
    → Fewer (lso.incomplete_of s room) (lso_write.write_of (lso.incomplete_of s room).bytes s out)
file_incomplete_fewer s room out bs z l = let g = files_write.accepted_write_incomplete s room out bs z l in (g.answer, g.fewer)

-- a packet that was read whole,
pub packet_fewer : (exact : Bool) (s : List ℕ) (room out : ℕ) → Bytes s → (packet.whole_of s room).reading.answer ≡ 0 → (packet.whole_of s room).reading.used ≤ out
    → Fewer (packet.whole_of s room) (packet_write.write_of (packet.whole_of s room).bytes s exact out)
packet_fewer exact s room out bs z l = let g = packets_write.accepted_write (read_whole s room bs z) exact out l in (g.answer, g.fewer)

-- and one as far as it was used
pub packet_incomplete_fewer : (exact : Bool) (s : List ℕ) (room out : ℕ) → Bytes s → (packet.incomplete_of s room).reading.answer ≡ 0
    → (packet.incomplete_of s room).reading.used ≤ out → Fewer (packet.incomplete_of s room) (packet_write.write_of (packet.incomplete_of s room).bytes s exact out)
packet_incomplete_fewer exact s room out bs z l = let g = packets_write.accepted_write (read_incomplete s room bs z) exact out l in (g.answer, g.fewer)

-- What was accepted in a span is written, in no more bytes.
fewer : {s : List ℕ} {place n room : ℕ} {w : Whole} (out : ℕ) → TakesSpan s place n room w → Bytes s → w.reading.used ≤ out → Fewer w (amf0.write_of w.bytes s out)
fewer {s} {place} {n} {room} {w} out t bs l =
    let used = ap (λ (w : Whole). w.reading.used) t.takes.same in
    let g = span_write s place n room w bs t out (omega arith) in
    rw g.writes (refl, omega (arith, g.fewer))

-- The value of a part of a packet,
pub span_fewer : (place n : ℕ) (s : List ℕ) (room out : ℕ) → Bytes s → (read_span s place n room).reading.answer ≡ 0
    → (read_span s place n room).reading.used ≤ out → Fewer (read_span s place n room) (amf0.write_of (read_span s place n room).bytes s out)
span_fewer place n s room out bs z l = fewer out (span_takes s place n room z) bs l

-- and that of an entry
pub entry_fewer : (k : ℕ) (s : List ℕ) (room out : ℕ) → Bytes s → (read_entry s k room).reading.answer ≡ 0 → (read_entry s k room).reading.used ≤ out
    → Fewer (read_entry s k room) (amf0.write_of (read_entry s k room).bytes s out)
entry_fewer k s room out bs z l = fewer out (entry_takes s k room z).holds bs l
