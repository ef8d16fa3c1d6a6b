-- Demand 1: what a proper beginning of a value, a header, a file or a packet comes to, and a value that is too deep.
use Rattle.std.specs.Prelude.{◌*◌, ◌≤◌, ◌<◌, ◌≡◌, ◌≢◌, ◌++◌}
use Rattle.wire.proofs.Kit.{ℕ, List, arith, length, length-append}
use Rattle.wire.specs.Limit as limit
use Rattle.image.specs.declared.reading.Reading.{Reading}
use Rattle.image.specs.Whole.{refused}
use Rattle.amf0.specs.Standard.{Sort, Tree, depth, Encodes}
use Rattle.amf0_theorems.proofs.Refusals as values
use Rattle.lso.specs.File.{Lso, File, deepest}
use Rattle.lso.specs.Reading as lso
use Rattle.lso_theorems.specs.Refusal.{Heads, WholeIn}
use Rattle.lso_theorems.proofs.Stopping.{Accepts}
use Rattle.lso_theorems.proofs.Beginning as files
use Rattle.packet_theorems.proofs.Beginnings as packets
use Rattle.demands.specs.Inputs.{IsValue, IsHeader, IsPacket, Cuttable}
use Rattle.demands.specs.Forms.{made, Short, ShortInRoom}
use Rattle.demands.proofs.Calls.{ParseSingleElement, LsoParse, LsoParseIncomplete, PacketParse, PacketParseIncomplete, ParseEntry}
use Rattle.demands.proofs.Told.{value_reads, file_reads, file_incomplete_reads, packet_reads, packet_incomplete_reads, entry_reads}
use Rattle.demands.proofs.Laws.{made_is, answered, short, short_in_room}

-- ---- values

-- A proper beginning of a value is refused with 2,
pub value_short : ShortInRoom IsValue ParseSingleElement
value_short = short_in_room value_reads IsValue λ s q room y l h ne. values.beginning y.0 s q room y.1 l y.2 h ne

-- and a value deeper than the limit with 5.
pub value_deep : (t : Tree Sort.value) (x q i : List ℕ) (r : Reading) (left : List ℕ) → Encodes Sort.value t x → limit.levels < depth t
    → length (x ++ q) ≤ limit.bytes → ParseSingleElement (x ++ q) i r left → r.answer ≢ 4 → r.answer ≡ 5
value_deep t x q i r left e d l a ne =
    let f = values.read_deep t x q (length i) e d l λ z. ne (rw (value_reads.told (x ++ q) i r left a).returns z) in
    answered value_reads (x ++ q) i r left 5 f.0 a f.1

-- ---- files

module _ (s q : List ℕ) (room : ℕ) (y : IsHeader (s ++ q)) (l : 1 ≤ length q) (h : length s ≤ limit.bytes) where
  -- a proper beginning of a header, in both readings
  header : (p : ℕ) × (lso.incomplete_of s room ≡ refused 2 p) × (lso.whole_of s room ≡ refused 2 p)
  header = files.beginning_header s q (length (s ++ q)) room y.0 y.1 (omega (arith, length-append s q)) h

-- A proper beginning of a header is refused with 2, in every room, by the whole reading
pub file_short : Short IsHeader LsoParse
file_short = short file_reads IsHeader λ s q room y l h. let e = header s q room y l h in (e.0, e.2)

-- and by the incomplete one;
pub file_incomplete_short : Short IsHeader LsoParseIncomplete
file_incomplete_short = short file_incomplete_reads IsHeader λ s q room y l h. let e = header s q room y l h in (e.0, e.1)

-- of a file whose header is whole, the incomplete reading accepts what is whole.
pub file_begun : (f : Lso) (s q i : List ℕ) (p : ℕ) (r : Reading) (x : List ℕ) → File f (s ++ q) → 1 ≤ length q → deepest f.body ≤ limit.levels
    → Heads (s ++ q) p → p ≤ length s → length s ≤ limit.bytes → 3 * length s ≤ length i → LsoParseIncomplete s i r x
    → (g : Lso) × (w : WholeIn f g s) × Accepts s g (length w.row) (made r x)
file_begun f s q i p r x c l d h j m k a = rw (made_is file_incomplete_reads s i r x a) (files.beginning_file f s q p (length i) c l d h j m k)

-- ---- packets

-- A proper beginning of a packet is refused with 2, whole
pub packet_short : ShortInRoom IsPacket PacketParse
packet_short =
    short_in_room packet_reads IsPacket λ s q room y l h ne.
    packets.parse_beginning y.0 s q room y.1 y.2 l h ne

-- or incomplete,
pub packet_incomplete_short : ShortInRoom IsPacket PacketParseIncomplete
packet_incomplete_short =
    short_in_room packet_incomplete_reads IsPacket λ s q room y l h ne.
    packets.incomplete_beginning y.0 s q room y.1 y.2 l h ne

-- and by entry, of a packet that its lengths cut exactly, in every room.
pub entry_short : (k : ℕ) → Short Cuttable λ s. ParseEntry s k
entry_short k = short (entry_reads k) Cuttable λ s q room y l h. packets.entry_beginning s q y.0 y.3 l h k room
