-- What each call's own contract says of it: which definition it comes to.
use Rattle.std.specs.Prelude.{◌/◌, ◌≡◌}
use Rattle.wire.proofs.Kit.{ℕ, List, Bool, length}
use Rattle.wire.specs.Text.{part_of}
use Rattle.image.specs.declared.reading.Reading.{Reading}
use Rattle.image.specs.declared.writing.Writing.{Writing}
use Rattle.image.specs.Whole.{Whole, padded}
use Rattle.image.specs.Out.{Written, onto}
use Rattle.amf0.specs.Reading.{read_of}
use Rattle.amf0.specs.Writing as amf0
use Rattle.lso.specs.Reading as lso
use Rattle.lso.specs.Writing as lso_write
use Rattle.packet.specs.declared.head.Entry.{Entry}
use Rattle.packet.specs.declared.entry.Cutting.{Cutting}
use Rattle.packet.specs.Reading as packet
use Rattle.packet.specs.Writing as packet_write
use Rattle.packet.specs.Entry.{cut_of, list_of, filled, found_in, read_span, read_entry, Found}
use Rattle.packet.specs.Row.{row_of}
use Rattle.index.specs.declared.make.Indexing.{Indexing}
use Rattle.index.specs.Index.{index_of, indexing}
use Rattle.index_theorems.proofs.Determined.{Holding}
use Rattle.amf0_theorems.proofs.Settled.{Settled}
use Rattle.amf0_theorems.proofs.WriteTheorems as values
use Rattle.lso_theorems.proofs.WriteTheorems as files
use Rattle.packet_theorems.proofs.WriteTheorems as packets
use Rattle.demands.specs.Forms.{Reader, Writer}
use Rattle.demands.proofs.Counts.{Counts, value_counts, file_counts, file_incomplete_counts, packet_counts, packet_incomplete_counts, entry_counts, span_counts}
use Rattle.demands.proofs.Calls.{Part, ParseSingleElement, LsoParse, LsoParseIncomplete, PacketParse, PacketParseIncomplete, ParseEntry, ParseSpan, WriteValue, LsoWrite, PacketWrite, Nth, Cut, RowCut, MakeIndex}

-- a reading that comes to w in a room returns w's result, and leaves w's bytes and zeros
pub record Read (w : ℕ → Whole) (image : List ℕ) (r : Reading) (left : List ℕ) : Type 0 where
  pub returns : r ≡ (w (length image)).reading
  pub leaves : left ≡ padded (w (length image)).bytes (length image)

-- a reader's contract, by what it comes to
pub record Reads (Call : Reader) (w : List ℕ → ℕ → Whole) : Type 0 where
  pub told : (s i : List ℕ) (r : Reading) (x : List ℕ) → Call s i r x → Read (w s) i r x
  pub counts : (s : List ℕ) (room : ℕ) → Counts (w s room)

-- a writing that comes to w in a room returns w's result, and leaves w's bytes and behind them what stood there
pub record Wrote (w : ℕ → Written) (out : List ℕ) (r : Writing) (left : List ℕ) : Type 0 where
  pub returns : r ≡ (w (length out)).writing
  pub leaves : left ≡ onto (w (length out)).bytes out

-- a writer's contract, by what it comes to
pub record Putting (Call : Writer) (w : List ℕ → List ℕ → ℕ → Written) : Type 0 where
  pub told : (i t o : List ℕ) (r : Writing) (y : List ℕ) → Call i t o r y → Wrote (w i t) o r y
  pub settles : (i t : List ℕ) (room : ℕ) → Settled room (w i t room)

-- ---- the readers

-- `parse_single_element` comes to `read_of`,
pub value_reads : Reads ParseSingleElement read_of
value_reads = record { told = told; counts = value_counts }
  where
    told : (s i : List ℕ) (r : Reading) (x : List ℕ) → ParseSingleElement s i r x → Read (read_of s) i r x
    told _ _ _ _ (ParseSingleElement.call κs a o) = record { returns = o.ensures.0; leaves = o.ensures.1 }

-- `parse` of a file to `whole_of`,
pub file_reads : Reads LsoParse lso.whole_of
file_reads = record { told = told; counts = file_counts }
  where
    told : (s i : List ℕ) (r : Reading) (x : List ℕ) → LsoParse s i r x → Read (lso.whole_of s) i r x
    told _ _ _ _ (LsoParse.call κs a o) = record { returns = o.ensures.0; leaves = o.ensures.1 }

-- `parse_incomplete` of a file to `incomplete_of`,
pub file_incomplete_reads : Reads LsoParseIncomplete lso.incomplete_of
file_incomplete_reads = record { told = told; counts = file_incomplete_counts }
  where
    told : (s i : List ℕ) (r : Reading) (x : List ℕ) → LsoParseIncomplete s i r x → Read (lso.incomplete_of s) i r x
    told _ _ _ _ (LsoParseIncomplete.call κs a o) = record { returns = o.ensures.0; leaves = o.ensures.1 }

-- `parse` of a packet to `whole_of`,
pub packet_reads : Reads PacketParse packet.whole_of
packet_reads = record { told = told; counts = packet_counts }
  where
    told : (s i : List ℕ) (r : Reading) (x : List ℕ) → PacketParse s i r x → Read (packet.whole_of s) i r x
    told _ _ _ _ (PacketParse.call κs a o) = record { returns = o.ensures.0; leaves = o.ensures.1 }

-- `parse_incomplete` of a packet to `incomplete_of`,
pub packet_incomplete_reads : Reads PacketParseIncomplete packet.incomplete_of
packet_incomplete_reads = record { told = told; counts = packet_incomplete_counts }
  where
    told : (s i : List ℕ) (r : Reading) (x : List ℕ) → PacketParseIncomplete s i r x → Read (packet.incomplete_of s) i r x
    told _ _ _ _ (PacketParseIncomplete.call κs a o) = record { returns = o.ensures.0; leaves = o.ensures.1 }

-- `parse_entry` to `read_entry`,
pub entry_reads : (k : ℕ) → Reads (λ s. ParseEntry s k) (λ s. read_entry s k)
entry_reads k = record { told = told k; counts = λ s. entry_counts s k }
  where
    told : (k : ℕ) (s i : List ℕ) (r : Reading) (x : List ℕ) → ParseEntry s k i r x → Read (read_entry s k) i r x
    told _ _ _ _ _ (ParseEntry.call κs a o) = record { returns = o.ensures.0; leaves = o.ensures.1 }

-- and `parse_span` to `read_span`.
pub span_reads : (p n : ℕ) → Reads (λ s. ParseSpan s p n) (λ s. read_span s p n)
span_reads p n = record { told = told p n; counts = λ s. span_counts s p n }
  where
    told : (p n : ℕ) (s i : List ℕ) (r : Reading) (x : List ℕ) → ParseSpan s p n i r x → Read (read_span s p n) i r x
    told _ _ _ _ _ _ (ParseSpan.call κs a o) = record { returns = o.ensures.0; leaves = o.ensures.1 }

-- ---- the writers

-- `write_value` comes to `write_of`,
pub value_puts : Putting WriteValue amf0.write_of
value_puts = record { told = told; settles = values.write_settled }
  where
    told : (i t o : List ℕ) (r : Writing) (y : List ℕ) → WriteValue i t o r y → Wrote (amf0.write_of i t) o r y
    told _ _ _ _ _ (WriteValue.call κs a o) = record { returns = o.ensures.0; leaves = o.ensures.1 }

-- `write_to_bytes` of a file to its own,
pub file_puts : Putting LsoWrite lso_write.write_of
file_puts = record { told = told; settles = files.write_settled }
  where
    told : (i t o : List ℕ) (r : Writing) (y : List ℕ) → LsoWrite i t o r y → Wrote (lso_write.write_of i t) o r y
    told _ _ _ _ _ (LsoWrite.call κs a o) = record { returns = o.ensures.0; leaves = o.ensures.1 }

-- and so does that of a packet.
pub packet_puts : (exact : Bool) → Putting (λ i t. PacketWrite i t exact) (λ i t. packet_write.write_of i t exact)
packet_puts exact = record { told = told exact; settles = λ i t. packets.write_settled i t exact }
  where
    told : (exact : Bool) (i t o : List ℕ) (r : Writing) (y : List ℕ) → PacketWrite i t exact o r y → Wrote (packet_write.write_of i t exact) o r y
    told _ _ _ _ _ _ (PacketWrite.call κs a o) = record { returns = o.ensures.0; leaves = o.ensures.1 }

-- ---- the others

-- `part` returns `part_of`,
pub part_told : {s t : List ℕ} {p n : ℕ} → Part s p n t → t ≡ part_of s p n
part_told (Part.call κs a o) = o.ensures.0

-- `nth` finds by `found_in`,
pub nth_told : {s : List ℕ} {k : ℕ} {f : Found} → Nth s k f → f ≡ found_in (cut_of s) k
nth_told (Nth.call κs a o) = o.ensures

-- `cut` leaves what `list_of` has,
pub cut_told : {s : List ℕ} {list left : List Entry} {r : Cutting} → Cut s list r left
    → (r ≡ (list_of s (length list)).cutting) × (left ≡ filled (list_of s (length list)).entries (length list))
cut_told (Cut.call κs a o) = (o.ensures.0, o.ensures.1)

-- in a row too,
pub row_told : {s row left : List ℕ} {r : Cutting} → RowCut s row r left
    → (r ≡ (list_of s (length row / 8)).cutting) × (left ≡ row_of (list_of s (length row / 8)).entries (length row))
row_told (RowCut.call κs a o) = (o.ensures.0, o.ensures.1)

-- and `make_index` leaves an index that holds the keys.
pub index_told : {i t index left : List ℕ} {r : Indexing} → MakeIndex i t index r left
    → (r ≡ indexing (index_of i t (length index))) × Holding i t (length index) left
index_told (MakeIndex.call κs a o) = (o.ensures.0, (o.ensures.1, o.kept.1.1.0))
