-- Each call with what it returned and left, by its own contract: the arguments, the result, and what stands in a lent buffer at the end.
use Rattle.wire.proofs.Kit.{ℕ, List, Bool, Dens}
use contract.Lifetimes.{Lfts}
use Rattle.image.specs.declared.reading.Reading.{Reading}
use Rattle.image.specs.declared.writing.Writing.{Writing}
use Rattle.packet.specs.declared.head.Entry.{Entry}
use Rattle.packet.specs.declared.entry.Cutting.{Cutting}
use Rattle.index.specs.declared.make.Indexing.{Indexing}
use Rattle.wire.proofs.text as text
use Rattle.amf0.proofs.read as value_read
use Rattle.amf0.proofs.write as value_write
use Rattle.lso.proofs.read as file_read
use Rattle.lso.proofs.write as file_write
use Rattle.packet.proofs.read as packet_read
use Rattle.packet.proofs.write as packet_write
use Rattle.packet.proofs.entry as entry
use Rattle.packet.proofs.row as row
use Rattle.index.proofs.make as make
use Rattle.demands.proofs.Call.{Returned}
use Rattle.packet.specs.Entry.{Found}

-- ---- a text

-- `wire::text::part(input, place, length)`, and the bytes of the text
pub data Part : List ℕ → ℕ → ℕ → List ℕ → Type 0 where
  call : (κs : Lfts 1) (a : Dens κs text.part.Kinds.ps) (o : Returned text.part.Kinds.ps text.part.Kinds.r text.part.Reads.Post κs a)
      → Part a.0.now a.1.0 a.1.1.0 o.result.now

-- ---- readings: what is read and the image, the result, and the image that is left

-- `amf0::read::parse_single_element(input, image)`
pub data ParseSingleElement : List ℕ → List ℕ → Reading → List ℕ → Type 0 where
  call : (κs : Lfts 2) (a : Dens κs value_read.parse_single_element.Kinds.ps)
      (o : Returned value_read.parse_single_element.Kinds.ps value_read.parse_single_element.Kinds.r value_read.parse_single_element.Reads.Post κs a)
      → ParseSingleElement a.0.now a.1.0.now o.result o.last.1.0

-- `lso::read::parse(input, image)`
pub data LsoParse : List ℕ → List ℕ → Reading → List ℕ → Type 0 where
  call : (κs : Lfts 2) (a : Dens κs file_read.parse.Kinds.ps) (o : Returned file_read.parse.Kinds.ps file_read.parse.Kinds.r file_read.parse.Reads.Post κs a)
      → LsoParse a.0.now a.1.0.now o.result o.last.1.0

-- `lso::read::parse_incomplete(input, image)`
pub data LsoParseIncomplete : List ℕ → List ℕ → Reading → List ℕ → Type 0 where
  call : (κs : Lfts 2) (a : Dens κs file_read.parse_incomplete.Kinds.ps)
      (o : Returned file_read.parse_incomplete.Kinds.ps file_read.parse_incomplete.Kinds.r file_read.parse_incomplete.Reads.Post κs a)
      → LsoParseIncomplete a.0.now a.1.0.now o.result o.last.1.0

-- `packet::read::parse(input, image)`
pub data PacketParse : List ℕ → List ℕ → Reading → List ℕ → Type 0 where
  call : (κs : Lfts 2) (a : Dens κs packet_read.parse.Kinds.ps)
      (o : Returned packet_read.parse.Kinds.ps packet_read.parse.Kinds.r packet_read.parse.Reads.Post κs a)
      → PacketParse a.0.now a.1.0.now o.result o.last.1.0

-- `packet::read::parse_incomplete(input, image)`
pub data PacketParseIncomplete : List ℕ → List ℕ → Reading → List ℕ → Type 0 where
  call : (κs : Lfts 2) (a : Dens κs packet_read.parse_incomplete.Kinds.ps)
      (o : Returned packet_read.parse_incomplete.Kinds.ps packet_read.parse_incomplete.Kinds.r packet_read.parse_incomplete.Reads.Post κs a)
      → PacketParseIncomplete a.0.now a.1.0.now o.result o.last.1.0

-- `packet::entry::parse_entry(packet, number, image)`
pub data ParseEntry : List ℕ → ℕ → List ℕ → Reading → List ℕ → Type 0 where
  call : (κs : Lfts 2) (a : Dens κs entry.parse_entry.Kinds.ps)
      (o : Returned entry.parse_entry.Kinds.ps entry.parse_entry.Kinds.r entry.parse_entry.Reads.Post κs a)
      → ParseEntry a.0.now a.1.0 a.1.1.0.now o.result o.last.1.1.0

-- `packet::entry::parse_span(packet, place, size, image)`
pub data ParseSpan : List ℕ → ℕ → ℕ → List ℕ → Reading → List ℕ → Type 0 where
  call : (κs : Lfts 2) (a : Dens κs entry.parse_span.Kinds.ps)
      (o : Returned entry.parse_span.Kinds.ps entry.parse_span.Kinds.r entry.parse_span.Reads.Post κs a)
      → ParseSpan a.0.now a.1.0 a.1.1.0 a.1.1.1.0.now o.result o.last.1.1.1.0

-- ---- writings: the image, its text and the output, the result, and the output that is left

-- `amf0::write::write_value(image, text, out)`
pub data WriteValue : List ℕ → List ℕ → List ℕ → Writing → List ℕ → Type 0 where
  call : (κs : Lfts 3) (a : Dens κs value_write.write_value.Kinds.ps)
      (o : Returned value_write.write_value.Kinds.ps value_write.write_value.Kinds.r value_write.write_value.Reads.Post κs a)
      → WriteValue a.0.now a.1.0.now a.1.1.0.now o.result o.last.1.1.0

-- `lso::write::write_to_bytes(image, text, out)`
pub data LsoWrite : List ℕ → List ℕ → List ℕ → Writing → List ℕ → Type 0 where
  call : (κs : Lfts 3) (a : Dens κs file_write.write_to_bytes.Kinds.ps)
      (o : Returned file_write.write_to_bytes.Kinds.ps file_write.write_to_bytes.Kinds.r file_write.write_to_bytes.Reads.Post κs a)
      → LsoWrite a.0.now a.1.0.now a.1.1.0.now o.result o.last.1.1.0

-- `packet::write::write_to_bytes(image, text, exact_lengths, out)`
pub data PacketWrite : List ℕ → List ℕ → Bool → List ℕ → Writing → List ℕ → Type 0 where
  call : (κs : Lfts 3) (a : Dens κs packet_write.write_to_bytes.Kinds.ps)
      (o : Returned packet_write.write_to_bytes.Kinds.ps packet_write.write_to_bytes.Kinds.r packet_write.write_to_bytes.Reads.Post κs a)
      → PacketWrite a.0.now a.1.0.now a.1.1.0 a.1.1.1.0.now o.result o.last.1.1.1.0

-- ---- the cut of a packet

-- `packet::entry::nth(packet, number)`, and what it finds
pub data Nth : List ℕ → ℕ → Found → Type 0 where
  call : (κs : Lfts 1) (a : Dens κs entry.nth.Kinds.ps) (o : Returned entry.nth.Kinds.ps entry.nth.Kinds.r entry.nth.Reads.Post κs a)
      → Nth a.0.now a.1.0 o.result

-- `packet::entry::cut(packet, list)`, the result, and the list that is left
pub data Cut : List ℕ → List Entry → Cutting → List Entry → Type 0 where
  call : (κs : Lfts 2) (a : Dens κs entry.cut.Kinds.ps) (o : Returned entry.cut.Kinds.ps entry.cut.Kinds.r entry.cut.Reads.Post κs a)
      → Cut a.0.now a.1.0.now o.result o.last.1.0

-- `packet::row::cut(packet, row)`, the result, and the row that is left
pub data RowCut : List ℕ → List ℕ → Cutting → List ℕ → Type 0 where
  call : (κs : Lfts 2) (a : Dens κs row.cut.Kinds.ps) (o : Returned row.cut.Kinds.ps row.cut.Kinds.r row.cut.Reads.Post κs a)
      → RowCut a.0.now a.1.0.now o.result o.last.1.0

-- ---- an index

-- `index::make::make_index(image, text, index)`, the result, and the index that is left
pub data MakeIndex : List ℕ → List ℕ → List ℕ → Indexing → List ℕ → Type 0 where
  call : (κs : Lfts 3) (a : Dens κs make.make_index.Kinds.ps)
      (o : Returned make.make_index.Kinds.ps make.make_index.Kinds.r make.make_index.Reads.Post κs a)
      → MakeIndex a.0.now a.1.0.now a.1.1.0.now o.result o.last.1.1.0
