-- The functions that go out to C, as the calls stand in `Calls`: what goes out through a reference stands in the result.
use Rattle.wire.proofs.Kit.{ℕ, List, Bool, Dens}
use contract.Lifetimes.{Lfts}
use Rattle.image.specs.declared.building.Laying.{Laying}
use Rattle.image.specs.declared.reading.Reading.{Reading}
use Rattle.image.specs.declared.writing.Writing.{Writing}
use Rattle.packet.specs.declared.entry.Cutting.{Cutting}
use Rattle.index.specs.declared.make.Indexing.{Indexing}
use Rattle.riddoskam.proofs as c
use Rattle.demands.proofs.Call.{Returned}

-- ---- readings

-- `riddoskam_parse_single_element`
pub data CParseSingleElement : List ℕ → List ℕ → Reading → List ℕ → Type 0 where
  call : (κs : Lfts 4) (a : Dens κs c.riddoskam_parse_single_element.Kinds.ps)
      (o : Returned c.riddoskam_parse_single_element.Kinds.ps c.riddoskam_parse_single_element.Kinds.r c.riddoskam_parse_single_element.Reads.Post κs a)
      → CParseSingleElement a.0.now a.1.0.now (record { answer = o.result; used = o.last.1.1.0; made = o.last.1.1.1.0 }) o.last.1.0

-- `riddoskam_lso_parse`
pub data CLsoParse : List ℕ → List ℕ → Reading → List ℕ → Type 0 where
  call : (κs : Lfts 4) (a : Dens κs c.riddoskam_lso_parse.Kinds.ps)
      (o : Returned c.riddoskam_lso_parse.Kinds.ps c.riddoskam_lso_parse.Kinds.r c.riddoskam_lso_parse.Reads.Post κs a)
      → CLsoParse a.0.now a.1.0.now (record { answer = o.result; used = o.last.1.1.0; made = o.last.1.1.1.0 }) o.last.1.0

-- `riddoskam_lso_parse_incomplete`
pub data CLsoParseIncomplete : List ℕ → List ℕ → Reading → List ℕ → Type 0 where
  call : (κs : Lfts 4) (a : Dens κs c.riddoskam_lso_parse_incomplete.Kinds.ps)
      (o : Returned c.riddoskam_lso_parse_incomplete.Kinds.ps c.riddoskam_lso_parse_incomplete.Kinds.r c.riddoskam_lso_parse_incomplete.Reads.Post κs a)
      → CLsoParseIncomplete a.0.now a.1.0.now (record { answer = o.result; used = o.last.1.1.0; made = o.last.1.1.1.0 }) o.last.1.0

-- `riddoskam_packet_parse`
pub data CPacketParse : List ℕ → List ℕ → Reading → List ℕ → Type 0 where
  call : (κs : Lfts 4) (a : Dens κs c.riddoskam_packet_parse.Kinds.ps)
      (o : Returned c.riddoskam_packet_parse.Kinds.ps c.riddoskam_packet_parse.Kinds.r c.riddoskam_packet_parse.Reads.Post κs a)
      → CPacketParse a.0.now a.1.0.now (record { answer = o.result; used = o.last.1.1.0; made = o.last.1.1.1.0 }) o.last.1.0

-- `riddoskam_packet_parse_incomplete`
pub data CPacketParseIncomplete : List ℕ → List ℕ → Reading → List ℕ → Type 0 where
  call : (κs : Lfts 4) (a : Dens κs c.riddoskam_packet_parse_incomplete.Kinds.ps)
      (o : Returned c.riddoskam_packet_parse_incomplete.Kinds.ps c.riddoskam_packet_parse_incomplete.Kinds.r c.riddoskam_packet_parse_incomplete.Reads.Post κs a)
      → CPacketParseIncomplete a.0.now a.1.0.now (record { answer = o.result; used = o.last.1.1.0; made = o.last.1.1.1.0 }) o.last.1.0

-- `riddoskam_packet_parse_entry`
pub data CParseEntry : List ℕ → ℕ → List ℕ → Reading → List ℕ → Type 0 where
  call : (κs : Lfts 4) (a : Dens κs c.riddoskam_packet_parse_entry.Kinds.ps)
      (o : Returned c.riddoskam_packet_parse_entry.Kinds.ps c.riddoskam_packet_parse_entry.Kinds.r c.riddoskam_packet_parse_entry.Reads.Post κs a)
      → CParseEntry a.0.now a.1.0 a.1.1.0.now
      (record { answer = o.result; used = o.last.1.1.1.0; made = o.last.1.1.1.1.0 }) o.last.1.1.0

-- `riddoskam_packet_parse_span`
pub data CParseSpan : List ℕ → ℕ → ℕ → List ℕ → Reading → List ℕ → Type 0 where
  call : (κs : Lfts 4) (a : Dens κs c.riddoskam_packet_parse_span.Kinds.ps)
      (o : Returned c.riddoskam_packet_parse_span.Kinds.ps c.riddoskam_packet_parse_span.Kinds.r c.riddoskam_packet_parse_span.Reads.Post κs a)
      → CParseSpan a.0.now a.1.0 a.1.1.0 a.1.1.1.0.now
      (record { answer = o.result; used = o.last.1.1.1.1.0; made = o.last.1.1.1.1.1.0 }) o.last.1.1.1.0

-- ---- writings

-- `riddoskam_write_value`
pub data CWriteValue : List ℕ → List ℕ → List ℕ → Writing → List ℕ → Type 0 where
  call : (κs : Lfts 4) (a : Dens κs c.riddoskam_write_value.Kinds.ps)
      (o : Returned c.riddoskam_write_value.Kinds.ps c.riddoskam_write_value.Kinds.r c.riddoskam_write_value.Reads.Post κs a)
      → CWriteValue a.0.now a.1.0.now a.1.1.0.now (record { answer = o.result; count = o.last.1.1.1.0 }) o.last.1.1.0

-- `riddoskam_lso_write_to_bytes`
pub data CLsoWrite : List ℕ → List ℕ → List ℕ → Writing → List ℕ → Type 0 where
  call : (κs : Lfts 4) (a : Dens κs c.riddoskam_lso_write_to_bytes.Kinds.ps)
      (o : Returned c.riddoskam_lso_write_to_bytes.Kinds.ps c.riddoskam_lso_write_to_bytes.Kinds.r c.riddoskam_lso_write_to_bytes.Reads.Post κs a)
      → CLsoWrite a.0.now a.1.0.now a.1.1.0.now (record { answer = o.result; count = o.last.1.1.1.0 }) o.last.1.1.0

-- `riddoskam_packet_write_to_bytes`
pub data CPacketWrite : List ℕ → List ℕ → Bool → List ℕ → Writing → List ℕ → Type 0 where
  call : (κs : Lfts 4) (a : Dens κs c.riddoskam_packet_write_to_bytes.Kinds.ps)
      (o : Returned c.riddoskam_packet_write_to_bytes.Kinds.ps c.riddoskam_packet_write_to_bytes.Kinds.r c.riddoskam_packet_write_to_bytes.Reads.Post κs a)
      → CPacketWrite a.0.now a.1.0.now a.1.1.0 a.1.1.1.0.now
      (record { answer = o.result; count = o.last.1.1.1.1.0 }) o.last.1.1.1.0

-- ---- the cut, and an index

-- `riddoskam_packet_cut`
pub data CPacketCut : List ℕ → List ℕ → Cutting → List ℕ → Type 0 where
  call : (κs : Lfts 4) (a : Dens κs c.riddoskam_packet_cut.Kinds.ps)
      (o : Returned c.riddoskam_packet_cut.Kinds.ps c.riddoskam_packet_cut.Kinds.r c.riddoskam_packet_cut.Reads.Post κs a)
      → CPacketCut a.0.now a.1.0.now (record { answer = o.result; used = o.last.1.1.0; count = o.last.1.1.1.0 }) o.last.1.0

-- `riddoskam_packet_nth`, its answer and the eight numbers
pub data CPacketNth : List ℕ → ℕ → ℕ → List ℕ → Type 0 where
  call : (κs : Lfts 2) (a : Dens κs c.riddoskam_packet_nth.Kinds.ps)
      (o : Returned c.riddoskam_packet_nth.Kinds.ps c.riddoskam_packet_nth.Kinds.r c.riddoskam_packet_nth.Reads.Post κs a)
      → CPacketNth a.0.now a.1.0 o.result o.last.1.1.0

-- `riddoskam_index`
pub data CIndex : List ℕ → List ℕ → List ℕ → Indexing → List ℕ → Type 0 where
  call : (κs : Lfts 4) (a : Dens κs c.riddoskam_index.Kinds.ps)
      (o : Returned c.riddoskam_index.Kinds.ps c.riddoskam_index.Kinds.r c.riddoskam_index.Reads.Post κs a)
      → CIndex a.0.now a.1.0.now a.1.1.0.now (record { answer = o.result; count = o.last.1.1.1.0 }) o.last.1.1.0

-- ---- a record by its numbers

-- `riddoskam_record_at`, its answer, the five numbers and the place behind the record
pub data CRecordAt : List ℕ → ℕ → ℕ → List ℕ → ℕ → Type 0 where
  call : (κs : Lfts 3) (a : Dens κs c.riddoskam_record_at.Kinds.ps)
      (o : Returned c.riddoskam_record_at.Kinds.ps c.riddoskam_record_at.Kinds.r c.riddoskam_record_at.Reads.Post κs a)
      → CRecordAt a.0.now a.1.0 o.result o.last.1.1.0 o.last.1.1.1.0

-- `riddoskam_put`
pub data CPut : List ℕ → ℕ → List ℕ → Laying → List ℕ → Type 0 where
  call : (κs : Lfts 3) (a : Dens κs c.riddoskam_put.Kinds.ps)
      (o : Returned c.riddoskam_put.Kinds.ps c.riddoskam_put.Kinds.r c.riddoskam_put.Reads.Post κs a)
      → CPut a.0.now a.1.0.now a.1.1.0.now (record { answer = o.result; made = o.last.1.0 }) o.last.0
