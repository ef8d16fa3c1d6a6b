-- The customer's three demands: a record for each, in the order of its sentences, with what they say of the calls. A call stands here by its own contract, with
-- its arguments, its result and what it left: `ParseSingleElement s i r x` is a call of `parse_single_element` on the input s and the image i, which returned r
-- and left x in the image (`Calls.antt`). What is said of every reader, or of every writer, has a form with a name (`specs/Forms.antt`). `Bytes s`
-- says that s is a row of bytes, as what stands in a slice of bytes is.
use Rattle.std.specs.Prelude.{◌*◌, ◌/◌, ◌≤◌, ◌<◌, ◌≡◌, ◌≢◌, ◌↔◌, ◌⊎◌, ◌∷◌, ◌++◌, Ok}
use Rattle.wire.proofs.Kit.{ℕ, ap, ◌∙◌, inl, List, [], Bool, true, false, arith, length, get_or, take, replicate}
use Rattle.wire.specs.Number.{Bytes}
use Rattle.wire.specs.Field.{bytes_at}
use Rattle.wire.specs.Limit as limit
use Rattle.image.specs.declared.reading.Reading.{Reading}
use Rattle.image.specs.declared.writing.Writing.{Writing}
use Rattle.image.specs.declared.record.Record.{Record}
use Rattle.image.specs.Due.{Lacks}
use Rattle.image.specs.Whole.{Whole, bytes, refused}
use Rattle.amf0.specs.Reading.{top_value}
use Rattle.amf0.specs.Standard.{Sort, Tree, depth, Encodes}
use Rattle.amf0_theorems.specs.Refusal as value_why
use Rattle.amf0_theorems.specs.Unwritten as value_unwritten
use Rattle.amf0_theorems.proofs.Refusals as values_why
use Rattle.amf0.specs.Written as value_writing
use Rattle.amf0_theorems.proofs.Theorems as values
use Rattle.amf0_theorems.proofs.WriteTheorems as values_write
use Rattle.amf0_theorems.proofs.Room as values_room
use Rattle.lso.specs.File.{Lso, File, deepest}
use Rattle.lso.specs.Written as file_writing
use Rattle.lso_theorems.specs.Refusal as file_why
use Rattle.lso_theorems.specs.Unwritten as file_unwritten
use Rattle.lso_theorems.proofs.Stopping.{Accepts}
use Rattle.lso_theorems.proofs.Reasons as files_why
use Rattle.lso_theorems.proofs.Theorems as files
use Rattle.lso_theorems.proofs.WriteTheorems as files_write
use Rattle.lso_theorems.proofs.Room as files_room
use Rattle.amf0.specs.Span.{Changed}
use Rattle.packet.specs.declared.head.Entry.{Entry}
use Rattle.packet.specs.declared.entry.Cutting.{Cutting}
use Rattle.packet.specs.Packet.{Packet, Encoded}
use Rattle.packet.specs.Shown.{Within}
use Rattle.packet.specs.Reading.{packet_at}
use Rattle.packet.specs.Entry.{no_entry, span, span_of, Found}
use Rattle.packet.specs.Change.{known}
use Rattle.packet_theorems.specs.Cuts.{CutInto, Exact}
use Rattle.packet_theorems.specs.Refusal.{Seven, RefusedCut}
use Rattle.packet_theorems.specs.Why as packet_why
use Rattle.packet_theorems.specs.Unwritten as packet_unwritten
use Rattle.packet_theorems.proofs.Reasons as packets_why
use Rattle.packet.specs.Written as packet_writing
use Rattle.packet_theorems.proofs.Theorems as calls
use Rattle.packet_theorems.proofs.CutTheorems.{CutAnswer}
use Rattle.packet_theorems.proofs.SpanTheorems as spans
use Rattle.packet_theorems.proofs.PacketTheorems as packets
use Rattle.packet_theorems.proofs.WriteTheorems as packets_write
use Rattle.packet_theorems.proofs.Room as packets_room
use Rattle.packet_theorems.proofs.EntryTrip as trips
use Rattle.packet_theorems.proofs.WriteOutcome.{read_whole, read_incomplete}
use Rattle.index.specs.declared.make.Indexing.{Indexing}
use Rattle.demands.specs.Inputs.{IsValue, HasValue, IsFile, IsHeader, IsPacket, IsCut, Cuttable, WrongFile, TightFile, FullFile, TightCut, HoldsValue, HoldsFile, HoldsPacket}
use Rattle.demands.specs.Examples.{table}
use Rattle.demands.specs.Forms.{made, sent, listed, OneOf, Answers, WriteAnswers, CutAnswers, Reasons, WriteReasons, OverLimit, Just, JustAt, JustAtInRoom, Inside, Roomy, Short, ShortInRoom, CutJust, CutJustAt, CutInside, CutShort, WriteJust, Zeros, Past, CutZeros, Untouching, Keeping, ReaderRules, WriterRules, PutRules, Sound, Exactly, Writes, AsBefore, Wider, Returns, CutExactly, Same}
use Rattle.demands.proofs.Calls.{Part, ParseSingleElement, LsoParse, LsoParseIncomplete, PacketParse, PacketParseIncomplete, ParseEntry, ParseSpan, WriteValue, LsoWrite, PacketWrite, Nth, Cut, RowCut, MakeIndex}
use Rattle.demands.proofs.Determined.{EveryCall, every_call}
use Rattle.demands.proofs.Told.{value_reads, file_reads, file_incomplete_reads, packet_reads, packet_incomplete_reads, entry_reads, span_reads, value_puts, file_puts, packet_puts}
use Rattle.demands.proofs.Laws as law
use Rattle.demands.proofs.Agree.{Changes, Alone, Agrees}
use Rattle.demands.proofs.CCalls.{CParseSingleElement, CLsoParse, CLsoParseIncomplete, CPacketParse, CPacketParseIncomplete, CParseEntry, CParseSpan, CWriteValue, CLsoWrite, CPacketWrite, CPacketCut, CPacketNth, CIndex, CRecordAt, CPut}
use Rattle.demands.specs.Before as then
use Rattle.demands.proofs.Before as before
use Rattle.amf0_theorems.specs.Due as value_place
use Rattle.lso_theorems.specs.Due as file_place
use Rattle.packet_theorems.specs.Due as packet_place
use Rattle.amf0_theorems.proofs.Dues as values_place
use Rattle.lso_theorems.proofs.Dues as files_place
use Rattle.packet_theorems.proofs.Dues as packets_place
use Rattle.demands.proofs.Demand1 as one
use Rattle.demands.proofs.Short as short
use Rattle.demands.proofs.Tight as tight
use Rattle.demands.proofs.Uncut.{AfterCut, entry_not_cut, entry_uncut}
use Rattle.demands.proofs.Starred.{AllHold, examples}
use Rattle.demands.proofs.CDemand1 as c
use Rattle.demands.proofs.Demand2 as two
use Rattle.demands.proofs.Demand2.{Means}
use Rattle.demands.proofs.Demand3 as three
use Rattle.amf0_theorems.proofs.SpanTrip as span_trips
use Rattle.wire.specs.Answer.{denied}

-- ---- 1. "Every public call ends on every input; readers and writers answer from [the table of answers]. None relies on a check made by the caller. A refused
-- read leaves the tree buffer all zeros; a refused write leaves the output as it was found." The table is the rule "Answers" (docs/DEMANDS.md).

pub record Demand1 : Type 0 where
  -- That it ends is what the kit proves of each function, wherever it is called as its contract asks; and no contract of a public call asks anything of the
  -- caller. Each determines the outcome: the result, the counts and every byte of every buffer, on refusals too.
  pub contracts : EveryCall
  -- The answers, each of the table: of values and files 0 to 5, of packets 0 to 5 or 7, of an entry any but 6,
  pub value_answers : Answers (λ a. a ≤ 5) ParseSingleElement
  pub file_answers : Answers (λ a. a ≤ 5) LsoParse
  pub file_incomplete_answers : Answers (λ a. a ≤ 5) LsoParseIncomplete
  pub packet_answers : Answers calls.Answer PacketParse
  pub packet_incomplete_answers : Answers calls.Answer PacketParseIncomplete
  pub entry_answers : (k : ℕ) → Answers calls.EntryAnswer λ s. ParseEntry s k
  pub span_answers : (p n : ℕ) → Answers (OneOf 0 (1 ∷ 4 ∷ 5 ∷ 8 ∷ 9 ∷ [])) λ s. ParseSpan s p n
  -- of a cut 0 to 5 or 7, of a lookup that finds nothing 1, 2, 3, 5, 7 or 8,
  pub cut_answers : CutAnswers CutAnswer Cut
  pub row_answers : CutAnswers CutAnswer RowCut
  pub nth_answers : (s : List ℕ) (k answer place : ℕ) → Nth s k (denied answer place) → calls.NthAnswer s answer
  -- of the writers, and of the making of an index.
  pub value_write_answers : WriteAnswers (OneOf 0 (1 ∷ 4 ∷ 5 ∷ 6 ∷ [])) WriteValue
  pub file_write_answers : WriteAnswers (OneOf 0 (1 ∷ 4 ∷ 5 ∷ 6 ∷ [])) LsoWrite
  pub packet_write_answers : (exact : Bool) → WriteAnswers (OneOf 0 (1 ∷ 4 ∷ 5 ∷ 6 ∷ [])) λ i t. PacketWrite i t exact
  pub index_answers : (i t index : List ℕ) (r : Indexing) (left : List ℕ) → MakeIndex i t index r left → OneOf 0 (1 ∷ 4 ∷ 5 ∷ 6 ∷ []) r.answer
  -- When each is given: what a call can come to, with what holds there. A refusal by a field says which fields stand before it, and what is wrong with that one.
  pub value_reasons : Reasons value_why.Comes ParseSingleElement
  pub file_reasons : Reasons file_why.ComesWhole LsoParse
  pub file_incomplete_reasons : Reasons file_why.Comes LsoParseIncomplete
  pub packet_reasons : Reasons packet_why.ComesWhole PacketParse
  pub packet_incomplete_reasons : Reasons packet_why.Comes PacketParseIncomplete
  pub entry_reasons : (k : ℕ) → Reasons (λ s. packet_why.ComesEntry s k) λ s. ParseEntry s k
  pub span_reasons : (p n : ℕ) → Reasons (λ s. packet_why.ComesSpan s p n) λ s. ParseSpan s p n
  pub cut_reasons : (s : List ℕ) (list : List Entry) (c : Cutting) (left : List Entry) → Bytes s → Cut s list c left
      → packet_why.ComesList s (length list) (listed c left)
  pub nth_reasons : (s : List ℕ) (k : ℕ) (f : Found) → Bytes s → Nth s k f → packet_why.ComesNth s k f
  pub value_write_reasons : WriteReasons value_unwritten.Outcome WriteValue
  pub file_write_reasons : WriteReasons file_unwritten.Outcome LsoWrite
  pub packet_write_reasons : (exact : Bool) → WriteReasons (λ i t. packet_unwritten.Outcome i t exact) λ i t. PacketWrite i t exact
  -- And these reasons are exact. 1 is given just where the input is over the limit.
  pub value_over : OverLimit ParseSingleElement
  pub file_over : OverLimit LsoParse
  pub file_incomplete_over : OverLimit LsoParseIncomplete
  pub packet_over : OverLimit PacketParse
  pub packet_incomplete_over : OverLimit PacketParseIncomplete
  pub entry_over : (k : ℕ) → OverLimit λ s. ParseEntry s k
  -- 4 is given just where the room is too small for the records that fall due, or a list for the entries;
  pub value_tight : Just 4 (λ s room. room < length (value_why.records s)) ParseSingleElement
  pub file_tight : Just 4 TightFile LsoParse
  pub file_incomplete_tight : Just 4 TightFile LsoParseIncomplete
  pub packet_tight : Just 4 (λ s room. room < length (bytes (packet_at s))) PacketParse
  pub packet_incomplete_tight : Just 4 (λ s room. room < length (bytes (packet_at s))) PacketParseIncomplete
  pub cut_tight : (s : List ℕ) (list : List Entry) (c : Cutting) (left : List Entry) → Bytes s → Cut s list c left → c.answer ≡ 4 ↔ TightCut s (length list)
  pub row_tight : (s row : List ℕ) (c : Cutting) (left : List ℕ) → Bytes s → RowCut s row c left → c.answer ≡ 4 ↔ TightCut s (length row / 8)
  -- and, for records, at the place of the first that has no room.
  pub value_full : JustAt 4 (λ s room. Lacks (top_value s 0) 0 room) ParseSingleElement
  pub file_full : JustAt 4 FullFile LsoParse
  pub file_incomplete_full : JustAt 4 FullFile LsoParseIncomplete
  pub packet_full : JustAt 4 (λ s room. Lacks (packet_at s) 0 room) PacketParse
  pub packet_incomplete_full : JustAt 4 (λ s room. Lacks (packet_at s) 0 room) PacketParseIncomplete
  -- There stands what that record says: a value's marker, a key's length or an end marker, in a file also its front, in a packet its front or an entry's first text.
  pub value_due : (s : List ℕ) (room p : ℕ) → Bytes s → Lacks (top_value s 0) 0 room p → (r : Record) × value_place.DueAt s r p
  pub file_due : (s : List ℕ) (room p : ℕ) → Bytes s → FullFile s room p → (r : Record) × file_place.DueAt s r p
  pub packet_due : (s : List ℕ) (room p : ℕ) → Bytes s → Lacks (packet_at s) 0 room p → (r : Record) × packet_place.DueAt s r p
  -- A room of three times the input is never too small, nor is one of three times the part or the value that is read.
  pub value_roomy : Roomy ParseSingleElement
  pub file_roomy : Roomy LsoParse
  pub file_incomplete_roomy : Roomy LsoParseIncomplete
  pub packet_roomy : Roomy PacketParse
  pub packet_incomplete_roomy : Roomy PacketParseIncomplete
  pub span_roomy : (p n : ℕ) (s i : List ℕ) (r : Reading) (x : List ℕ) → ParseSpan s p n i r x → 3 * n ≤ length i → r.answer ≢ 4
  pub entry_roomy : (k : ℕ) (e : Entry) (s i : List ℕ) (r : Reading) (x : List ℕ) → Nth s k (Ok e) → ParseEntry s k i r x → 3 * e.length ≤ length i
      → r.answer ≢ 4
  -- A value that is not refused for room is refused with an answer at a place just where a field there refuses it so, and with 5 just where the marker of a value
  -- stands there and no level is left. A proper beginning of a value is 2, and a value deeper than the limit is 5.
  pub value_refused : (a : ℕ) → a ≢ 0 → JustAtInRoom a (λ s. value_why.RefusedValue limit.levels s 0 a) ParseSingleElement
  pub value_deep : JustAtInRoom 5 (values_why.Deep limit.levels) ParseSingleElement
  pub value_short : ShortInRoom IsValue ParseSingleElement
  pub value_too_deep : (t : Tree Sort.value) (x q i : List ℕ) (r : Reading) (left : List ℕ) → Encodes Sort.value t x → limit.levels < depth t
      → length (x ++ q) ≤ limit.bytes → ParseSingleElement (x ++ q) i r left → r.answer ≢ 4 → r.answer ≡ 5
  -- A file is 2 or 3 at a place just where a field of its header there is refused so, and, read whole, 3 also where no further element can be read from there on,
  -- before its end. It is 5 just where the element that stops the reading is too deep, at the marker. A proper beginning of a header is 2; one of a file, behind
  -- its header, is read as far as it is whole.
  pub file_two : JustAt 2 (λ s room. file_why.RefusedHeader s 2) LsoParse
  pub file_incomplete_two : JustAt 2 (λ s room. file_why.RefusedHeader s 2) LsoParseIncomplete
  pub file_three : JustAt 3 WrongFile LsoParse
  pub file_incomplete_three : JustAt 3 (λ s room. file_why.RefusedHeader s 3) LsoParseIncomplete
  pub file_five : JustAt 5 file_why.TooDeep LsoParse
  pub file_incomplete_five : JustAt 5 file_why.TooDeep LsoParseIncomplete
  pub file_short : Short IsHeader LsoParse
  pub file_incomplete_short : Short IsHeader LsoParseIncomplete
  pub file_begun : (f : Lso) (s q i : List ℕ) (p : ℕ) (r : Reading) (x : List ℕ) → File f (s ++ q) → 1 ≤ length q → deepest f.body ≤ limit.levels
      → file_why.Heads (s ++ q) p → p ≤ length s → length s ≤ limit.bytes → 3 * length s ≤ length i → LsoParseIncomplete s i r x
      → (g : Lso) × (w : file_why.WholeIn f g s) × Accepts s g (length w.row) (made r x)
  -- A packet is 7 just where its version is 3, and a proper beginning of one is 2;
  pub packet_seven : Just 7 (λ s room. Seven s) PacketParse
  pub packet_incomplete_seven : Just 7 (λ s room. Seven s) PacketParseIncomplete
  pub entry_seven : (k : ℕ) → Just 7 (λ s room. Seven s) λ s. ParseEntry s k
  pub packet_short : ShortInRoom IsPacket PacketParse
  pub packet_incomplete_short : ShortInRoom IsPacket PacketParseIncomplete
  pub entry_short : (k : ℕ) → Short Cuttable λ s. ParseEntry s k
  -- and so it is where it is cut. But for a list that is too short, or a number that is too high, a cut is refused with an answer at a place just where a field
  -- there refuses so. Every entry is then refused alike, and only then, but for the answers that also come once the packet is cut.
  pub cut_refused : (a : ℕ) → a ≢ 0 → a ≢ 4 → CutJustAt a (λ s. RefusedCut s a) Cut
  pub row_refused : (a : ℕ) → a ≢ 0 → a ≢ 4 → CutJustAt a (λ s. RefusedCut s a) RowCut
  pub entry_refused : (k a : ℕ) → (AfterCut a → ⊥) → JustAt a (λ s room. RefusedCut s a) λ s. ParseEntry s k
  pub entry_not_cut : (s i : List ℕ) (k a p : ℕ) (r : Reading) (x : List ℕ) → Bytes s → RefusedCut s a p → ParseEntry s k i r x → (r.answer ≡ a) × (r.used ≡ p)
  pub nth_refused : (s : List ℕ) (k a p : ℕ) (f : Found) → Bytes s → a ≢ 8 → Nth s k f → f ≡ denied a p ↔ RefusedCut s a p
  pub cut_seven : CutJust 7 (λ s. (length s ≤ limit.bytes) × Seven s) Cut
  pub row_seven : CutJust 7 (λ s. (length s ≤ limit.bytes) × Seven s) RowCut
  pub nth_seven : (s : List ℕ) (k : ℕ) (f : Found) → Bytes s → Nth s k f → ((p : ℕ) × (f ≡ denied 7 p)) ↔ (length s ≤ limit.bytes) × Seven s
  pub cut_short : CutShort Cuttable Cut
  pub row_short : CutShort Cuttable RowCut
  pub nth_short : (s q : List ℕ) (k : ℕ) (f : Found) → Cuttable (s ++ q) → 1 ≤ length q → length s ≤ limit.bytes → Nth s k f → (p : ℕ) × (f ≡ denied 2 p)
  -- A write within the limits is 5 or 6 just where a record of the image is refused so, which tells the two apart.
  pub value_write_refused : WriteJust value_unwritten.Refused WriteValue
  pub file_write_refused : WriteJust file_unwritten.Refused LsoWrite
  pub packet_write_refused : (exact : Bool) → WriteJust packet_unwritten.Refused λ i t. PacketWrite i t exact
  -- The bytes used, or the place at which a reading or a cut is refused, are inside the input.
  pub value_inside : Inside ParseSingleElement
  pub file_inside : Inside LsoParse
  pub file_incomplete_inside : Inside LsoParseIncomplete
  pub packet_inside : Inside PacketParse
  pub packet_incomplete_inside : Inside PacketParseIncomplete
  pub entry_inside : (k : ℕ) → Inside λ s. ParseEntry s k
  pub span_inside : (p n : ℕ) → Inside λ s. ParseSpan s p n
  pub cut_inside : CutInside Cut
  pub row_inside : CutInside RowCut
  pub nth_inside : (s : List ℕ) (k a p : ℕ) → Bytes s → Nth s k (denied a p) → p ≤ length s
  -- A refused read leaves the tree buffer all zeros, and makes no image bytes; so does a refused cut with the list or the row of numbers, and the index.
  pub value_zeros : Zeros ParseSingleElement
  pub file_zeros : Zeros LsoParse
  pub file_incomplete_zeros : Zeros LsoParseIncomplete
  pub packet_zeros : Zeros PacketParse
  pub packet_incomplete_zeros : Zeros PacketParseIncomplete
  pub entry_zeros : (k : ℕ) → Zeros λ s. ParseEntry s k
  pub span_zeros : (p n : ℕ) → Zeros λ s. ParseSpan s p n
  pub cut_zeros : CutZeros no_entry Cut
  pub row_zeros : CutZeros 0 RowCut
  pub index_zeros : (i t index : List ℕ) (r : Indexing) (left : List ℕ) → MakeIndex i t index r left → r.answer ≢ 0
      → (r.count ≡ 0) × (left ≡ replicate (length index) 0)
  -- Past the image bytes of a reading the buffer is zero too.
  pub value_past : Past ParseSingleElement
  pub file_past : Past LsoParse
  pub file_incomplete_past : Past LsoParseIncomplete
  pub packet_past : Past PacketParse
  pub packet_incomplete_past : Past PacketParseIncomplete
  pub entry_past : (k : ℕ) → Past λ s. ParseEntry s k
  pub span_past : (p n : ℕ) → Past λ s. ParseSpan s p n
  -- A refused write leaves the output as it was found, and counts 0;
  pub value_untouched : Untouching WriteValue
  pub file_untouched : Untouching LsoWrite
  pub packet_untouched : (exact : Bool) → Untouching λ i t. PacketWrite i t exact
  -- and an accepted one changes only the bytes it reports.
  pub value_kept : Keeping WriteValue
  pub file_kept : Keeping LsoWrite
  pub packet_kept : (exact : Bool) → Keeping λ i t. PacketWrite i t exact
  -- The answers, their reasons, the zeros and the output of the functions that go out to C.
  pub c_value : ReaderRules (λ a. a ≤ 5) value_why.Comes CParseSingleElement
  pub c_file : ReaderRules (λ a. a ≤ 5) file_why.ComesWhole CLsoParse
  pub c_file_incomplete : ReaderRules (λ a. a ≤ 5) file_why.Comes CLsoParseIncomplete
  pub c_packet : ReaderRules calls.Answer packet_why.ComesWhole CPacketParse
  pub c_packet_incomplete : ReaderRules calls.Answer packet_why.Comes CPacketParseIncomplete
  pub c_entry : (k : ℕ) → ReaderRules calls.EntryAnswer (λ s. packet_why.ComesEntry s k) λ s. CParseEntry s k
  pub c_span : (p n : ℕ) → ReaderRules (OneOf 0 (1 ∷ 4 ∷ 5 ∷ 8 ∷ 9 ∷ [])) (λ s. packet_why.ComesSpan s p n) λ s. CParseSpan s p n
  pub c_value_write : WriterRules (OneOf 0 (1 ∷ 4 ∷ 5 ∷ 6 ∷ [])) value_unwritten.Outcome CWriteValue
  pub c_file_write : WriterRules (OneOf 0 (1 ∷ 4 ∷ 5 ∷ 6 ∷ [])) file_unwritten.Outcome CLsoWrite
  pub c_packet_write : (exact : Bool)
      → WriterRules (OneOf 0 (1 ∷ 4 ∷ 5 ∷ 6 ∷ [])) (λ i t. packet_unwritten.Outcome i t exact) λ i t. CPacketWrite i t exact
  pub c_cut_answers : CutAnswers CutAnswer CPacketCut
  pub c_cut_refused : (a : ℕ) → a ≢ 0 → a ≢ 4 → CutJustAt a (λ s. RefusedCut s a) CPacketCut
  pub c_cut_inside : CutInside CPacketCut
  pub c_cut_zeros : CutZeros 0 CPacketCut
  pub c_nth_zeros : (s : List ℕ) (k answer : ℕ) (numbers : List ℕ) → CPacketNth s k answer numbers → answer ≢ 0 → numbers ≡ replicate 8 0
  pub c_index_zeros : (i t index : List ℕ) (r : Indexing) (left : List ℕ) → CIndex i t index r left → r.answer ≢ 0
      → (r.count ≡ 0) × (left ≡ replicate (length index) 0)
  -- A record laid by its numbers: its answers, each just where it is due; a refusal leaves the image as it was found; and laying is the inverse of taking.
  pub c_put : PutRules CPut CRecordAt

pub demand1 : Demand1
demand1 =
    record {
      contracts = every_call;
      value_answers = law.answers value_reads (λ a. a ≤ 5) values.answers;
      file_answers = law.answers file_reads (λ a. a ≤ 5) files.answers_whole;
      file_incomplete_answers = law.answers file_incomplete_reads (λ a. a ≤ 5) files.answers_incomplete;
      packet_answers = law.answers packet_reads calls.Answer calls.parse_answers;
      packet_incomplete_answers = law.answers packet_incomplete_reads calls.Answer calls.incomplete_answers;
      entry_answers = λ k. law.answers (entry_reads k) calls.EntryAnswer λ s. calls.entry_answers s k;
      span_answers = λ p n. law.answers (span_reads p n) (OneOf 0 (1 ∷ 4 ∷ 5 ∷ 8 ∷ 9 ∷ [])) λ s. spans.span_answers s p n;
      cut_answers = one.cutter_answers one.cuts_list;
      row_answers = one.cutter_answers one.cuts_row;
      nth_answers = one.nth_answers;
      value_write_answers = law.write_answers value_puts (OneOf 0 (1 ∷ 4 ∷ 5 ∷ 6 ∷ [])) values_write.write_answers;
      file_write_answers = law.write_answers file_puts (OneOf 0 (1 ∷ 4 ∷ 5 ∷ 6 ∷ [])) files_write.write_answers;
      packet_write_answers = λ exact.
          law.write_answers (packet_puts exact) (OneOf 0 (1 ∷ 4 ∷ 5 ∷ 6 ∷ [])) λ i t. packets_write.write_answers i t exact;
      index_answers = one.index_answers;
      value_reasons = law.reasons value_reads value_why.Comes values_why.reasons;
      file_reasons = law.reasons file_reads file_why.ComesWhole files_why.reasons_whole;
      file_incomplete_reasons = law.reasons file_incomplete_reads file_why.Comes files_why.reasons_incomplete;
      packet_reasons = law.reasons packet_reads packet_why.ComesWhole packets_why.parse_reasons;
      packet_incomplete_reasons = law.reasons packet_incomplete_reads packet_why.Comes packets_why.reasons;
      entry_reasons = λ k. law.reasons (entry_reads k) (λ s. packet_why.ComesEntry s k) λ s. packets_why.entry_reasons s k;
      span_reasons = λ p n. law.reasons (span_reads p n) (λ s. packet_why.ComesSpan s p n) λ s. packets_why.span_reasons s p n;
      cut_reasons = one.cut_reasons;
      nth_reasons = one.nth_reasons;
      value_write_reasons = law.write_reasons value_puts value_unwritten.Outcome values_write.write_reasons;
      file_write_reasons = law.write_reasons file_puts file_unwritten.Outcome files_write.write_reasons;
      packet_write_reasons = λ exact.
          law.write_reasons (packet_puts exact) (λ i t. packet_unwritten.Outcome i t exact) λ i t. packets_write.write_reasons i t exact;
      value_over = law.over_limit value_reads values.over_limit;
      file_over = law.over_limit file_reads files.over_limit_whole;
      file_incomplete_over = law.over_limit file_incomplete_reads files.over_limit_incomplete;
      packet_over = law.over_limit packet_reads calls.parse_over_limit;
      packet_incomplete_over = law.over_limit packet_incomplete_reads calls.incomplete_over_limit;
      entry_over = λ k. law.over_limit (entry_reads k) λ s. calls.entry_over_limit s k;
      value_tight = law.just value_reads 4 (λ s room. room < length (value_why.records s)) λ s room bs. values.room_exact s room;
      file_tight = law.just file_reads 4 TightFile tight.file_tight;
      file_incomplete_tight = law.just file_incomplete_reads 4 TightFile tight.file_incomplete_tight;
      packet_tight = law.just packet_reads 4 (λ s room. room < length (bytes (packet_at s))) λ s room bs. packets_room.parse_room_exact s room;
      packet_incomplete_tight =
          law.just packet_incomplete_reads 4 (λ s room. room < length (bytes (packet_at s))) λ s room bs. calls.incomplete_room_exact s room;
      cut_tight = one.cut_tight;
      row_tight = one.row_tight;
      value_full = law.just_at value_reads 4 (λ z. omega arith) values.refused_empty _ λ s room p bs. values.room_place s room p;
      file_full = law.just_at file_reads 4 (λ z. omega arith) files.refused_empty_whole FullFile tight.file_full;
      file_incomplete_full = law.just_at file_incomplete_reads 4 (λ z. omega arith) files.refused_empty_incomplete FullFile tight.file_incomplete_full;
      packet_full = law.just_at packet_reads 4 (λ z. omega arith) calls.parse_refused _ λ s room p bs. packets_room.parse_room_place s room p;
      packet_incomplete_full =
          law.just_at packet_incomplete_reads 4 (λ z. omega arith) calls.incomplete_refused _ λ s room p bs. calls.incomplete_room_place s room p;
      value_due = values_place.room_due;
      file_due = λ s room p bs f. files_place.room_due s room f.0 p bs f.1 f.2;
      packet_due = packets_place.room_due;
      value_roomy = law.roomy value_reads values.room_enough;
      file_roomy = law.roomy file_reads files.room_enough_whole;
      file_incomplete_roomy = law.roomy file_incomplete_reads files.room_enough_incomplete;
      packet_roomy = law.roomy packet_reads calls.parse_room;
      packet_incomplete_roomy = law.roomy packet_incomplete_reads calls.incomplete_room;
      span_roomy = tight.span_roomy;
      entry_roomy = tight.entry_roomy;
      value_refused = λ a some.
          law.just_at_in_room value_reads a some values.refused_empty (λ s. value_why.RefusedValue limit.levels s 0 a)
          λ s room p bs l ne. values_why.refused_exactly s room a p bs l ne some;
      value_deep = law.just_at_in_room value_reads 5 (λ z. omega arith) values.refused_empty (values_why.Deep limit.levels) values_why.deep_exactly;
      value_short = short.value_short;
      value_too_deep = short.value_deep;
      file_two = law.just_at file_reads 2 (λ z. omega arith) files.refused_empty_whole (λ s room. file_why.RefusedHeader s 2) files.two_whole;
      file_incomplete_two =
          law.just_at file_incomplete_reads 2 (λ z. omega arith) files.refused_empty_incomplete (λ s room. file_why.RefusedHeader s 2) files.two_incomplete;
      file_three = law.just_at file_reads 3 (λ z. omega arith) files.refused_empty_whole WrongFile files_why.three_whole;
      file_incomplete_three =
          law.just_at file_incomplete_reads 3 (λ z. omega arith) files.refused_empty_incomplete (λ s room. file_why.RefusedHeader s 3) files.three_incomplete;
      file_five = law.just_at file_reads 5 (λ z. omega arith) files.refused_empty_whole file_why.TooDeep files_why.five_whole;
      file_incomplete_five = law.just_at file_incomplete_reads 5 (λ z. omega arith) files.refused_empty_incomplete file_why.TooDeep files_why.five_incomplete;
      file_short = short.file_short;
      file_incomplete_short = short.file_incomplete_short;
      file_begun = short.file_begun;
      packet_seven = law.just_within packet_reads 7 Seven packets_why.parse_seven;
      packet_incomplete_seven = law.just_within packet_incomplete_reads 7 Seven packets_why.incomplete_seven;
      entry_seven = λ k. law.just_within (entry_reads k) 7 Seven λ s. packets_why.entry_seven s k;
      packet_short = short.packet_short;
      packet_incomplete_short = short.packet_incomplete_short;
      entry_short = short.entry_short;
      cut_refused = one.cutter_refused one.cuts_list;
      row_refused = one.cutter_refused one.cuts_row;
      entry_refused = λ k a other.
          law.just_at (entry_reads k) a (λ z. other (inl z)) (λ s. calls.entry_refused s k) (λ s room. RefusedCut s a)
          λ s room p bs l. entry_uncut s k room a p bs other;
      entry_not_cut = λ s i k a p r x bs t b.
          let e = ap (λ (w : Whole). w.reading) (entry_not_cut s k (length i) a p bs t) in
          rw ((entry_reads k).told s i r x b).returns (ap (λ (q : Reading). q.answer) e, ap (λ (q : Reading). q.used) e);
      nth_refused = one.nth_refused;
      cut_seven = one.cutter_seven one.cuts_list;
      row_seven = one.cutter_seven one.cuts_row;
      nth_seven = one.nth_seven;
      cut_short = one.cutter_short one.cuts_list;
      row_short = one.cutter_short one.cuts_row;
      nth_short = one.nth_short;
      value_write_refused = law.write_just value_puts value_unwritten.Refused values_write.write_refusals;
      file_write_refused = law.write_just file_puts file_unwritten.Refused files_write.write_refusals;
      packet_write_refused = λ exact. law.write_just (packet_puts exact) packet_unwritten.Refused λ i t. packets_write.write_refusals i t exact;
      value_inside = law.inside value_reads λ s room bs. values.place_inside s room;
      file_inside = law.inside file_reads files.place_inside_whole;
      file_incomplete_inside = law.inside file_incomplete_reads files.place_inside_incomplete;
      packet_inside = law.inside packet_reads λ s room bs. calls.parse_inside s room;
      packet_incomplete_inside = law.inside packet_incomplete_reads λ s room bs. calls.incomplete_inside s room;
      entry_inside = λ k. law.inside (entry_reads k) λ s. packets_why.entry_inside s k;
      span_inside = λ p n. law.inside (span_reads p n) λ s room bs. spans.span_inside s p n room;
      cut_inside = one.cutter_inside one.cuts_list;
      row_inside = one.cutter_inside one.cuts_row;
      nth_inside = one.nth_inside;
      value_zeros = law.zeros value_reads values.refused_empty;
      file_zeros = law.zeros file_reads files.refused_empty_whole;
      file_incomplete_zeros = law.zeros file_incomplete_reads files.refused_empty_incomplete;
      packet_zeros = law.zeros packet_reads calls.parse_refused;
      packet_incomplete_zeros = law.zeros packet_incomplete_reads calls.incomplete_refused;
      entry_zeros = λ k. law.zeros (entry_reads k) λ s. calls.entry_refused s k;
      span_zeros = λ p n. law.zeros (span_reads p n) λ s. spans.span_refused s p n;
      cut_zeros = one.cut_zeros;
      row_zeros = one.row_zeros;
      index_zeros = one.index_zeros;
      value_past = law.past value_reads;
      file_past = law.past file_reads;
      file_incomplete_past = law.past file_incomplete_reads;
      packet_past = law.past packet_reads;
      packet_incomplete_past = law.past packet_incomplete_reads;
      entry_past = λ k. law.past (entry_reads k);
      span_past = λ p n. law.past (span_reads p n);
      value_untouched = law.untouching value_puts;
      file_untouched = law.untouching file_puts;
      packet_untouched = λ exact. law.untouching (packet_puts exact);
      value_kept = law.keeping value_puts;
      file_kept = law.keeping file_puts;
      packet_kept = λ exact. law.keeping (packet_puts exact);
      c_value = c.value_rules;
      c_file = c.file_rules;
      c_file_incomplete = c.file_incomplete_rules;
      c_packet = c.packet_rules;
      c_packet_incomplete = c.packet_incomplete_rules;
      c_entry = c.entry_rules;
      c_span = c.span_rules;
      c_value_write = c.value_write_rules;
      c_file_write = c.file_write_rules;
      c_packet_write = c.packet_write_rules;
      c_cut_answers = one.cutter_answers c.cuts_row;
      c_cut_refused = one.cutter_refused c.cuts_row;
      c_cut_inside = one.cutter_inside c.cuts_row;
      c_cut_zeros = c.cut_zeros;
      c_nth_zeros = c.nth_zeros;
      c_index_zeros = c.index_zeros;
      c_put = c.put_rules;
    }

-- ---- 2. "The readers and writers give what the Rust gives within [the limits], and each value means what Adobe's AMF 0 document says, every departure listed.
-- A tree that was read and then written in full reads back, given room, as the same tree, texts and number bits included, in no more bytes than were consumed.
-- Only text places and the stored file length may differ." The limits are the rule "Limits" (docs/DEMANDS.md).

-- a round trip of the entry with a number
abbrev pub EntryTrip : ℕ → List ℕ → List ℕ → Whole → Whole → Type 0
EntryTrip k s b v w = calls.OfEntry s k λ e. span_trips.SpanTrip s e.place e.length b v w

pub record Demand2 : Type 0 where
  -- The readers and writers give what the Rust gives: the definitions under specs/ are the rules of docs/DEMANDS.md, the contracts are equations with them, and
  -- docs/DIFFERENCES.md says what was compared with the Rust by running.

  -- Each value means what Adobe's AMF 0 document says, every departure listed: `Encodes` is its table, whose departures are named so. What is accepted is a
  -- value, and the image tells its tree; every value within the limits is accepted, whatever follows it, all its bytes and no more; and no row of bytes is two.
  pub value_sound : Sound values.Means ParseSingleElement
  pub value_complete : (t : Tree Sort.value) (x rest i : List ℕ) (r : Reading) (left : List ℕ) → Encodes Sort.value t x → depth t ≤ limit.levels
      → length (x ++ rest) ≤ limit.bytes → 3 * length (x ++ rest) ≤ length i → ParseSingleElement (x ++ rest) i r left
      → values.Accepts (x ++ rest) t (length x) (made r left)
  pub value_exactly : Exactly HasValue ParseSingleElement
  pub value_unique : (t u : Tree Sort.value) (x y r q : List ℕ) → Encodes Sort.value t x → Encodes Sort.value u y → x ++ r ≡ y ++ q → (t ≡ u) × (x ≡ y)
  -- So it is with files, whole and as far as they can be read;
  pub file_sound : Sound files.Entire LsoParse
  pub file_incomplete_sound : Sound files.MeansUpTo LsoParseIncomplete
  pub file_complete : (f : Lso) (s i : List ℕ) (r : Reading) (left : List ℕ) → File f s → deepest f.body ≤ limit.levels → length s ≤ limit.bytes
      → 3 * length s ≤ length i → LsoParse s i r left → Accepts s f (length s) (made r left)
  pub file_incomplete_complete : (f : Lso) (x rest i : List ℕ) (r : Reading) (left : List ℕ) → Bytes (x ++ rest) → File f x → deepest f.body ≤ limit.levels
      → length (x ++ rest) ≤ limit.bytes → 3 * length (x ++ rest) ≤ length i → file_why.Halts (x ++ rest) (length x) → LsoParseIncomplete (x ++ rest) i r left
      → Accepts (x ++ rest) f (length x) (made r left)
  pub file_exactly : Exactly IsFile LsoParse
  pub file_incomplete_exactly : Just 0 (λ s room. (f : Lso) × (n : ℕ) × file_why.Reaches s room f n) LsoParseIncomplete
  pub file_unique : (a b : Lso) (x : List ℕ) → File a x → File b x → a ≡ b
  -- with packets;
  pub packet_sound : Sound (λ s v. packets.Means s v × (v.reading.used ≡ length s)) PacketParse
  pub packet_incomplete_sound : Sound packets.Means PacketParseIncomplete
  pub packet_complete : (p : Packet) (s i : List ℕ) (r : Reading) (left : List ℕ) → Encoded p s → Within limit.levels p → length s ≤ limit.bytes
      → 3 * length s ≤ length i → PacketParse s i r left → packets.Accepts s p (length s) (made r left)
  pub packet_incomplete_complete : (p : Packet) (x rest i : List ℕ) (r : Reading) (left : List ℕ) → Encoded p x → Within limit.levels p
      → length (x ++ rest) ≤ limit.bytes → 3 * length (x ++ rest) ≤ length i → PacketParseIncomplete (x ++ rest) i r left
      → packets.Accepts (x ++ rest) p (length x) (made r left)
  pub packet_exactly : Exactly IsPacket PacketParse
  pub packet_unique : (p q : Packet) (x y r t : List ℕ) → Encoded p x → Encoded q y → x ++ r ≡ y ++ t → (p ≡ q) × (x ≡ y)
  -- and with the value of an entry.
  pub entry_sound : (s : List ℕ) (k : ℕ) (e : Entry) (i : List ℕ) (r : Reading) (left : List ℕ) → Bytes s → Nth s k (Ok e) → ParseEntry s k i r left
      → r.answer ≡ 0 → Means s e (made r left)
  pub entry_complete : (s : List ℕ) (k : ℕ) (e : Entry) (t : Tree Sort.value) (i : List ℕ) (r : Reading) (left : List ℕ) → Bytes s → Nth s k (Ok e)
      → Encodes Sort.value t (span_of s e) → depth t ≤ limit.levels → 3 * length (span_of s e) ≤ length i → ParseEntry s k i r left
      → packets.Gives s t e.length (made r left)
  -- The writers put out just what an image holds: a tree in its shortest form, a file with its length, a packet with its lengths as asked for; and in either
  -- setting it is cut into its entries.
  pub value_writes : Writes HoldsValue WriteValue
  pub value_shortest : (t : Tree Sort.value) (i text o : List ℕ) (w : Writing) (y : List ℕ) → value_writing.Writable i text t → WriteValue i text o w y
      → w.answer ≡ 0 → value_writing.Shortest t (sent w y)
  pub file_writes : Writes HoldsFile LsoWrite
  pub file_written : (f : Lso) (i text o : List ℕ) (w : Writing) (y : List ℕ) → file_writing.Writable i text f → LsoWrite i text o w y → w.answer ≡ 0
      → files_write.WrittenAs f (sent w y)
  pub packet_writes : (exact : Bool) → Writes (HoldsPacket exact) λ i t. PacketWrite i t exact
  pub packet_written : (p : Packet) (exact : Bool) (i text o : List ℕ) (w : Writing) (y : List ℕ) → packet_writing.Writable i text p
      → PacketWrite i text exact o w y → w.answer ≡ 0 → packets_write.WrittenAs exact p (sent w y)
  pub packet_cuts : (p : Packet) (exact : Bool) (i text o : List ℕ) (w : Writing) (y : List ℕ) → packet_writing.Writable i text p
      → PacketWrite i text exact o w y → w.answer ≡ 0 → packets_write.CutsExactly (sent w y) p
  -- A tree that was read is written, in no more bytes than were consumed, and what was written in full reads back, given room, as the same tree, texts and
  -- number bits included: one tree, file or packet is what both rows of bytes encode and both images hold. Only text places and the stored file length may
  -- differ: `alike`. The room is three times what was written, any that is not refused for room, or that of the first reading. To write it once more changes
  -- nothing more.
  pub value_trip : Returns ParseSingleElement WriteValue ParseSingleElement values_write.RoundTrip
  pub file_trip : Returns LsoParse LsoWrite LsoParse files_write.RoundTrip
  pub file_incomplete_trip : Returns LsoParseIncomplete LsoWrite LsoParse files_write.RoundTrip
  pub packet_trip : (exact : Bool) → Returns PacketParse (λ i t. PacketWrite i t exact) PacketParse λ s b. packets_write.RoundTrip s b exact
  pub packet_incomplete_trip : (exact : Bool)
      → Returns PacketParseIncomplete (λ i t. PacketWrite i t exact) PacketParse λ s b. packets_write.RoundTrip s b exact
  -- So does the tree of an entry, and that of a part of a packet: it is written as a value, and reads back as one.
  pub entry_trip : (k : ℕ) → Returns (λ s. ParseEntry s k) WriteValue ParseSingleElement (EntryTrip k)
  pub span_trip : (p n : ℕ) → Returns (λ s. ParseSpan s p n) WriteValue ParseSingleElement λ s. span_trips.SpanTrip s p n
  -- Acceptance and accepted results are as they were before a refusal had a place, and so are the answers and counts of refusals: without the place, each call comes
  -- to what the definitions of then say.
  pub value_as_before : AsBefore then.value_of ParseSingleElement
  pub file_as_before : AsBefore then.whole_file LsoParse
  pub file_incomplete_as_before : AsBefore then.incomplete_file LsoParseIncomplete
  pub packet_as_before : AsBefore then.whole_packet PacketParse
  pub packet_incomplete_as_before : AsBefore then.incomplete_packet PacketParseIncomplete
  pub entry_as_before : (k : ℕ) → AsBefore (λ s. then.entry_of s k) λ s. ParseEntry s k
  pub span_as_before : (p n : ℕ) → AsBefore (λ s. then.span_of s p n) λ s. ParseSpan s p n
  pub cut_as_before : (s : List ℕ) (list : List Entry) (c : Cutting) (left : List Entry) → Cut s list c left
      → then.list_unplaced (listed c left) ≡ then.list_of s (length list)
  -- More room changes nothing, nor does a longer list.
  pub value_wider : Wider ParseSingleElement
  pub file_wider : Wider LsoParse
  pub file_incomplete_wider : Wider LsoParseIncomplete
  pub packet_wider : Wider PacketParse
  pub packet_incomplete_wider : Wider PacketParseIncomplete
  pub entry_wider : (k : ℕ) → Wider λ s. ParseEntry s k
  pub span_wider : (p n : ℕ) → Wider λ s. ParseSpan s p n
  pub cut_wider : (s : List ℕ) (a b x y : List Entry) (c d : Cutting) → Cut s a c x → Cut s b d y → length a ≤ length b → c.answer ≢ 4
      → listed d y ≡ listed c x
  -- The stored length is 16 plus the name's length plus the body's.
  pub file_length : (i text o : List ℕ) (w : Writing) (y : List ℕ) → Bytes i → LsoWrite i text o w y → w.answer ≡ 0 → file_writing.SaysLength (sent w y)
  -- And the starred examples hold: the rule "Examples" (docs/DEMANDS.md).
  pub examples : AllHold table

pub demand2 : Demand2
demand2 =
    record {
      value_sound = law.sound value_reads values.Means values.sound;
      value_complete = two.value_complete;
      value_exactly = law.exactly value_reads HasValue values.exactly;
      value_unique = values.unique;
      file_sound = law.sound file_reads files.Entire files.sound_whole;
      file_incomplete_sound = law.sound file_incomplete_reads files.MeansUpTo files.sound_incomplete;
      file_complete = two.file_complete;
      file_incomplete_complete = two.file_incomplete_complete;
      file_exactly = law.exactly file_reads IsFile files.exactly;
      file_incomplete_exactly =
          law.just file_incomplete_reads 0 (λ s room. (f : Lso) × (n : ℕ) × file_why.Reaches s room f n) files_why.exactly_incomplete;
      file_unique = files.unique;
      packet_sound = law.sound packet_reads (λ s v. packets.Means s v × (v.reading.used ≡ length s)) packets.sound;
      packet_incomplete_sound = law.sound packet_incomplete_reads packets.Means packets.sound_incomplete;
      packet_complete = two.packet_complete;
      packet_incomplete_complete = two.packet_incomplete_complete;
      packet_exactly = law.exactly packet_reads IsPacket packets.exactly;
      packet_unique = packets.unique;
      entry_sound = two.entry_sound;
      entry_complete = two.entry_complete;
      value_writes = law.writes value_puts HoldsValue values_write.write_accepted;
      value_shortest = two.value_shortest;
      file_writes = law.writes file_puts HoldsFile files_write.write_accepted;
      file_written = two.file_written;
      packet_writes = λ exact. law.writes (packet_puts exact) (HoldsPacket exact) λ i t. packets_write.write_accepted i t exact;
      packet_written = two.packet_written;
      packet_cuts = two.packet_cuts;
      value_trip = law.returns value_reads value_puts value_reads values_write.RoundTrip two.value_fewer values_write.round_trip
          values_room.round_trip_any values_room.same_room values_room.again_any;
      file_trip = law.returns file_reads file_puts file_reads files_write.RoundTrip two.file_fewer files_write.round_trip
          files_room.round_trip_any files_room.same_room files_room.again_any;
      file_incomplete_trip = law.returns file_incomplete_reads file_puts file_reads files_write.RoundTrip two.file_incomplete_fewer
          files_write.round_trip_incomplete files_room.round_trip_any_incomplete files_room.same_room_incomplete files_room.again_any_incomplete;
      packet_trip = λ exact.
          law.returns packet_reads (packet_puts exact) packet_reads (λ s b. packets_write.RoundTrip s b exact) (two.packet_fewer exact)
          (λ s b room out more bs e f. packets_write.round_trip (read_whole s room bs e) exact b out f more)
          (λ s b room out more bs e f. packets_room.round_trip_any (read_whole s room bs e) exact b out f more)
          (λ s b room out bs e. packets_room.same_room (read_whole s room bs e) exact b out)
          λ s b room out more once bs e f. packets_room.again_any (read_whole s room bs e) exact b out f more once;
      packet_incomplete_trip = λ exact.
          law.returns packet_incomplete_reads (packet_puts exact) packet_reads (λ s b. packets_write.RoundTrip s b exact) (two.packet_incomplete_fewer exact)
          (λ s b room out more bs e f. packets_write.round_trip (read_incomplete s room bs e) exact b out f more)
          (λ s b room out more bs e f. packets_room.round_trip_any (read_incomplete s room bs e) exact b out f more)
          (λ s b room out bs e. packets_room.same_room (read_incomplete s room bs e) exact b out)
          λ s b room out more once bs e f. packets_room.again_any (read_incomplete s room bs e) exact b out f more once;
      entry_trip = λ k.
          law.returns (entry_reads k) value_puts value_reads (EntryTrip k) (two.entry_fewer k)
          (λ s b room out more bs e f. trips.entry_trip s k room bs e b out f more) (λ s b room out more bs e f. trips.entry_trip_any s k room bs e b out f more)
          (λ s b room out bs e f. trips.entry_same_room s k room bs e b out f)
          λ s b room out more once bs e f. trips.entry_again s k room bs e b out f more once;
      span_trip = λ p n.
          law.returns (span_reads p n) value_puts value_reads (λ s. span_trips.SpanTrip s p n) (two.span_fewer p n)
          (λ s b room out more bs e f. span_trips.span_trip s p n room _ bs (calls.span_takes s p n room e) b out f more)
          (λ s b room out more bs e f. span_trips.span_trip_any s p n room _ bs (calls.span_takes s p n room e) b out f more)
          (λ s b room out bs e. span_trips.span_same_room s p n room _ bs (calls.span_takes s p n room e) b out)
          λ s b room out more once bs e f. span_trips.span_again s p n room _ bs (calls.span_takes s p n room e) b out f more once;
      value_as_before = law.as_before value_reads then.value_of before.value;
      file_as_before = law.as_before file_reads then.whole_file before.file_whole;
      file_incomplete_as_before = law.as_before file_incomplete_reads then.incomplete_file before.file_incomplete;
      packet_as_before = law.as_before packet_reads then.whole_packet before.packet_whole;
      packet_incomplete_as_before = law.as_before packet_incomplete_reads then.incomplete_packet before.packet_incomplete;
      entry_as_before = λ k. law.as_before (entry_reads k) (λ s. then.entry_of s k) λ s. before.one_entry s k;
      span_as_before = λ p n. law.as_before (span_reads p n) (λ s. then.span_of s p n) λ s. before.part s p n;
      cut_as_before = λ s list c left a. ap then.list_unplaced (one.listed_is s list c left a) ∙ before.cut s (length list);
      value_wider = law.wider value_reads values.room_more;
      file_wider = law.wider file_reads files.room_more_whole;
      file_incomplete_wider = law.wider file_incomplete_reads files.room_more_incomplete;
      packet_wider = law.wider packet_reads packets_room.parse_more;
      packet_incomplete_wider = law.wider packet_incomplete_reads packets_room.incomplete_more;
      entry_wider = λ k. law.wider (entry_reads k) λ s. packets_room.entry_more s k;
      span_wider = λ p n. law.wider (span_reads p n) λ s. packets_room.span_more s p n;
      cut_wider = one.cut_wider;
      file_length = two.file_length;
      examples = examples;
    }

-- ---- 3. "Take a packet that its declared lengths cut exactly. Change bytes inside any of its values and nothing else. Read by entry with the same room, every
-- name, flag and address, and every untouched value, answers as before. A changed value answers as the value reader does on those bytes alone, places shifted:
-- refusals for room or depth stand, and anything malformed, short or not used to the end is damaged. Where the whole-packet reader accepts a packet with exact
-- lengths, entry reading in that room gives the same values." A length may also say that it is not known: "Demand 3 covers changes in values with a known length;
-- other bytes stay fixed."

pub record Demand3 : Type 0 where
  -- A packet that its lengths cut exactly: `cut` accepts just that, where its list is not too short, and leaves its headers and messages, one by one.
  pub cut_exactly : CutExactly IsCut Cut
  pub row_exactly : CutExactly IsCut RowCut
  pub cut_into : (s : List ℕ) (list : List Entry) (c : Cutting) (left : List Entry) → Bytes s → Cut s list c left → c.answer ≡ 0
      → CutInto s (take c.count left)
  -- They are the entries that are found by number; and read by its place and length, an entry answers as it does by its number.
  pub cut_nth : (s : List ℕ) (list : List Entry) (c : Cutting) (left : List Entry) (k : ℕ) (f : Found) → Cut s list c left → k < c.count → Nth s k f
      → f ≡ Ok (get_or left k no_entry)
  pub cut_span : (s : List ℕ) (list : List Entry) (c : Cutting) (left : List Entry) (k : ℕ) → Cut s list c left → k < c.count
      → let e = get_or left k no_entry in Same (ParseEntry s k) (ParseSpan s e.place e.length)
  -- An entry whose length is not known was measured: it is accepted, and uses the length that it was measured to have, or it is refused with 4.
  pub measured : (s : List ℕ) (k : ℕ) (e : Entry) (i : List ℕ) (r : Reading) (x : List ℕ) → Bytes s → Nth s k (Ok e) → known s e ≡ false
      → ParseEntry s k i r x → ((r.answer ≡ 0) × (r.used ≡ e.length)) ⊎ (r.answer ≡ 4)
  -- Change bytes inside any of its values with a known length and nothing else: `Changes` takes such an s, and a t with other bytes inside those of the values
  -- that `cut` lists. Every flag, and every place and length, answers as before, by number, in a list and in a row;
  pub same_nth : Changes λ s t n. (k : ℕ) (f g : Found) → Nth s k f → Nth t k g → g ≡ f
  pub same_cut : Changes λ s t n. (a b x y : List Entry) (d f : Cutting) → Cut s a d x → Cut t b f y → length b ≡ length a → (f ≡ d) × (y ≡ x)
  pub same_row : Changes λ s t n. (a b x y : List ℕ) (d f : Cutting) → RowCut s a d x → RowCut t b f y → length b ≡ length a → (f ≡ d) × (y ≡ x)
  -- and every name and address: the text that `part` returns for it.
  pub same_first : Changes λ s t n. (k : ℕ) (e : Entry) (x y : List ℕ) → Nth s k (Ok e) → Part s e.place1 e.length1 x
      → Part t e.place1 e.length1 y → y ≡ x
  pub same_second : Changes λ s t n. (k : ℕ) (e : Entry) (x y : List ℕ) → Nth s k (Ok e) → Part s e.place2 e.length2 x
      → Part t e.place2 e.length2 y → y ≡ x
  -- Every untouched value answers as before, by number and by its place and length, and those whose length is not known are untouched; and so does every other
  -- entry where one alone is changed.
  pub untouched : Changes λ s t n. (k : ℕ) (e : Entry) → Nth s k (Ok e) → span_of t e ≡ span_of s e → Same (ParseEntry s k) (ParseEntry t k)
  pub untouched_span : Changes λ s t n. (p m : ℕ) → bytes_at m t p ≡ bytes_at m s p → Same (ParseSpan s p m) (ParseSpan t p m)
  pub unknown_same : Changes λ s t n. (k : ℕ) (e : Entry) → Nth s k (Ok e) → known s e ≡ false → Same (ParseEntry s k) (ParseEntry t k)
  pub neighbours : (s t : List ℕ) (m k : ℕ) (d e : Entry) → Bytes s → Nth s m (Ok d) → known s d ≡ true → Changed (span d ∷ []) s t
      → Nth s k (Ok e) → k ≢ m → Same (ParseEntry s k) (ParseEntry t k)
  -- A changed value answers as the value reader does on those bytes alone, places shifted, by number and by its place and length.
  pub changed : Changes λ s t n. (k : ℕ) (e : Entry) → Nth s k (Ok e) → Alone e.place (span_of t e) (ParseEntry t k)
  pub changed_span : Changes λ s t n. (k : ℕ) (e : Entry) → Nth s k (Ok e) → Alone e.place (span_of t e) (ParseSpan t e.place e.length)
  -- And there are no more entries.
  pub past_nth : Changes λ s t n. (k : ℕ) (g : Found) → n ≤ k → Nth t k g → g ≡ denied 8 0
  pub past : Changes λ s t n. (k : ℕ) (j : List ℕ) (q : Reading) (y : List ℕ) → n ≤ k → ParseEntry t k j q y
      → (q ≡ (refused 8 0).reading) × (y ≡ replicate (length j) 0)
  -- Where the whole-packet reader accepts a packet whose lengths are exact or not known, entry reading in that room gives the same values: their images stand in
  -- the whole one.
  pub agreement : (s i : List ℕ) (r : Reading) (x : List ℕ) → Bytes s → Exact s → PacketParse s i r x → r.answer ≡ 0 → Agrees s (length i) (take r.made x)

pub demand3 : Demand3
demand3 =
    record {
      cut_exactly = one.cutter_exactly one.cuts_list;
      row_exactly = one.cutter_exactly one.cuts_row;
      cut_into = three.cut_into;
      cut_nth = three.cut_nth;
      cut_span = three.cut_span;
      measured = three.measured;
      same_nth = three.same_nth;
      same_cut = three.same_cut;
      same_row = three.same_row;
      same_first = three.same_first;
      same_second = three.same_second;
      untouched = three.untouched;
      untouched_span = three.untouched_span;
      unknown_same = three.unknown_same;
      neighbours = three.neighbours;
      changed = three.changed;
      changed_span = three.changed_span;
      past_nth = three.past_nth;
      past = three.past;
      agreement = three.agreement;
    }
