-- Demand 1 of the functions that go out to C: each comes to what its call does, and so answers, leaves and changes what that does.
use Rattle.std.specs.Prelude.{◌/◌, ◌≤◌, ◌≡◌, ◌≢◌, ◌∷◌, Ok, Err}
use Rattle.wire.proofs.Kit.{ℕ, refl, ◌∙◌, inl, inr, List, [], Bool, length, replicate, sym, ap}
use Rattle.image.specs.declared.building.Laying.{Laying}
use Rattle.image.specs.declared.reading.Reading.{Reading}
use Rattle.image.specs.declared.writing.Writing.{Writing}
use Rattle.image.specs.Taking.{record_at}
use Rattle.image.specs.Building.{Put, putting, put_of}
use Rattle.image.proofs.Told.{put_cases, put_six, put_four, put_refused, put_before, put_behind, put_length}
use Rattle.amf0.specs.Reading.{read_of}
use Rattle.amf0.specs.Writing as amf0
use Rattle.amf0_theorems.specs.Refusal as value_why
use Rattle.amf0_theorems.specs.Unwritten as value_unwritten
use Rattle.amf0_theorems.proofs.Refusals as values_why
use Rattle.amf0_theorems.proofs.Theorems as values
use Rattle.amf0_theorems.proofs.WriteTheorems as values_write
use Rattle.lso.specs.Reading as lso
use Rattle.lso.specs.Writing as lso_write
use Rattle.lso_theorems.specs.Refusal as file_why
use Rattle.lso_theorems.specs.Unwritten as file_unwritten
use Rattle.lso_theorems.proofs.Reasons as files_why
use Rattle.lso_theorems.proofs.Theorems as files
use Rattle.lso_theorems.proofs.WriteTheorems as files_write
use Rattle.packet.specs.declared.entry.Cutting.{Cutting}
use Rattle.packet.specs.Reading as packet
use Rattle.packet.specs.Writing as packet_write
use Rattle.packet.specs.Entry.{cut_of, list_of, found_in, read_span, read_entry, Found}
use Rattle.packet_theorems.specs.Why as packet_why
use Rattle.packet_theorems.specs.Unwritten as packet_unwritten
use Rattle.packet_theorems.proofs.Reasons as packets_why
use Rattle.packet_theorems.proofs.Theorems as calls
use Rattle.packet_theorems.proofs.SpanTheorems as spans
use Rattle.packet_theorems.proofs.WriteTheorems as packets_write
use Rattle.index.specs.declared.make.Indexing.{Indexing}
use Rattle.riddoskam.specs.Numbers.{found_answer, found_numbers}
use Rattle.riddoskam.proofs.Puts.{Leaves, put_record, record_put}
use Rattle.demands.specs.Forms.{OneOf, CutZeros, ReaderRules, WriterRules, PutRules}
use Rattle.demands.proofs.Counts.{value_counts, file_counts, file_incomplete_counts, packet_counts, packet_incomplete_counts, entry_counts, span_counts}
use Rattle.demands.proofs.CCalls.{CParseSingleElement, CLsoParse, CLsoParseIncomplete, CPacketParse, CPacketParseIncomplete, CParseEntry, CParseSpan, CWriteValue, CLsoWrite, CPacketWrite, CPacketCut, CPacketNth, CIndex, CRecordAt, CPut}
use Rattle.demands.proofs.Told.{Read, Reads, Wrote, Putting}
use Rattle.demands.proofs.Laws as law
use Rattle.demands.proofs.Demand1.{Cuts-by, row_uncut, index_nothing}

-- ---- the readers

-- `riddoskam_parse_single_element`
pub value_rules : ReaderRules (λ a. a ≤ 5) value_why.Comes CParseSingleElement
value_rules =
    record {
      answers = law.answers reads (λ a. a ≤ 5) values.answers;
      reasons = law.reasons reads value_why.Comes values_why.reasons;
      inside = law.inside reads λ s room bs. values.place_inside s room;
      zeros = law.zeros reads values.refused_empty;
      past = law.past reads;
    }
  where
    told : (s i : List ℕ) (r : Reading) (x : List ℕ) → CParseSingleElement s i r x → Read (read_of s) i r x
    told _ _ _ _ (CParseSingleElement.call κs a o) =
        record { returns = λ j. record { answer = o.ensures.0 j; used = o.ensures.1.0 j; made = o.ensures.1.1.0 j }; leaves = o.ensures.1.1.1 }

    reads : Reads CParseSingleElement read_of
    reads = record { told = told; counts = value_counts }

-- `riddoskam_lso_parse`
pub file_rules : ReaderRules (λ a. a ≤ 5) file_why.ComesWhole CLsoParse
file_rules =
    record {
      answers = law.answers reads (λ a. a ≤ 5) files.answers_whole;
      reasons = law.reasons reads file_why.ComesWhole files_why.reasons_whole;
      inside = law.inside reads files.place_inside_whole;
      zeros = law.zeros reads files.refused_empty_whole;
      past = law.past reads;
    }
  where
    told : (s i : List ℕ) (r : Reading) (x : List ℕ) → CLsoParse s i r x → Read (lso.whole_of s) i r x
    told _ _ _ _ (CLsoParse.call κs a o) =
        record { returns = λ j. record { answer = o.ensures.0 j; used = o.ensures.1.0 j; made = o.ensures.1.1.0 j }; leaves = o.ensures.1.1.1 }

    reads : Reads CLsoParse lso.whole_of
    reads = record { told = told; counts = file_counts }

-- `riddoskam_lso_parse_incomplete`
pub file_incomplete_rules : ReaderRules (λ a. a ≤ 5) file_why.Comes CLsoParseIncomplete
file_incomplete_rules =
    record {
      answers = law.answers reads (λ a. a ≤ 5) files.answers_incomplete;
      reasons = law.reasons reads file_why.Comes files_why.reasons_incomplete;
      inside = law.inside reads files.place_inside_incomplete;
      zeros = law.zeros reads files.refused_empty_incomplete;
      past = law.past reads;
    }
  where
    told : (s i : List ℕ) (r : Reading) (x : List ℕ) → CLsoParseIncomplete s i r x → Read (lso.incomplete_of s) i r x
    told _ _ _ _ (CLsoParseIncomplete.call κs a o) =
        record { returns = λ j. record { answer = o.ensures.0 j; used = o.ensures.1.0 j; made = o.ensures.1.1.0 j }; leaves = o.ensures.1.1.1 }

    reads : Reads CLsoParseIncomplete lso.incomplete_of
    reads = record { told = told; counts = file_incomplete_counts }

-- `riddoskam_packet_parse`
pub packet_rules : ReaderRules calls.Answer packet_why.ComesWhole CPacketParse
packet_rules =
    record {
      answers = law.answers reads calls.Answer calls.parse_answers;
      reasons = law.reasons reads packet_why.ComesWhole packets_why.parse_reasons;
      inside = law.inside reads λ s room bs. calls.parse_inside s room;
      zeros = law.zeros reads calls.parse_refused;
      past = law.past reads;
    }
  where
    told : (s i : List ℕ) (r : Reading) (x : List ℕ) → CPacketParse s i r x → Read (packet.whole_of s) i r x
    told _ _ _ _ (CPacketParse.call κs a o) =
        record { returns = λ j. record { answer = o.ensures.0 j; used = o.ensures.1.0 j; made = o.ensures.1.1.0 j }; leaves = o.ensures.1.1.1 }

    reads : Reads CPacketParse packet.whole_of
    reads = record { told = told; counts = packet_counts }

-- `riddoskam_packet_parse_incomplete`
pub packet_incomplete_rules : ReaderRules calls.Answer packet_why.Comes CPacketParseIncomplete
packet_incomplete_rules =
    record {
      answers = law.answers reads calls.Answer calls.incomplete_answers;
      reasons = law.reasons reads packet_why.Comes packets_why.reasons;
      inside = law.inside reads λ s room bs. calls.incomplete_inside s room;
      zeros = law.zeros reads calls.incomplete_refused;
      past = law.past reads;
    }
  where
    told : (s i : List ℕ) (r : Reading) (x : List ℕ) → CPacketParseIncomplete s i r x → Read (packet.incomplete_of s) i r x
    told _ _ _ _ (CPacketParseIncomplete.call κs a o) =
        record { returns = λ j. record { answer = o.ensures.0 j; used = o.ensures.1.0 j; made = o.ensures.1.1.0 j }; leaves = o.ensures.1.1.1 }

    reads : Reads CPacketParseIncomplete packet.incomplete_of
    reads = record { told = told; counts = packet_incomplete_counts }

-- `riddoskam_packet_parse_entry`
pub entry_rules : (k : ℕ) → ReaderRules calls.EntryAnswer (λ s. packet_why.ComesEntry s k) λ s. CParseEntry s k
entry_rules k =
    record {
      answers = law.answers (reads k) calls.EntryAnswer λ s. calls.entry_answers s k;
      reasons = law.reasons (reads k) (λ s. packet_why.ComesEntry s k) λ s. packets_why.entry_reasons s k;
      inside = law.inside (reads k) λ s. packets_why.entry_inside s k;
      zeros = law.zeros (reads k) λ s. calls.entry_refused s k;
      past = law.past (reads k);
    }
  where
    told : (k : ℕ) (s i : List ℕ) (r : Reading) (x : List ℕ) → CParseEntry s k i r x → Read (read_entry s k) i r x
    told _ _ _ _ _ (CParseEntry.call κs a o) =
        record { returns = λ j. record { answer = o.ensures.0 j; used = o.ensures.1.0 j; made = o.ensures.1.1.0 j }; leaves = o.ensures.1.1.1 }

    reads : (k : ℕ) → Reads (λ s. CParseEntry s k) λ s. read_entry s k
    reads k = record { told = told k; counts = λ s. entry_counts s k }

-- `riddoskam_packet_parse_span`
pub span_rules : (p n : ℕ) → ReaderRules (OneOf 0 (1 ∷ 4 ∷ 5 ∷ 8 ∷ 9 ∷ [])) (λ s. packet_why.ComesSpan s p n) λ s. CParseSpan s p n
span_rules p n =
    record {
      answers = law.answers (reads p n) (OneOf 0 (1 ∷ 4 ∷ 5 ∷ 8 ∷ 9 ∷ [])) λ s. spans.span_answers s p n;
      reasons = law.reasons (reads p n) (λ s. packet_why.ComesSpan s p n) λ s. packets_why.span_reasons s p n;
      inside = law.inside (reads p n) λ s room bs. spans.span_inside s p n room;
      zeros = law.zeros (reads p n) λ s. spans.span_refused s p n;
      past = law.past (reads p n);
    }
  where
    told : (p n : ℕ) (s i : List ℕ) (r : Reading) (x : List ℕ) → CParseSpan s p n i r x → Read (read_span s p n) i r x
    told _ _ _ _ _ _ (CParseSpan.call κs a o) =
        record { returns = λ j. record { answer = o.ensures.0 j; used = o.ensures.1.0 j; made = o.ensures.1.1.0 j }; leaves = o.ensures.1.1.1 }

    reads : (p n : ℕ) → Reads (λ s. CParseSpan s p n) λ s. read_span s p n
    reads p n = record { told = told p n; counts = λ s. span_counts s p n }

-- ---- the writers

-- `riddoskam_write_value`
pub value_write_rules : WriterRules (OneOf 0 (1 ∷ 4 ∷ 5 ∷ 6 ∷ [])) value_unwritten.Outcome CWriteValue
value_write_rules =
    record {
      answers = law.write_answers puts (OneOf 0 (1 ∷ 4 ∷ 5 ∷ 6 ∷ [])) values_write.write_answers;
      reasons = law.write_reasons puts value_unwritten.Outcome values_write.write_reasons;
      untouched = law.untouching puts;
      kept = law.keeping puts;
    }
  where
    told : (i t o : List ℕ) (r : Writing) (y : List ℕ) → CWriteValue i t o r y → Wrote (amf0.write_of i t) o r y
    told _ _ _ _ _ (CWriteValue.call κs a o) =
        record { returns = λ j. record { answer = o.ensures.0 j; count = o.ensures.1.0 j }; leaves = o.ensures.1.1 }

    puts : Putting CWriteValue amf0.write_of
    puts = record { told = told; settles = values_write.write_settled }

-- `riddoskam_lso_write_to_bytes`
pub file_write_rules : WriterRules (OneOf 0 (1 ∷ 4 ∷ 5 ∷ 6 ∷ [])) file_unwritten.Outcome CLsoWrite
file_write_rules =
    record {
      answers = law.write_answers puts (OneOf 0 (1 ∷ 4 ∷ 5 ∷ 6 ∷ [])) files_write.write_answers;
      reasons = law.write_reasons puts file_unwritten.Outcome files_write.write_reasons;
      untouched = law.untouching puts;
      kept = law.keeping puts;
    }
  where
    told : (i t o : List ℕ) (r : Writing) (y : List ℕ) → CLsoWrite i t o r y → Wrote (lso_write.write_of i t) o r y
    told _ _ _ _ _ (CLsoWrite.call κs a o) =
        record { returns = λ j. record { answer = o.ensures.0 j; count = o.ensures.1.0 j }; leaves = o.ensures.1.1 }

    puts : Putting CLsoWrite lso_write.write_of
    puts = record { told = told; settles = files_write.write_settled }

-- `riddoskam_packet_write_to_bytes`
pub packet_write_rules : (exact : Bool) → WriterRules (OneOf 0 (1 ∷ 4 ∷ 5 ∷ 6 ∷ [])) (λ i t. packet_unwritten.Outcome i t exact) λ i t. CPacketWrite i t exact
packet_write_rules exact =
    record {
      answers = law.write_answers (puts exact) (OneOf 0 (1 ∷ 4 ∷ 5 ∷ 6 ∷ [])) λ i t. packets_write.write_answers i t exact;
      reasons = law.write_reasons (puts exact) (λ i t. packet_unwritten.Outcome i t exact) λ i t. packets_write.write_reasons i t exact;
      untouched = law.untouching (puts exact);
      kept = law.keeping (puts exact);
    }
  where
    told : (exact : Bool) (i t o : List ℕ) (r : Writing) (y : List ℕ) → CPacketWrite i t exact o r y → Wrote (packet_write.write_of i t exact) o r y
    told _ _ _ _ _ _ (CPacketWrite.call κs a o) =
        record { returns = λ j. record { answer = o.ensures.0 j; count = o.ensures.1.0 j }; leaves = o.ensures.1.1 }

    puts : (exact : Bool) → Putting (λ i t. CPacketWrite i t exact) λ i t. packet_write.write_of i t exact
    puts exact = record { told = told exact; settles = λ i t. packets_write.write_settled i t exact }

-- ---- the cut, the lookup by number, and the index

-- `riddoskam_packet_cut` comes to what the cut into a row does.
pub cuts_row : Cuts-by CPacketCut
cuts_row = record { told = told }
  where
    told : (s row : List ℕ) (c : Cutting) (left : List ℕ) → CPacketCut s row c left → (room : ℕ) × (c ≡ (list_of s room).cutting)
    told _ _ _ _ (CPacketCut.call κs a o) =
        (length a.1.0.now / 8, λ j. record { answer = o.ensures.0 j; used = o.ensures.1.0 j; count = o.ensures.1.1.0 j })

-- A refused `riddoskam_packet_cut` counts 0, and leaves a row of zeros.
pub cut_zeros : CutZeros 0 CPacketCut
cut_zeros _ _ _ _ (CPacketCut.call κs a o) =
    row_uncut a.0.now a.1.0.now _ o.last.1.0
    (λ j. record { answer = o.ensures.0 j; used = o.ensures.1.0 j; count = o.ensures.1.1.0 j }) o.ensures.1.1.1

-- A refused `riddoskam_packet_nth` leaves eight zeros.
pub nth_zeros : (s : List ℕ) (k answer : ℕ) (numbers : List ℕ) → CPacketNth s k answer numbers → answer ≢ 0 → numbers ≡ replicate 8 0
nth_zeros _ _ _ _ (CPacketNth.call κs a o) ne = o.ensures.1 ∙ go (found_in (cut_of a.0.now) a.1.0) (λ z. ne (o.ensures.0 ∙ z))
  where
    go : (f : Found) → found_answer f ≢ 0 → found_numbers f ≡ replicate 8 0
    go (Ok e) n = absurd (n refl)
    go (Err r) n = refl

-- A refused `riddoskam_index` counts 0, and leaves an index of zeros.
pub index_zeros : (i t index : List ℕ) (r : Indexing) (left : List ℕ) → CIndex i t index r left → r.answer ≢ 0
    → (r.count ≡ 0) × (left ≡ replicate (length index) 0)
index_zeros _ _ _ _ _ (CIndex.call κs a o) =
    index_nothing a.0.now a.1.0.now a.1.1.0.now _ o.last.1.1.0
    (λ j. record { answer = o.ensures.0 j; count = o.ensures.1.0 j }) (o.ensures.1.1, o.kept.1.1.0)

-- ---- a record by its numbers

-- `riddoskam_put`, beside `riddoskam_record_at`
pub put_rules : PutRules CPut CRecordAt
put_rules =
    record {
      answers = λ i m fs r x p.
          let t = told i m fs r x p in
          rw t.0 (put_cases fs m i (λ (y : Put). OneOf 0 (4 ∷ 6 ∷ []) y.laying.answer) (λ _ _ _. inl refl) (λ _ _ _. inr (inl refl)) (λ _. inr (inr refl)));
      untold = λ i m fs r x p. rw (told i m fs r x p).0 (put_six fs m i);
      tight = λ i m fs r x p. rw (told i m fs r x p).0 (put_four fs m i);
      untouched = λ i m fs r x p. let t = told i m fs r x p in rw (t.0, t.1) (put_refused fs m i);
      kept = λ i m fs r x p.
          let t = told i m fs r x p in
          rw (t.0, t.1) (put_before fs m i, put_behind fs m i, put_length fs m i);
      taken = λ i m fs r x p e a gs n k.
          let t = told i m fs r x p in
          let h = left x m a gs n k in
          let g : Leaves (record_at x m) 0 fs r.made = rw (t.0, t.1) (put_record fs m i (rw t.0 at e)) in
          (sym h.answered ∙ g.answered, sym h.numbers ∙ g.numbers, sym h.behind ∙ g.behind);
      again = λ i bytes m fs n k r x p.
          let t = told i m fs r x p in
          let h = left i m 0 fs n k in
          let g : put_of fs m i ≡ putting 0 n i = rw (h.numbers, h.behind) at (record_put i bytes m h.answered) in (
            ap (λ (y : Laying). y.answer) t.0 ∙ ap (λ (y : Put). y.laying.answer) g,
            ap (λ (y : Laying). y.made) t.0 ∙ ap (λ (y : Put). y.laying.made) g,
            t.1 ∙ ap (λ (y : Put). y.image) g,
          );
    }
  where
    told : (i : List ℕ) (m : ℕ) (fs : List ℕ) (r : Laying) (x : List ℕ) → CPut i m fs r x → (r ≡ (put_of fs m i).laying) × (x ≡ (put_of fs m i).image)
    told _ _ _ _ _ (CPut.call κs a o) = (λ j. record { answer = o.ensures.0 j; made = o.ensures.1.0 j }, o.ensures.1.1)

    left : (i : List ℕ) (m a : ℕ) (fs : List ℕ) (n : ℕ) → CRecordAt i m a fs n → Leaves (record_at i m) a fs n
    left _ _ _ _ _ (CRecordAt.call κs a o) = record { answered = sym o.ensures.0; numbers = sym o.ensures.1.0; behind = sym o.ensures.1.1 }
