-- Demand 1 of the calls that make no tree: the cut into a list or a row, the lookup by number, and the index.
use Rattle.std.specs.Prelude.{◌/◌, ◌≤◌, ◌≡◌, ◌≢◌, ◌↔◌, ◌∷◌, ◌++◌}
use Rattle.wire.proofs.Kit.{ℕ, refl, sym, ap, ◌∙◌, List, [], sub-zero, arith, length, replicate, take-append_seam, ltb}
use Rattle.wire.specs.Number.{Bytes}
use Rattle.wire.specs.Limit as limit
use Rattle.wire.proofs.Laws.{picked, same_answer, same_place}
use Rattle.packet.specs.declared.head.Entry.{Entry}
use Rattle.packet.specs.declared.entry.Cutting.{Cutting}
use Rattle.packet.specs.Entry.{Cut as PacketCut, found, stops, cut_of, found_in, no_entry, uncut, Listed, list_of, filled}
use Rattle.packet.specs.Row.{numbers_of, row_of}
use Rattle.packet_theorems.proofs.Theorems as packets
use Rattle.packet_theorems.proofs.Theorems.{NthAnswer}
use Rattle.packet_theorems.proofs.CutTheorems as cuts
use Rattle.packet_theorems.proofs.CutTheorems.{CutAnswer}
use Rattle.packet_theorems.proofs.Outcome as Outcome
use Rattle.packet_theorems.proofs.Outcome.{comes_list}
use Rattle.packet_theorems.proofs.Reasons as why
use Rattle.packet_theorems.proofs.Beginnings as beginnings
use Rattle.packet_theorems.proofs.Refusals.{cut_refused_exactly}
use Rattle.packet_theorems.proofs.CutExactly.{cut_complete, cut_sound}
use Rattle.packet_theorems.specs.Refusal.{Seven, RefusedCut}
use Rattle.packet_theorems.specs.Why.{ComesList, ComesNth}
use Rattle.packet.proofs.Laws.{Splits, cut_told as cut_splits}
use Rattle.index.specs.declared.make.Indexing.{Indexing}
use Rattle.index.specs.Index.{index_of, indexing}
use Rattle.index_theorems.proofs.Answers as indexes
use Rattle.index_theorems.proofs.Determined.{Holding, index_zero}
use Rattle.demands.specs.Inputs.{IsCut, Cuttable, TightCut}
use Rattle.demands.specs.Forms.{Cutter, listed, OneOf, CutAnswers, CutJust, CutJustAt, CutInside, CutShort, Uncut, CutZeros, CutExactly}
use Rattle.demands.proofs.Calls.{Nth, Cut, RowCut, MakeIndex}
use Rattle.demands.proofs.Told.{nth_told, cut_told, row_told, index_told}
use Rattle.demands.proofs.Tight as tight
use Rattle.wire.specs.Answer.{denied}
use Rattle.packet.specs.Entry.{Found}

-- ---- the cut, into a list or a row

-- in a list of any size

-- it is refused, but for a short list, at a place just where a field there refuses the packet
refused_just : (s : List ℕ) (room a p : ℕ) → Bytes s → a ≢ 0 → a ≢ 4 → ((list_of s room).cutting.answer ≡ a) × ((list_of s room).cutting.used ≡ p) ↔ RefusedCut s a p
refused_just s room a p bs some other = go (list_of s room) (comes_list s room)
  where
    stopped : RefusedCut s a p → cut_of s ≡ stops a p
    stopped t = (cut_refused_exactly s a p bs).1 t

    go : (w : Listed) → Outcome.ComesList s room w → (w.cutting.answer ≡ a) × (w.cutting.used ≡ p) ↔ RefusedCut s a p
    go w (Outcome.ComesList.not_cut {a = b} {p = q} e) = (
      λ z. rw (z.0, z.1) at ((cut_refused_exactly s b q bs).0 e),
      λ t. let f = stopped t in (cc, cc),
    )
    go w (Outcome.ComesList.too_short e h) = (
      λ z. absurd (other (sym z.0)),
      λ t. let f = stopped t in let z : ◌≡◌ {A = ℕ} 0 1 = cc in absurd (omega arith),
    )
    go w (Outcome.ComesList.cut e h) = (
      λ z. absurd (some (sym z.0)),
      λ t. let f = stopped t in let z : ◌≡◌ {A = ℕ} 0 1 = cc in absurd (omega arith),
    )

-- and it accepts, but for a short list, just what the lengths cut exactly
accepted_just : (s : List ℕ) (room : ℕ) → Bytes s → (list_of s room).cutting.answer ≢ 4 → (list_of s room).cutting.answer ≡ 0 ↔ IsCut s
accepted_just s room bs = go (list_of s room) (comes_list s room)
  where
    go : (w : Listed) → Outcome.ComesList s room w → w.cutting.answer ≢ 4 → w.cutting.answer ≡ 0 ↔ IsCut s
    go w (Outcome.ComesList.not_cut {a} {p} e) ne = (
      λ z. let h : Splits s (stops a p) = rw e at (cut_splits s) in absurd (omega (arith, h.cuts.low)),
      λ t. let f = (cut_complete t.0 t.1 s t.3 t.2).cut in let z : ◌≡◌ {A = ℕ} 0 1 = cc in absurd (omega arith),
    )
    go w (Outcome.ComesList.too_short e h) ne = absurd (ne refl)
    go w (Outcome.ComesList.cut {es} e h) ne = (
      λ z. let c = cut_sound s es (length s) bs e in (c.headers, c.messages, c.cuts, c.small),
      λ t. refl,
    )

-- a call that cuts a packet, by what it comes to
pub record Cuts-by {A : Type 0} (Call : Cutter A) : Type 0 where
  pub told : (s : List ℕ) (list : List A) (c : Cutting) (left : List A) → Call s list c left → (room : ℕ) × (c ≡ (list_of s room).cutting)

module _ {A : Type 0} {Call : Cutter A} (k : Cuts-by Call) where
  -- its answers,
  pub cutter_answers : CutAnswers CutAnswer Call
  cutter_answers s list c left a = let (room, e) = k.told s list c left a in rw e (cuts.cut_answers s room)

  -- what it refuses,
  pub cutter_refused : (a : ℕ) → a ≢ 0 → a ≢ 4 → CutJustAt a (λ s. RefusedCut s a) Call
  cutter_refused a some other s list c left p bs b = let (room, e) = k.told s list c left b in rw e (refused_just s room a p bs some other)

  -- where,
  pub cutter_inside : CutInside Call
  cutter_inside s list c left bs b = let (room, e) = k.told s list c left b in rw e (why.cut_inside s room bs)

  -- what it refuses with 7,
  pub cutter_seven : CutJust 7 (λ s. (length s ≤ limit.bytes) × Seven s) Call
  cutter_seven s list c left bs a = let (room, e) = k.told s list c left a in rw e (why.cut_seven s room bs)

  -- what a proper beginning is refused with,
  pub cutter_short : CutShort Cuttable Call
  cutter_short s q list c left i l h a =
      let (room, e) = k.told s list c left a in
      rw e (ap (λ (w : Listed). w.cutting.answer) (beginnings.cut_beginning s q i.0 i.3 l h room).1)

  -- and what it accepts
  pub cutter_exactly : CutExactly IsCut Call
  cutter_exactly s list c left bs a ne = let (room, e) = k.told s list c left a in rw e (accepted_just s room bs (rw e at ne))

-- `cut`
pub cuts_list : Cuts-by Cut
cuts_list = record { told = λ s list c left a. (length list, (cut_told a).0) }

-- `packet::row::cut`
pub cuts_row : Cuts-by RowCut
cuts_row = record { told = λ s row c left a. (length row / 8, (row_told a).0) }

-- It is 4 just where the list
pub cut_tight : (s : List ℕ) (list : List Entry) (c : Cutting) (left : List Entry) → Bytes s → Cut s list c left → c.answer ≡ 4 ↔ TightCut s (length list)
cut_tight s list c left bs a = rw (cut_told a).0 (tight.cut_tight s (length list) bs)

-- or the row is too short.
pub row_tight : (s row : List ℕ) (c : Cutting) (left : List ℕ) → Bytes s → RowCut s row c left → c.answer ≡ 4 ↔ TightCut s (length row / 8)
row_tight s row c left bs a = rw (row_told a).0 (tight.cut_tight s (length row / 8) bs)

-- ---- the lookup by number

-- A refusal of `nth` is 1, for an input over the limit, or 2, 3, 5, 7 or 8.
pub nth_answers : (s : List ℕ) (k answer place : ℕ) → Nth s k (denied answer place) → NthAnswer s answer
nth_answers s k answer place a = packets.nth_answers s k answer place (sym (nth_told a))

-- What `nth` finds, or why it finds nothing.
pub nth_reasons : (s : List ℕ) (k : ℕ) (f : Found) → Bytes s → Nth s k f → ComesNth s k f
nth_reasons s k f bs a = rw (nth_told a) (why.nth_reasons s k bs)

-- But for 8, it is refused just where a field refuses the packet,
pub nth_refused : (s : List ℕ) (k a p : ℕ) (f : Found) → Bytes s → a ≢ 8 → Nth s k f → f ≡ denied a p ↔ RefusedCut s a p
nth_refused s k a p f bs ne b = rw (nth_told b) (go (cut_of s) refl)
  where
    go : (x : PacketCut) → cut_of s ≡ x → found_in x k ≡ denied a p ↔ RefusedCut s a p
    go (stops b q) e = (
      λ z. let f : stops b q ≡ stops a p = rw (same_answer z, same_place z) refl in (cut_refused_exactly s a p bs).0 (e ∙ f),
      λ t. let f = (cut_refused_exactly s a p bs).1 t in cc,
    )
    go (found es n) e = (
      picked (λ g. g ≡ denied a p → RefusedCut s a p) (ltb k (length es)) _ _ (λ h z. let o : ◌≡◌ {A = ℕ} 0 1 = cc in absurd (omega arith))
          (λ h z. absurd (ne (sym (same_answer z)))),
      λ t. let f = (cut_refused_exactly s a p bs).1 t in let z : ◌≡◌ {A = ℕ} 0 1 = cc in absurd (omega arith),
    )

-- with 7 just for version 3,
pub nth_seven : (s : List ℕ) (k : ℕ) (f : Found) → Bytes s → Nth s k f → ((p : ℕ) × (f ≡ denied 7 p)) ↔ (length s ≤ limit.bytes) × Seven s
nth_seven s k f bs a = rw (nth_told a) (why.nth_seven s k bs)

-- at a place inside the packet,
pub nth_inside : (s : List ℕ) (k a p : ℕ) → Bytes s → Nth s k (denied a p) → p ≤ length s
nth_inside s k a p bs c = why.nth_inside s k a p bs (sym (nth_told c))

-- and with 2 for a proper beginning.
pub nth_short : (s q : List ℕ) (k : ℕ) (f : Found) → Cuttable (s ++ q) → 1 ≤ length q → length s ≤ limit.bytes → Nth s k f → (p : ℕ) × (f ≡ denied 2 p)
nth_short s q k f i l h a = rw (nth_told a) (beginnings.nth_beginning s q i.0 i.3 l h k)

-- ---- what the list has

-- what `cut` returned and left is what it comes to
pub listed_is : (s : List ℕ) (list : List Entry) (c : Cutting) (left : List Entry) → Cut s list c left → listed c left ≡ list_of s (length list)
listed_is s list c left a = go (list_of s (length list)) (comes_list s (length list)) (cut_told a).0 (cut_told a).1
  where
    go : (w : Listed) → Outcome.ComesList s (length list) w → c ≡ w.cutting → left ≡ filled w.entries (length list) → listed c left ≡ w
    go w (Outcome.ComesList.not_cut e) f g = rw f refl
    go w (Outcome.ComesList.too_short e h) f g = rw f refl
    go w (Outcome.ComesList.cut {es} e h) f g = rw (f, g, take-append_seam es) refl

-- A longer list changes nothing.
pub cut_wider : (s : List ℕ) (a b x y : List Entry) (c d : Cutting) → Cut s a c x → Cut s b d y → length a ≤ length b → c.answer ≢ 4
    → listed d y ≡ listed c x
cut_wider s a b x y c d e f l ne =
    listed_is s b d y f
    ∙ (cuts.cut_more s (length a) (length b) l (λ z. ne (ap (λ (q : Cutting). q.answer) (cut_told e).0 ∙ z)) ∙ sym (listed_is s a c x e))

-- `cut` is refused where the lengths do not cut the packet exactly, and then where the list is too short; else the list has the entries.
pub cut_reasons : (s : List ℕ) (list : List Entry) (c : Cutting) (left : List Entry) → Bytes s → Cut s list c left → ComesList s (length list) (listed c left)
cut_reasons s list c left bs a = rw (listed_is s list c left a) (why.cut_reasons s (length list) bs)

-- where a cut comes to a refusal
refused : {A : Type 0} (zero : A) (list left : List A) (c : Cutting) (s : List ℕ) (room : ℕ) → c ≡ (list_of s room).cutting
    → (list_of s room ≡ uncut (list_of s room).cutting.answer (list_of s room).cutting.used → left ≡ replicate (length list) zero) → c.answer ≢ 0
    → Uncut zero list c left
refused zero list left c s room t h ne =
    let e = cuts.cut_refused s room λ z. ne (ap (λ (q : Cutting). q.answer) t ∙ z) in
    record {
      count = ap (λ (q : Cutting). q.count) t ∙ ap (λ (x : Listed). x.cutting.count) e;
      zeros = h e;
    }

-- A refused cut counts 0, and leaves a list of zero entries,
pub cut_zeros : CutZeros no_entry Cut
cut_zeros s list c left a =
    refused no_entry list left c s (length list) (cut_told a).0 λ e. (cut_told a).1 ∙ rw e (ap (λ n. replicate n no_entry) (sub-zero (length list)))

-- where the cut into a row comes to one
pub row_uncut : (s row : List ℕ) (c : Cutting) (left : List ℕ) → c ≡ (list_of s (length row / 8)).cutting
    → left ≡ row_of (list_of s (length row / 8)).entries (length row) → c.answer ≢ 0 → Uncut 0 row c left
unfolding numbers_of
row_uncut s row c left e f = refused 0 row left c s (length row / 8) e λ g. f ∙ rw g (ap (λ n. replicate n 0) (sub-zero (length row)))

-- or a row of zeros.
pub row_zeros : CutZeros 0 RowCut
row_zeros s row c left a = row_uncut s row c left (row_told a).0 (row_told a).1

-- ---- the index

-- The answer of `make_index` is one of 0, 1, 4, 5 and 6.
pub index_answers : (i t index : List ℕ) (r : Indexing) (left : List ℕ) → MakeIndex i t index r left → OneOf 0 (1 ∷ 4 ∷ 5 ∷ 6 ∷ []) r.answer
index_answers i t index r left a = rw (index_told a).0 (indexes.index_answers i t (length index))

-- where the making of an index comes to a refusal
pub index_nothing : (i t index : List ℕ) (r : Indexing) (left : List ℕ) → r ≡ indexing (index_of i t (length index)) → Holding i t (length index) left
    → r.answer ≢ 0 → (r.count ≡ 0) × (left ≡ replicate (length index) 0)
index_nothing i t index r left e h ne =
    let n : (index_of i t (length index)).answer ≢ 0 = λ z. ne (ap (λ (x : Indexing). x.answer) e ∙ z) in
    (ap (λ (x : Indexing). x.count) e ∙ ap length (indexes.index_refused i t (length index) n), index_zero i t (length index) left h n)

-- A refused making counts 0, and leaves an index of zeros.
pub index_zeros : (i t index : List ℕ) (r : Indexing) (left : List ℕ) → MakeIndex i t index r left → r.answer ≢ 0
    → (r.count ≡ 0) × (left ≡ replicate (length index) 0)
index_zeros i t index r left a = index_nothing i t index r left (index_told a).0 (index_told a).1
