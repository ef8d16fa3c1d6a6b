-- Demand 1: when a room is too small.
use Rattle.std.specs.Prelude.{◌*◌, ◌≤◌, ◌≡◌, ◌≢◌, ◌↔◌, ◌∷◌, ◌++◌, Ok}
use Rattle.wire.proofs.Kit.{ℕ, refl, sym, ap, ◌∙◌, ⊎_elim, List, [], arith, length}
use Rattle.wire.specs.Number.{Bytes}
use Rattle.wire.specs.Limit as limit
use Rattle.image.specs.declared.reading.Reading.{Reading}
use Rattle.image.specs.Whole.{Whole, refused}
use Rattle.image.proofs.Settle.{lacks_over, answer_of_lem, used_of}
use Rattle.lso.specs.Reading as lso
use Rattle.lso_theorems.specs.Refusal.{Comes, ComesWhole}
use Rattle.lso_theorems.proofs.Refusals.{header_either}
use Rattle.lso_theorems.proofs.Theorems as files
use Rattle.lso_theorems.proofs.Reasons as files_why
use Rattle.packet.specs.declared.head.Entry.{Entry}
use Rattle.packet.specs.Entry.{list_of}
use Rattle.packet_theorems.specs.Cuts.{Slice, entries_of, Each}
use Rattle.packet_theorems.proofs.Theorems as calls
use Rattle.packet_theorems.proofs.CutTheorems as cuts
use Rattle.packet_theorems.proofs.CutExactly.{cut_complete, cut_sound}
use Rattle.demands.specs.Inputs.{TightFile, FullFile, TightCut}
use Rattle.demands.proofs.Calls.{ParseEntry, ParseSpan, Nth}
use Rattle.demands.proofs.Told.{entry_reads, span_reads, nth_told}

-- ---- files

-- an incomplete reading that comes to 4 has a header, and no room for what falls due;
four : {s : List ℕ} {room : ℕ} {w : Whole} → Comes s room w → w.reading.answer ≡ 4 → TightFile s room
four (Comes.over_limit h) z = absurd (omega arith)
four (Comes.no_header h f) z = absurd (⊎_elim (λ x. omega (arith, z, x)) (λ x. omega (arith, z, x)) (header_either f))
four {s} {room} (Comes.no_room {p} {place} h e l) z = (p, e, omega (arith, lacks_over (lso.ever_due s p) 0 room place l))
four (Comes.too_deep h t) z = absurd (omega arith)
four (Comes.read h f i) z = absurd (omega arith)

-- so has a whole one
four_whole : {s : List ℕ} {room : ℕ} {w : Whole} → ComesWhole s room w → w.reading.answer ≡ 4 → TightFile s room
four_whole (ComesWhole.not_read h c) z = four c z
four_whole (ComesWhole.left_over c h) z = absurd (omega arith)
four_whole (ComesWhole.read c h) z = absurd (omega arith)

-- The whole reading of a file is 4 just there,
pub file_tight : (s : List ℕ) (room : ℕ) → Bytes s → length s ≤ limit.bytes → (lso.whole_of s room).reading.answer ≡ 4 ↔ TightFile s room
file_tight s room bs h = (four_whole (files_why.reasons_whole s room bs), λ t. (files.room_exact_whole s room t.0 h t.1).1 t.2)

-- and so is the incomplete one.
pub file_incomplete_tight : (s : List ℕ) (room : ℕ) → Bytes s → length s ≤ limit.bytes → (lso.incomplete_of s room).reading.answer ≡ 4 ↔ TightFile s room
file_incomplete_tight s room bs h = (four (files_why.reasons_incomplete s room bs), λ t. (files.room_exact_incomplete s room t.0 h t.1).1 t.2)

-- an incomplete reading that comes to 4 at a place has a header, and no room for the record that is due there;
full : {s : List ℕ} {room : ℕ} {w : Whole} (q : ℕ) → Comes s room w → w ≡ refused 4 q → FullFile s room q
full q (Comes.over_limit h) z = absurd (omega (arith, ap answer_of_lem z))
full q (Comes.no_header h f) z = absurd (⊎_elim (λ x. omega (arith, ap answer_of_lem z, x)) (λ x. omega (arith, ap answer_of_lem z, x)) (header_either f))
full q (Comes.no_room {p} {place} h e l) z = (p, e, rw (ap used_of z) at l)
full q (Comes.too_deep h t) z = absurd (omega (arith, ap answer_of_lem z))
full q (Comes.read h f i) z = absurd (omega (arith, ap answer_of_lem z))

-- so has a whole one
full_whole : {s : List ℕ} {room : ℕ} {w : Whole} (q : ℕ) → ComesWhole s room w → w ≡ refused 4 q → FullFile s room q
full_whole q (ComesWhole.not_read h c) z = full q c z
full_whole q (ComesWhole.left_over c h) z = absurd (omega (arith, ap answer_of_lem z))
full_whole q (ComesWhole.read c h) z = absurd (omega (arith, ap answer_of_lem z))

-- The whole reading of a file is 4 at a place just there,
pub file_full : (s : List ℕ) (room q : ℕ) → Bytes s → length s ≤ limit.bytes → lso.whole_of s room ≡ refused 4 q ↔ FullFile s room q
file_full s room q bs h = (full_whole q (files_why.reasons_whole s room bs), λ t. (files.room_place_whole s room t.0 q h t.1).1 t.2)

-- and so is the incomplete one.
pub file_incomplete_full : (s : List ℕ) (room q : ℕ) → Bytes s → length s ≤ limit.bytes → lso.incomplete_of s room ≡ refused 4 q ↔ FullFile s room q
file_incomplete_full s room q bs h = (full q (files_why.reasons_incomplete s room bs), λ t. (files.room_place_incomplete s room t.0 q h t.1).1 t.2)

-- ---- cuts

-- there are as many entries as slices
as_many : (s : List ℕ) (is : List Slice) (es : List Entry) → Each s is es → length is ≡ length es
as_many s [] [] t = refl
as_many s [] (e ∷ es) t = absurd t
as_many s (i ∷ is) [] t = absurd t
as_many s (i ∷ is) (e ∷ es) t = omega (arith, as_many s is es t.1)

-- A cut is 4 just where the lengths cut the packet exactly, into more entries than the list has.
pub cut_tight : (s : List ℕ) (room : ℕ) → Bytes s → (list_of s room).cutting.answer ≡ 4 ↔ TightCut s room
cut_tight s room bs = (
  λ z.
      let (es, e, h) = (cuts.cut_short s room).0 z in
      let c = cut_sound s es (length s) bs e in
      (c.headers, c.messages, c.cuts, c.small, omega (arith, as_many s (c.headers ++ c.messages) es c.each)),
  λ t.
      let f = cut_complete t.0 t.1 s t.3 t.2 in
      (cuts.cut_short s room).1 (entries_of t.0 t.1, f.cut, omega (arith, t.4, as_many s (t.0 ++ t.1) (entries_of t.0 t.1) f.each)),
)

-- ---- room that is enough

-- Three times the bytes of a part of a packet are enough for it,
pub span_roomy : (p n : ℕ) (s i : List ℕ) (r : Reading) (x : List ℕ) → ParseSpan s p n i r x → 3 * n ≤ length i → r.answer ≢ 4
span_roomy p n s i r x a l z =
    calls.span_room s p n (length i) l (sym (ap (λ (q : Reading). q.answer) ((span_reads p n).told s i r x a).returns) ∙ z)

-- and three times those of its value for an entry.
pub entry_roomy : (k : ℕ) (e : Entry) (s i : List ℕ) (r : Reading) (x : List ℕ) → Nth s k (Ok e) → ParseEntry s k i r x → 3 * e.length ≤ length i
    → r.answer ≢ 4
entry_roomy k e s i r x f a l z =
    calls.entry_room s k (length i) e (sym (nth_told f)) l (sym (ap (λ (q : Reading). q.answer) ((entry_reads k).told s i r x a).returns) ∙ z)
