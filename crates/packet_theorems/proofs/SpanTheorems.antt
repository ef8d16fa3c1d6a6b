-- The theorems on the reading of a part of a packet, over what it comes to.
use Rattle.std.specs.Prelude.{◌+◌, ◌≤◌, ◌≡◌, ◌≢◌, ◌⊎◌}
use Rattle.wire.proofs.Kit.{ℕ, refl, inl, inr, List, arith, length}
use Rattle.wire.specs.Limit as limit
use Rattle.wire.specs.Field.{bytes_at}
use Rattle.image.specs.Whole.{refused}
use Rattle.amf0.specs.Reading.{read_of}
use Rattle.amf0.specs.Span.{span_at, one_value, Judged}
use Rattle.amf0_theorems.proofs.Call.{value_sober}
use Rattle.amf0_theorems.proofs.Spans.{answer_known, answer_refused, value_inside, value_judged}
use Rattle.packet.specs.Entry.{read_span}
use Rattle.packet.proofs.Laws.{span_read}
use Rattle.packet_theorems.proofs.Outcome.{span_either}

-- A part of a packet answers as the value reader does on those bytes alone, places shifted: refusals for room or depth stand, and anything malformed, short or
-- not used to the end is damaged.
pub span_judged : (s : List ℕ) (place n room : ℕ) → length s ≤ limit.bytes → place + n ≤ length s
    → Judged place (bytes_at n s place) (read_of (bytes_at n s place) room) (read_span s place n room)
span_judged s place n room h i = rw (span_read s (span_at place n) room h i) (value_judged s (span_at place n) room h i)

-- The answer is one of 0, 1, 4, 5, 8 and 9.
pub span_answers : (s : List ℕ) (place n room : ℕ)
    → let a = (read_span s place n room).reading.answer in (a ≡ 0) ⊎ ((a ≡ 1) ⊎ ((a ≡ 4) ⊎ ((a ≡ 5) ⊎ ((a ≡ 8) ⊎ (a ≡ 9)))))
span_answers s place n room =
    let P : ℕ → Type 0 = λ a. (a ≡ 0) ⊎ ((a ≡ 1) ⊎ ((a ≡ 4) ⊎ ((a ≡ 5) ⊎ ((a ≡ 8) ⊎ (a ≡ 9))))) in
    span_either (λ w. P w.reading.answer) s place n room (λ h. inr (inl refl)) (λ h i. inr (inr (inr (inr (inl refl))))) λ h i.
    answer_known one_value s (span_at place n) i (value_sober _) room P (inl refl) (inr (inr (inl refl))) (inr (inr (inr (inl refl))))
    (inr (inr (inr (inr (inr refl)))))

-- A refused call returns a place for the bytes used, makes none, and has no byte of an image.
pub span_refused : (s : List ℕ) (place n room : ℕ) → (read_span s place n room).reading.answer ≢ 0
    → read_span s place n room ≡ refused (read_span s place n room).reading.answer (read_span s place n room).reading.used
span_refused s place n room =
    span_either (λ w. w.reading.answer ≢ 0 → w ≡ refused w.reading.answer w.reading.used) s place n room (λ h ne. refl) (λ h i ne. refl) λ h i.
    answer_refused one_value s (span_at place n) i (value_sober _) room

-- The bytes used, or the place of a refusal, are inside the packet.
pub span_inside : (s : List ℕ) (place n room : ℕ) → (read_span s place n room).reading.used ≤ length s
span_inside s place n room =
    span_either (λ w. w.reading.used ≤ length s) s place n room (λ h. omega arith) (λ h i. omega arith) λ h i. value_inside s (span_at place n) room i
