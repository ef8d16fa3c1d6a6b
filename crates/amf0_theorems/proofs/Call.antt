-- A call that settles a reading of an input in a room, the input within the limit: what it comes to, whatever it reads.
use Rattle.std.specs.Prelude.{◌*◌, ◌≤◌, ◌<◌, ◌≡◌, ◌≢◌, ◌↔◌}
use Rattle.wire.proofs.Kit.{ℕ, zero, suc, refl, ap, ◌∙◌, List, arith, length, leb, leb-true, leb-false}
use Rattle.wire.specs.Choice.{pick}
use Rattle.wire.specs.Limit as limit
use Rattle.wire.proofs.Laws.{picked, pick_yes, pick_no}
use Rattle.image.specs.Due.{Due, Ends, Stops, Lacks}
use Rattle.image.specs.Whole.{Whole, bytes, accepted, refused, settled}
use Rattle.image.proofs.Kept.{ends_kept, stops_kept, small, due_inside}
use Rattle.image.proofs.Settle.{either, on_case, ended, lacks_over, over_lacks, due_lacks, settled_fits, settled_lacks, answer_of_lem, used_of}
use Rattle.amf0.specs.Span.{Fault, Sober, one_value}
use Rattle.amf0.proofs.Reasons.{Named, kept}

-- a reading in a room has no room, or ends, or is refused
pub settled_either : (P : Whole → Type 0) (d : Due) (room : ℕ) → ((p : ℕ) → Lacks d 0 room p → P (refused 4 p))
    → (length (bytes d) ≤ room → (n : ℕ) → Ends d n → P (accepted n (bytes d)))
    → (length (bytes d) ≤ room → (a p : ℕ) → Stops d a p → P (refused a p)) → P (settled d room)
settled_either P d room f g h =
    either (length (bytes d)) room (λ l. rw (settled_fits d room l) (on_case P d _ _ (g l) (h l)))
    (λ l. let x = over_lacks d 0 room (omega arith) (omega arith) in rw (settled_lacks d room x.1) (f x.0 x.1))

-- ---- the value reader

fault : (a : ℕ) → Named a → Fault a
fault zero m = absurd (omega arith)
fault (suc zero) m = absurd (omega arith)
fault (suc (suc zero)) m = Fault.short
fault (suc (suc (suc zero))) m = Fault.malformed
fault (suc (suc (suc (suc zero)))) m = absurd (m.other refl)
fault (suc (suc (suc (suc (suc zero))))) m = Fault.too_deep
fault (suc (suc (suc (suc (suc (suc a)))))) m = absurd (omega arith)

-- it is sober
pub value_sober : (x : List ℕ) → Sober x (one_value x)
value_sober x =
    let k = kept limit.levels x 0 (omega arith) in
    record { within = λ n e. (ends_kept Named x 0 n (one_value x) k e).1; faults = λ a p t. fault a (stops_kept Named x 0 a p (one_value x) k t).0 }

-- ---- the call

-- a reading that ends inside its input, is refused at a place inside it, by a field with another answer than 1 and 4, and makes at most three bytes for each of
-- the input
pub record Bounded (s : List ℕ) (d : Due) : Type 0 where
  pub within : (n : ℕ) → Ends d n → n ≤ length s
  pub low : (a p : ℕ) → Stops d a p → 2 ≤ a
  pub other : (a p : ℕ) → Stops d a p → a ≢ 4
  pub small : length (bytes d) ≤ 3 * length s
  pub inside : (a p : ℕ) → Stops d a p → p ≤ length s
  pub due_at_lem : (room p : ℕ) → Lacks d 0 room p → p ≤ length s

pub value_bounded : (s : List ℕ) → Bounded s (one_value s)
value_bounded s =
    let v = value_sober s in
    let k = kept limit.levels s 0 (omega arith) in
    record {
      within = v.within;
      low = λ a p t. low (v.faults a p t);
      other = λ a p t. other (v.faults a p t);
      small = omega (arith, small Named s 0 (one_value s) k);
      inside = λ a p t. (stops_kept Named s 0 a p (one_value s) k t).1;
      due_at_lem = λ room p l. (due_lacks (λ r q. q ≤ length s) (one_value s) 0 room p (due_inside Named s 0 (one_value s) k) l).1;
    }
  where
    low : {a : ℕ} → Fault a → 2 ≤ a
    low Fault.short = omega arith
    low Fault.malformed = omega arith
    low Fault.too_deep = omega arith

    other : {a : ℕ} → Fault a → a ≢ 4
    other Fault.short = λ e. omega arith
    other Fault.malformed = λ e. omega arith
    other Fault.too_deep = λ e. omega arith

abbrev pub call_of : List ℕ → Due → ℕ → Whole
call_of s d room = pick (leb (length s) limit.bytes) (settled d room) (refused 1 0)

-- an acceptance of n bytes: within the limit and the room, and the image is that of what was found
pub record Taken (s : List ℕ) (d : Due) (room n : ℕ) (w : Whole) : Type 0 where
  pub small : length s ≤ limit.bytes
  pub fits : length (bytes d) ≤ room
  pub within : n ≤ length s
  pub ends : Ends d n
  pub result : w ≡ accepted n (bytes d)

module _ (s : List ℕ) (d : Due) (room : ℕ) where
  -- in a room that is large enough
  pub call_roomy : length s ≤ limit.bytes → length (bytes d) ≤ room → call_of s d room ≡ ended d (bytes d)
  call_roomy h i = pick_yes (length s) limit.bytes _ _ h ∙ settled_fits d room i

  -- and in one that is too small
  pub call_tight : {p : ℕ} → length s ≤ limit.bytes → Lacks d 0 room p → call_of s d room ≡ refused 4 p
  call_tight h i = pick_yes (length s) limit.bytes _ _ h ∙ settled_lacks d room i

  -- the ways in which it can end
  pub call_either : (P : Whole → Type 0) → (limit.bytes < length s → P (refused 1 0))
      → (length s ≤ limit.bytes → (p : ℕ) → Lacks d 0 room p → P (refused 4 p))
      → (length s ≤ limit.bytes → length (bytes d) ≤ room → (n : ℕ) → Ends d n → P (accepted n (bytes d)))
      → (length s ≤ limit.bytes → length (bytes d) ≤ room → (a p : ℕ) → Stops d a p → P (refused a p)) → P (call_of s d room)
  call_either P over small good wrong =
      picked P (leb (length s) limit.bytes) _ _
      (λ t. let l = leb-true (length s) limit.bytes t in settled_either P d room (small l) (good l) (wrong l)) (λ t. over (leb-false _ _ t))

  -- the answers that it can give
  pub call_answers : (P : ℕ → Type 0) → P 0 → P 1 → P 4 → ((a p : ℕ) → Stops d a p → P a) → P (call_of s d room).reading.answer
  call_answers P none one four f = call_either (λ w. P w.reading.answer) (λ l. one) (λ l p r. four) (λ l r n e. none) (λ l r. f)

  -- a refusal has a place for the bytes used, makes none, and has no byte of an image
  pub call_refused : (call_of s d room).reading.answer ≢ 0 → call_of s d room ≡ refused (call_of s d room).reading.answer (call_of s d room).reading.used
  call_refused = call_either (λ w. w.reading.answer ≢ 0 → w ≡ refused w.reading.answer w.reading.used)
      (λ l ne. refl) (λ l p r ne. refl) (λ l r n e ne. absurd (ne refl)) (λ l r a p t ne. refl)

  module _ (b : Bounded s d) where
    -- it is 1 exactly where the input is over the limit
    pub call_over_limit : (call_of s d room).reading.answer ≡ 1 ↔ limit.bytes < length s
    call_over_limit = (
      call_either (λ w. w.reading.answer ≡ 1 → limit.bytes < length s)
          (λ l e. l) (λ l p r e. absurd (omega arith)) (λ l r n f e. absurd (omega arith)) (λ l r a p t e. absurd (omega (arith, b.low a p t))),
      λ l. ap (λ (w : Whole). w.reading.answer) (pick_no (length s) limit.bytes _ _ l),
    )

    -- and within the limit 4 exactly where the records have more bytes than the room,
    pub call_room_exact : length s ≤ limit.bytes → (call_of s d room).reading.answer ≡ 4 ↔ room < length (bytes d)
    call_room_exact h = (
      call_either (λ w. w.reading.answer ≡ 4 → room < length (bytes d))
          (λ l e. absurd (omega arith)) (λ l p r e. omega (arith, lacks_over d 0 room p r)) (λ l r n f e. absurd (omega arith)) (λ l r a p t e. absurd (b.other a p t e)),
      λ r. ap (λ (w : Whole). w.reading.answer) (call_tight h (over_lacks d 0 room (omega arith) (omega arith)).1),
    )

    -- at the place of the first record that has none,
    pub call_room_place : (p : ℕ) → length s ≤ limit.bytes → call_of s d room ≡ refused 4 p ↔ Lacks d 0 room p
    call_room_place p h = (
      call_either (λ w. w ≡ refused 4 p → Lacks d 0 room p)
          (λ l e. absurd (omega (arith, ap answer_of_lem e))) (λ l q r e. rw (ap used_of e) at r) (λ l r n f e. absurd (omega (arith, ap answer_of_lem e)))
          (λ l r a q t e. absurd (b.other a q t (ap answer_of_lem e))),
      call_tight h,
    )

    -- so not in a room of three bytes for each of the input
    pub call_room : 3 * length s ≤ room → (call_of s d room).reading.answer ≢ 4
    call_room h = call_either (λ w. w.reading.answer ≢ 4)
        (λ l e. omega arith) (λ l p r e. omega (arith, b.small, lacks_over d 0 room p r)) (λ l r n f e. omega arith) (λ l r. b.other)

    -- the bytes used, or the place that it is refused at, are inside the input
    pub call_inside : (call_of s d room).reading.used ≤ length s
    call_inside = call_either (λ w. w.reading.used ≤ length s)
        (λ l. omega arith) (λ l p r. b.due_at_lem room p r) (λ l r n e. b.within n e) (λ l r a p t. b.inside a p t)

    -- what it accepts ends inside the input
    pub call_takes : (call_of s d room).reading.answer ≡ 0 → Taken s d room (call_of s d room).reading.used (call_of s d room)
    call_takes = call_either (λ w. w.reading.answer ≡ 0 → Taken s d room w.reading.used w)
        (λ l e. absurd (omega arith)) (λ l p r e. absurd (omega arith))
        (λ l r n f e. record { small = l; fits = r; within = b.within n f; ends = f; result = refl }) (λ l r a p t e. absurd (omega (arith, b.low a p t)))
