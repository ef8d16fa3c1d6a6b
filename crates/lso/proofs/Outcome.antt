-- What the public calls come to, from how their readings end.
use Rattle.std.specs.Prelude.{◌*◌, ◌≤◌, ◌<◌, ◌≡◌, ◌≢◌, ◌++◌}
use Rattle.wire.proofs.Kit.{ℕ, sym, ap, ◌∙◌, inl, inr, List, [], arith, length, length-append, leb, eqb, leb-true}
use Rattle.wire.proofs.Kit.{leb-false, eqb-true, eqb-false, eq-eqb, ne_eqb}
use Rattle.wire.specs.Limit as limit
use Rattle.wire.proofs.Laws.{picked, pick_yes}
use Rattle.image.specs.Due.{Ends, Stops, Lacks}
use Rattle.image.specs.Whole.{Whole, bytes, accepted, refused}
use Rattle.image.proofs.Settle.{either, on_case, on_ends, on_stops, over_lacks, in_room_fits, in_room_lacks, all_refused, all_left, all_used}
use Rattle.amf0.proofs.Reasons.{Named}
use Rattle.lso.specs.Reading.{header_at, element_at, Body, body_at, kept, halted, ever_due, incomplete_of, whole_of}
use Rattle.lso.proofs.Stands.{Either}
use Rattle.lso.proofs.Body.{field_named, header_ends, header_stops, behind}
use Rattle.lso.proofs.Settle.{ever_bytes, ever_stops}

five : {a : ℕ} → Named a → a ≢ 2 → a ≢ 3 → 5 ≡ a
five n f g = omega (arith, n.low, n.high, n.other)

-- What the incomplete reading can come to in a room, and when: over the limit, without a header, without room, with a value too deep, or accepted.
pub incomplete_cases : (s : List ℕ) (room : ℕ) (P : Whole → Type 0) → (limit.bytes < length s → P (refused 1 0))
    → (length s ≤ limit.bytes → (a q : ℕ) → Stops (header_at s) a q → Either a → P (refused a q))
    → (length s ≤ limit.bytes → (p : ℕ) → Ends (header_at s) p → (q : ℕ) → Lacks (ever_due s p) 0 room q → P (refused 4 q))
    → (length s ≤ limit.bytes → (p : ℕ) → Ends (header_at s) p → length (bytes (ever_due s p)) ≤ room → (q : ℕ)
    → Stops (element_at s (body_at s (length s) p).at) 5 q → P (refused 5 q))
    → (length s ≤ limit.bytes → (p : ℕ) → Ends (header_at s) p → length (bytes (ever_due s p)) ≤ room → (a q : ℕ) → Either a
    → Stops (element_at s (body_at s (length s) p).at) a q
    → P (accepted (body_at s (length s) p).at (bytes (header_at s) ++ kept (body_at s (length s) p).elements)))
    → P (incomplete_of s room)
unfolding incomplete_of
incomplete_cases s room P over no_header no_room deep read =
    picked P (leb (length s) limit.bytes) _ _
    (λ h.
    let l : length s ≤ limit.bytes = leb-true _ _ h in
    on_case P (header_at s) _ _
    (λ p e.
    let t = behind s p e in
    let b : Body = body_at s (length s) p in
    either (length (bytes (ever_due s p))) room
    (λ r.
    let a : ℕ = t.answer in
    let q : ℕ = t.place in
    rw (in_room_fits accepted (λ c w. halted c w (accepted b.at (bytes (header_at s) ++ kept b.elements))) room [] (ever_due s p) (omega arith), on_stops (ever_due s p) a q _ _ (ever_stops s p e a q (rw t.tried t.stopped)))
    (picked P (eqb a 2) _ _ (λ x. read l p e r a q (inl (eqb-true a 2 x)) t.stopped)
    (λ x. picked P (eqb a 3) _ _ (λ y. read l p e r a q (inr (eqb-true a 3 y)) t.stopped)
    (λ y.
    let v = five t.known (eqb-false a 2 x) (eqb-false a 3 y) in
    rw (sym v) (deep l p e r q (rw (sym v) at t.stopped))))))
    (λ f.
    let x = over_lacks (ever_due s p) 0 room (omega arith) (omega arith) in
    rw (in_room_lacks accepted (λ c w. halted c w (accepted b.at (bytes (header_at s) ++ kept b.elements))) room [] (ever_due s p) x.1) (no_room l p e x.0 x.1)))
    (λ a q e. no_header l a q e (header_stops s a q e).0))
    (λ h. over (leb-false _ _ h))

module _ (s : List ℕ) (p : ℕ) (e : Ends (header_at s) p) where
  -- three bytes for each byte of the input are room enough
  pub thrice : length (bytes (ever_due s p)) ≤ 3 * length s
  thrice =
      let b : Body = body_at s (length s) p in
      omega (arith, (behind s p e).small, (header_ends s p e).small, ap length (ever_bytes s p e), length-append (bytes (header_at s)) (kept b.elements ++ bytes b.tried))

  -- the call in a room that is large enough
  pub roomy : (room a q : ℕ) → length s ≤ limit.bytes → length (bytes (ever_due s p)) ≤ room → Stops (element_at s (body_at s (length s) p).at) a q
      → incomplete_of s room ≡ halted a q (accepted (body_at s (length s) p).at (bytes (header_at s) ++ kept (body_at s (length s) p).elements))
  unfolding incomplete_of
  roomy room a q l r f =
      pick_yes (length s) limit.bytes _ _ l ∙ on_ends (header_at s) p _ _ e ∙ in_room_fits accepted _ room [] (ever_due s p) (omega arith)
      ∙ on_stops (ever_due s p) a q _ _ (ever_stops s p e a q (rw (behind s p e).tried f))

-- 2 and 3 only end the body
pub halted_either : {a : ℕ} (p : ℕ) (w : Whole) → Either a → halted a p w ≡ w
halted_either {a} p w (inl x) = rw (eq-eqb a 2 x)
halted_either {a} p w (inr x) = let y : a ≢ 2 = λ z. omega arith in rw (ne_eqb a 2 y, eq-eqb a 3 x)

-- ---- the whole reading

module _ (s : List ℕ) (room : ℕ) where
  -- what is accepted has laid a record, so that a refusal has another answer than 0
  some : (a p : ℕ) → refused a p ≡ incomplete_of s room → a ≢ 0
  some a p =
      let answer : Whole → ℕ = λ w. w.reading.answer in
      incomplete_cases s room (λ w. refused a p ≡ w → a ≢ 0) (λ i e z. omega (arith, ap answer e)) (λ i b q f n e z. omega (arith, (field_named n).low, ap answer e))
      (λ i p f q j e z. omega (arith, ap answer e)) (λ i p f j q g e z. omega (arith, ap answer e))
      (λ i p f j b q x g e z.
      omega (arith, ap (λ (w : Whole). w.reading.made) e, (header_ends s p f).some, length-append (bytes (header_at s)) (kept (body_at s (length s) p).elements)))

  pub whole_refused : (a p : ℕ) → refused a p ≡ incomplete_of s room → refused a p ≡ whole_of s room
  unfolding whole_of
  whole_refused a p e = sym (rw (← e) (all_refused s a p (some a p e)))

  pub whole_left : (w : Whole) → w ≡ incomplete_of s room → w.reading.answer ≡ 0 → w.reading.used < length s → refused 3 w.reading.used ≡ whole_of s room
  unfolding whole_of
  whole_left w e a l = sym (rw (← e) (all_left s w a l))

  pub whole_used : (w : Whole) → w ≡ incomplete_of s room → w.reading.answer ≡ 0 → length s ≤ w.reading.used → w ≡ whole_of s room
  unfolding whole_of
  whole_used w e a l = sym (rw (← e) (all_used s w a l))
