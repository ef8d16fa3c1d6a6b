-- Nothing but places has moved: without its place, a reading and a cut come to what they came to before a refusal had one.
use Rattle.std.specs.Prelude.{◌≤◌, ◌≡◌, ◌≢◌, ◌+◌, ◌++◌}
use Rattle.wire.proofs.Kit.{ℕ, refl, sym, ap, ◌∙◌, List, Bool, true, false, arith, length, get_or, leb, ltb, eqb}
use Rattle.wire.proofs.Kit.{eq-eqb, ne_eqb, inl, inr, ⊎_elim}
use Rattle.wire.specs.Choice.{pick}
use Rattle.wire.specs.Limit as limit
use Rattle.wire.specs.Text.{inside_of}
use Rattle.wire.proofs.Laws.{pick_yes, pick_no}
use Rattle.image.specs.Due.{Due, Ends, Stops}
use Rattle.image.specs.Whole.{Whole, bytes, accepted}
use Rattle.image.specs.Whole as now
use Rattle.image.proofs.Settle.{on_ends, on_stops, lacks_over}
use Rattle.amf0.specs.Reading.{top_value, read_of}
use Rattle.amf0.specs.Span.{Span, span_at, held, Fault, in_span, one_value}
use Rattle.amf0.specs.Span as amf0
use Rattle.amf0_theorems.proofs.Call.{settled_either, value_sober, value_bounded}
use Rattle.amf0_theorems.proofs.Spans.{based_sober}
use Rattle.lso.specs.Reading as lso
use Rattle.lso.proofs.Stands.{Either}
use Rattle.lso.proofs.Body.{behind}
use Rattle.lso.proofs.Settle.{ever_bytes}
use Rattle.lso.proofs.Outcome.{incomplete_cases}
use Rattle.packet.specs.Reading as packet
use Rattle.packet.specs.Entry.{Cut, found, stops, cut_of, no_entry, span, read_span, read_entry}
use Rattle.packet.specs.Entry as entry
use Rattle.packet.proofs.Laws.{Splits, cut_told}
use Rattle.packet_theorems.proofs.Outcome.{packet_bounded}
use Rattle.demands.specs.Before as then
use Rattle.demands.specs.Before.{refused, unplaced}

-- a refusal without its place
gone : (a p : ℕ) → a ≢ 0 → unplaced (now.refused a p) ≡ refused a
gone a p h = rw (ne_eqb a 0 h)

-- a reading in a room, no refusal of which has the answer 0
settled : (d : Due) (room : ℕ) → ((a p : ℕ) → Stops d a p → a ≢ 0) → unplaced (now.settled d room) ≡ then.settled d room
settled d room some =
    settled_either (λ w. unplaced w ≡ then.settled d room) d room
    (λ p l. sym (pick_no (length (bytes d)) room _ _ (omega (arith, lacks_over d 0 room p l))))
    (λ l n e. sym (pick_yes (length (bytes d)) room _ _ l ∙ on_ends d n _ _ e))
    (λ l a p t. gone a p (some a p t) ∙ sym (pick_yes (length (bytes d)) room _ _ l ∙ on_stops d a p _ _ t))

-- a test before a reading
tested : (t : Bool) (v w : Whole) (a : ℕ) → a ≢ 0 → unplaced v ≡ w → unplaced (pick t v (now.refused a 0)) ≡ pick t w (refused a)
tested true v w a some e = e
tested false v w a some e = gone a 0 some

-- an input that has to be used to its end
all : (s : List ℕ) (w v : Whole) → unplaced w ≡ v → unplaced (now.all s w) ≡ then.all s v
all s w v e = rw (← e) (go (eqb w.reading.answer 0) refl)
  where
    used : (t : Bool) → eqb w.reading.answer 0 ≡ true
        → unplaced (pick t w (now.refused 3 w.reading.used)) ≡ pick t w (refused 3)
    used true z = rw z
    used false z = refl

    go : (t : Bool) → eqb w.reading.answer 0 ≡ t → unplaced (now.all s w) ≡ then.all s (unplaced w)
    go true z = rw (z, z) (used (leb (length s) w.reading.used) z)
    go false z = rw (z, z)

-- what is judged
judge : (p : Span) (w v : Whole) → unplaced w ≡ v → unplaced (amf0.judge p w) ≡ then.judge p.length v
judge p w v e = rw (← e) (go (eqb w.reading.answer 0) refl)
  where
    used : (t : Bool) → eqb w.reading.answer 0 ≡ true
        → unplaced (pick t w (now.refused 9 (p.place + w.reading.used))) ≡ pick t w (refused 9)
    used true z = rw z
    used false z = refl

    fault : (t u : Bool) → eqb w.reading.answer 0 ≡ false
        → unplaced (pick t (now.refused 9 w.reading.used) (pick u (now.refused 9 w.reading.used) w))
        ≡ pick t (refused 9) (pick u (refused 9) (refused w.reading.answer))
    fault true u z = refl
    fault false true z = refl
    fault false false z = rw z

    go : (t : Bool) → eqb w.reading.answer 0 ≡ t → unplaced (amf0.judge p w) ≡ then.judge p.length (unplaced w)
    go true z = rw (z, z) (used (leb p.length w.reading.used) z)
    go false z = rw (z, z) (fault (eqb w.reading.answer 2) (eqb w.reading.answer 3) z)

-- ---- the calls

-- The reading of a value,
pub value : (s : List ℕ) (room : ℕ) → unplaced (read_of s room) ≡ then.value_of s room
value s room =
    tested (leb (length s) limit.bytes) _ _ 1 (λ z. omega arith)
    (settled (top_value s 0) room λ a p t z. omega (arith, (value_bounded s).low a p t))

-- of a packet,
pub packet_incomplete : (s : List ℕ) (room : ℕ) → unplaced (packet.incomplete_of s room) ≡ then.incomplete_packet s room
unfolding packet.incomplete_of
packet_incomplete s room =
    tested (leb (length s) limit.bytes) _ _ 1 (λ z. omega arith)
    (settled (packet.packet_at s) room λ a p t z. omega (arith, (packet_bounded s).low a p t))

pub packet_whole : (s : List ℕ) (room : ℕ) → unplaced (packet.whole_of s room) ≡ then.whole_packet s room
unfolding packet.whole_of
packet_whole s room = all s (packet.incomplete_of s room) _ (packet_incomplete s room)

-- of a file,
pub file_incomplete : (s : List ℕ) (room : ℕ) → unplaced (lso.incomplete_of s room) ≡ then.incomplete_file s room
file_incomplete s room =
    incomplete_cases s room (λ w. unplaced w ≡ then.incomplete_file s room) (λ l. sym (pick_no (length s) limit.bytes _ _ l))
    (λ l a q e n. gone a q (λ z. ⊎_elim (λ y. omega arith) (λ y. omega arith) n) ∙ sym (pick_yes (length s) limit.bytes _ _ l ∙ on_stops (lso.header_at s) a q _ _ e))
    (λ l p e q j.
    let b : lso.Body = lso.body_at s (length s) p in
    let x : List ℕ = bytes (lso.header_at s) ++ (lso.kept b.elements ++ bytes b.tried) in
    sym (begun l p e ∙ pick_no (length x) room _ _ (omega (arith, lacks_over (lso.ever_due s p) 0 room q j, ap length (ever_bytes s p e)))))
    (λ l p e j q t. sym (begun l p e ∙ fits p e j 5 q t))
    (λ l p e j a q x t. sym (begun l p e ∙ (fits p e j a q t ∙ halted a _ x)))
  where
    begun : length s ≤ limit.bytes → (p : ℕ) → Ends (lso.header_at s) p
        → then.incomplete_file s room ≡ then.settle_file (bytes (lso.header_at s)) (lso.body_at s (length s) p) room
    begun l p e = pick_yes (length s) limit.bytes _ _ l ∙ on_ends (lso.header_at s) p _ _ e

    fits : (p : ℕ) → Ends (lso.header_at s) p → length (bytes (lso.ever_due s p)) ≤ room → (a q : ℕ)
        → Stops (lso.element_at s (lso.body_at s (length s) p).at) a q → let b = lso.body_at s (length s) p in
        then.settle_file (bytes (lso.header_at s)) b room ≡ then.halted a (accepted b.at (bytes (lso.header_at s) ++ lso.kept b.elements))
    fits p e j a q t =
        let b : lso.Body = lso.body_at s (length s) p in
        let x : List ℕ = bytes (lso.header_at s) ++ (lso.kept b.elements ++ bytes b.tried) in
        pick_yes (length x) room _ _ (omega (arith, ap length (ever_bytes s p e))) ∙ on_stops b.tried a q _ _ (rw (behind s p e).tried t)

    halted : (a : ℕ) (w : Whole) → Either a → then.halted a w ≡ w
    halted a w (inl x) = rw (eq-eqb a 2 x)
    halted a w (inr x) = let y : a ≢ 2 = λ z. omega arith in rw (ne_eqb a 2 y, eq-eqb a 3 x)

pub file_whole : (s : List ℕ) (room : ℕ) → unplaced (lso.whole_of s room) ≡ then.whole_file s room
unfolding lso.whole_of
file_whole s room = all s (lso.incomplete_of s room) _ (file_incomplete s room)

-- of a part of a packet,
answer : (s : List ℕ) (p : Span) (room : ℕ) → unplaced (amf0.answer_of one_value s p room) ≡ then.answer_of s p room
answer s p room =
    judge p (now.settled (in_span one_value s p) room) _
    (settled (in_span one_value s p) room λ a q t z. some ((based_sober p.place (value_sober (held s p))).faults a q t) z)
  where
    some : {a : ℕ} → Fault a → a ≢ 0
    some Fault.short z = omega arith
    some Fault.malformed z = omega arith
    some Fault.too_deep z = omega arith

pub part : (s : List ℕ) (place n room : ℕ) → unplaced (read_span s place n room) ≡ then.span_of s place n room
unfolding read_span
part s place n room =
    tested (leb (length s) limit.bytes) _ _ 1 (λ z. omega arith)
    (tested (inside_of s place n) _ _ 8 (λ z. omega arith) (answer s (span_at place n) room))

-- and of an entry comes to what it came to, but for the place;
pub one_entry : (s : List ℕ) (number room : ℕ) → unplaced (read_entry s number room) ≡ then.entry_of s number room
unfolding read_entry
one_entry s number room = go (cut_of s) (cut_told s)
  where
    go : (x : Cut) → Splits s x → unplaced (entry.entry_in s x number room) ≡ then.entry_in s x number room
    go (stops a p) h = gone a p (λ z. omega (arith, h.cuts.low))
    go (found es z) h = tested (ltb number (length es)) _ _ 8 (λ y. omega arith) (answer s (span (get_or es number no_entry)) room)

-- and so does the cut.
pub cut : (s : List ℕ) (room : ℕ) → then.list_unplaced (entry.list_of s room) ≡ then.list_of s room
unfolding entry.list_of
cut s room = go (cut_of s) (cut_told s)
  where
    go : (x : Cut) → Splits s x → then.list_unplaced (entry.listed x room) ≡ then.listed x room
    go (stops a p) h = rw (ne_eqb a 0 λ z. omega (arith, h.cuts.low))
    go (found es z) h = fit (leb (length es) room)
      where
        fit : (t : Bool)
            → then.list_unplaced (pick t (record { cutting = record { answer = 0; used = z; count = length es }; entries = es }) (entry.uncut 4 0))
            ≡ pick t (record { cutting = record { answer = 0; used = z; count = length es }; entries = es }) (then.uncut 4)
        fit true = refl
        fit false = refl
