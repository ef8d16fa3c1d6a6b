-- The theorems on refused readings of values: which field refuses an input, and with what answer.
use Rattle.std.specs.Prelude.{◌+◌, ◌≤◌, ◌<◌, ◌≡◌, ◌≢◌, ◌↔◌, ◌∷◌, ◌++◌}
use Rattle.wire.proofs.Kit.{ℕ, refl, sym, ap, ◌∙◌, List, [], append-nil, append_assoc, arith, length, length-append}
use Rattle.wire.proofs.Kit.{eqb, lit<, eqb-true, eqb-false}
use Rattle.wire.specs.Number.{Bytes}
use Rattle.wire.specs.Limit as limit
use Rattle.wire.proofs.Laws.{picked}
use Rattle.wire.proofs.Stands.{bytes_left}
use Rattle.image.specs.Due.{Stops}
use Rattle.image.specs.Whole.{Whole, accepted, refused}
use Rattle.amf0.specs.Reading.{value, top_value, read_of}
use Rattle.amf0.specs.Standard.{Item, Sort, Tree, depth, Row, Encodes}
use Rattle.amf0_theorems.specs.Refusal.{Field, Bars, Refuses, Leads, RefusedValue, records, Comes}
use Rattle.amf0_theorems.proofs.Call.{call_roomy, call_either}
use Rattle.amf0_theorems.proofs.Refused.{told_stops, left_over, refuse, still_refused}
use Rattle.amf0_theorems.proofs.Bytes.{encoding}
use Rattle.amf0_theorems.proofs.Telling.{reads}
use Rattle.amf0_theorems.proofs.Sound as soundness
use Rattle.amf0_theorems.proofs.Sound.{Found}
use Rattle.amf0_theorems.proofs.Theorems.{unique, room_exact}
use Rattle.amf0_theorems.proofs.Stopped.{value_told}
use Rattle.amf0_theorems.proofs.Refusing.{refused_stops}
use Rattle.amf0_theorems.proofs.Leading.{deep_refused, longer}
use Rattle.image.proofs.Settle.{either, on_case, on_stops, one_stop, ends_not, ended}

-- ---- how a reading ends

-- a call that is refused neither for the limit nor for room
called : (s : List ℕ) (room : ℕ) → length s ≤ limit.bytes → (read_of s room).reading.answer ≢ 4 → read_of s room ≡ ended (top_value s 0) (records s)
called s room h ne = either (length (records s)) room (call_roomy s (top_value s 0) room h) (λ i. absurd (ne ((room_exact s room h).1 i)))

-- ---- the theorems

-- The reading of a value is refused with an answer, at a place, exactly where a field at that place refuses the input with that answer.
pub value_refused : (left : ℕ) (s : List ℕ) (at a p : ℕ) → Bytes s → at ≤ length s → Stops (value left s at) a p ↔ RefusedValue left s at a p
value_refused left s at a p bs l = (told_stops (RefusedValue left s at) (value left s at) a p (value_told left s at bs l), refused_stops left s at a p l)

-- So at most one field refuses an input, with one answer.
pub one_refusal : (left : ℕ) (s : List ℕ) (at a p b q : ℕ) → at ≤ length s → RefusedValue left s at a p → RefusedValue left s at b q → (a ≡ b) × (p ≡ q)
one_refusal left s at a p b q l t u = one_stop (value left s at) (refused_stops left s at a p l t) (refused_stops left s at b q l u)

-- Within the limit, a call that is not refused for room is refused as a field of the input refuses it, at the place of that field.
pub call_refused : (s : List ℕ) (room a p : ℕ) → length s ≤ limit.bytes → (read_of s room).reading.answer ≢ 4 → RefusedValue limit.levels s 0 a p
    → read_of s room ≡ refused a p
call_refused s room a p h i t = called s room h i ∙ on_stops (top_value s 0) a p _ _ (refused_stops limit.levels s 0 a p (omega arith) t)

-- And no call is refused otherwise: it is refused with an answer at a place exactly where a field at that place refuses the input with that answer. (An answer
-- of 0 refuses nothing.)
pub refused_exactly : (s : List ℕ) (room a p : ℕ) → Bytes s → length s ≤ limit.bytes → (read_of s room).reading.answer ≢ 4 → a ≢ 0
    → read_of s room ≡ refused a p ↔ RefusedValue limit.levels s 0 a p
refused_exactly s room a p bs h i some = (
  λ e.
      on_case (λ w. w ≡ refused a p → RefusedValue limit.levels s 0 a p) (top_value s 0) (λ n. accepted n (records s)) refused
      (λ n t g. absurd (some (ap (λ (w : Whole). w.reading.answer) (sym g))))
      (λ b q t g.
      let same : b ≡ a = ap (λ (w : Whole). w.reading.answer) g in
      let there : q ≡ p = ap (λ (w : Whole). w.reading.used) g in
      rw (same, there) at ((value_refused limit.levels s 0 b q bs (omega arith)).0 t))
      (sym (called s room h i) ∙ e),
  call_refused s room a p h i,
)

-- A call is refused for the limit, for the room or by a field of the input, and else the input begins with a value.
pub reasons : (s : List ℕ) (room : ℕ) → Bytes s → Comes s room (read_of s room)
reasons s room bs =
    call_either s (top_value s 0) room (Comes s room) Comes.over_limit (λ h p l. Comes.no_room h l) (λ h i n e. begins n h i (soundness.sound limit.levels s 0 n bs e))
    (λ h i a p t. Comes.not_read h i ((value_refused limit.levels s 0 a p bs (omega arith)).0 t))
  where
    begins : (n : ℕ) → length s ≤ limit.bytes → length (records s) ≤ room → Found Sort.value limit.levels s 0 n → Comes s room (accepted n (records s))
    begins n h i f =
        let e : n ≡ length f.row = omega (arith, f.next) in
        rw e (Comes.read f.rest h i f.encodes f.deep f.here.same)

-- An input that begins with a value within the levels has no field that refuses it.
pub not_refused : (left : ℕ) (t : Tree Sort.value) (x r : List ℕ) (a p : ℕ) → Encodes Sort.value t x → depth t ≤ left → RefusedValue left (x ++ r) 0 a p → ⊥
not_refused left t x r a p e d w =
    ends_not (value left (x ++ r) 0) (0 + length x) a p (reads left (x ++ r) r 0 e (record { same = refl }) d).ends
    (refused_stops left (x ++ r) 0 a p (omega arith) w)

-- So a null alone is refused for no reason.
pub null_not_refused : (a p : ℕ) → RefusedValue limit.levels (0x05 ∷ []) 0 a p → ⊥
null_not_refused a p = not_refused limit.levels (Tree.node Item.null Tree.nil) (0x05 ∷ []) [] a p (Encodes.node Row.null Encodes.nil) (lit< tt)

-- A refusal with an answer other than 2 stands whatever follows the input.
pub steady : (left : ℕ) (s q : List ℕ) (at a p : ℕ) → a ≢ 2 → RefusedValue left s at a p → RefusedValue left (s ++ q) at a p
steady left s q at a p ne t = still_refused q (λ r x f h l. longer q h l) t ne

-- So does a call's refusal with 3 or 5, and its place.
pub read_steady : (s q : List ℕ) (room more a p : ℕ) → Bytes s → length (s ++ q) ≤ limit.bytes → 3 ≤ a → a ≢ 4 → read_of s room ≡ refused a p
    → (read_of (s ++ q) more).reading.answer ≢ 4 → read_of (s ++ q) more ≡ refused a p
read_steady s q room more a p bs h l ne e i =
    let other : (read_of s room).reading.answer ≢ 4 = λ f. ne (sym (ap (λ (w : Whole). w.reading.answer) e) ∙ f) in
    let t = (refused_exactly s room a p bs (omega (arith, length-append s q)) other (λ z. omega arith)).0 e in
    call_refused (s ++ q) more a p h i (steady limit.levels s q 0 a p (λ z. omega arith) t)

-- A proper beginning of a value within the levels is refused with 2.
pub beginning_refused : (left : ℕ) (t : Tree Sort.value) (s r : List ℕ) → Encodes Sort.value t (s ++ r) → 1 ≤ length r → depth t ≤ left
    → (p : ℕ) × RefusedValue left s 0 2 p
beginning_refused left t s r e l d =
    let bs : Bytes s = bytes_left s r (encoding e) in
    let P : Type 0 = (p : ℕ) × RefusedValue left s 0 2 p in
    on_case {A = ℕ} (λ w. P) (value left s 0) (λ n. 0) (λ a p. 0)
    (λ n g. absurd (ends_early n (soundness.sound left s 0 n bs g)))
    (λ a p g.
    let w = (value_refused left s 0 a p bs (omega arith)).0 g in
    picked {A = ℕ} (λ n. P) (eqb a 2) 0 0 (λ c. (p, rw (eqb-true a 2 c) at w))
    (λ c. absurd (not_refused left t (s ++ r) [] a p e d (rw (append-nil (s ++ r)) (steady left s r 0 a p (eqb-false a 2 c) w)))))
  where
    ends_early : (n : ℕ) → Found Sort.value left s 0 n → ⊥
    ends_early n f =
        let same : (s ++ r) ++ [] ≡ f.row ++ (f.rest ++ r) =
        append-nil (s ++ r) ∙ (ap (λ u. u ++ r) f.here.same ∙ append_assoc f.row f.rest r) in
        let all = (unique t f.tree (s ++ r) f.row [] (f.rest ++ r) e f.encodes same).1 in
        omega (arith, ap length all, length-append s r, left_over f.here (omega arith))

-- So a call refuses it with 2, within the limit and where it is not refused for room.
pub beginning : (t : Tree Sort.value) (s r : List ℕ) (room : ℕ) → Encodes Sort.value t (s ++ r) → 1 ≤ length r → depth t ≤ limit.levels
    → length s ≤ limit.bytes → (read_of s room).reading.answer ≢ 4 → (p : ℕ) × (read_of s room ≡ refused 2 p)
beginning t s r room e l d h i = let w = beginning_refused limit.levels t s r e l d in (w.0, call_refused s room 2 w.0 h i w.1)

-- And it refuses an input that begins with a value of the standard's deeper than the limit with 5.
pub read_deep : (t : Tree Sort.value) (x r : List ℕ) (room : ℕ) → Encodes Sort.value t x → limit.levels < depth t → length (x ++ r) ≤ limit.bytes
    → (read_of (x ++ r) room).reading.answer ≢ 4 → (p : ℕ) × (read_of (x ++ r) room ≡ refused 5 p)
read_deep t x r room e d h i =
    let w = deep_refused e (x ++ r) r 0 limit.levels (record { same = refl }) d in
    (w.0, call_refused (x ++ r) room 5 w.0 h i w.1)

-- where so many levels are left at its front, the marker of a value stands at a place of an input where none is left
pub record Deep (left : ℕ) (s : List ℕ) (place : ℕ) : Type 0 where
  pub before : List ℕ
  pub marker : ℕ
  pub rest : List ℕ
  pub stands : s ≡ before ++ (marker ∷ rest)
  pub here : place ≡ length before
  pub leads : Leads (marker ∷ rest) left Sort.value before (Field.marker 0)
  pub marks : Bars marker → ⊥

-- A call that is not refused for room is refused with 5 exactly where the marker of a value stands where no level is left, at the place of that marker.
pub deep_exactly : (s : List ℕ) (room p : ℕ) → Bytes s → length s ≤ limit.bytes → (read_of s room).reading.answer ≢ 4
    → read_of s room ≡ refused 5 p ↔ Deep limit.levels s p
deep_exactly s room p bs h i = (
  λ e. let w = (refused_exactly s room 5 p bs h i (λ z. omega arith)).0 e in go w.stands w.here w.leads w.refuses,
  λ d. call_refused s room 5 p h i
      (refuse {r = d.marker ∷ d.rest} (record { same = d.stands }) (omega (arith, d.here)) d.leads (Refuses.too_deep d.marks)),
)
  where
    go : {x r : List ℕ} {f : Field} → s ≡ x ++ r → p ≡ 0 + length x → Leads r limit.levels Sort.value x f → Refuses f r 5 → Deep limit.levels s p
    go {x} e g l (Refuses.too_deep {m} {r} d) = record { before = x; marker = m; rest = r; stands = e; here = omega (arith, g); leads = l; marks = d }
