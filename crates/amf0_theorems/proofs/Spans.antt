-- Spans of an input, with no word of what holds them: what a span answers by any sober reader of its bytes, and what a change inside spans leaves as it was.
use Rattle.std.specs.Prelude.{◌+◌, ◌≤◌, ◌<◌, ◌≡◌, ◌≢◌, ◌⊎◌, ◌∷◌, ◌++◌}
use Rattle.wire.proofs.Kit.{ℕ, zero, suc, refl, sym, ap, ◌∙◌, inl, inr, ⊎_elim, List, [], append-nil, map}
use Rattle.wire.proofs.Kit.{arith, add-zero, le_refl, length, get_or, take, drop, length-append, length-take, length-drop, length-take-le}
use Rattle.wire.proofs.Kit.{take-append-drop, drop-append_seam, leb, leb-true, leb-false, le-leb, lt-leb, ap₂, take-length, take-append_seam}
use lib.Seq.{ext_get_or, get_or-take, get_or-drop}
use Rattle.wire.specs.Limit as limit
use Rattle.wire.specs.Number.{Bytes}
use Rattle.wire.specs.Field.{bytes_at}
use Rattle.wire.proofs.Laws.{picked, pick_yes}
use Rattle.wire.proofs.Stands.{Here, bytes_here, length_bytes, stood}
use Rattle.image.specs.Record.{moved, size}
use Rattle.image.specs.Due.{Due, end, stop, seen, due, ◌>>=◌, based, Ends, Stops, Lacks}
use Rattle.image.specs.Whole.{Whole, bytes, accepted, refused, settled}
use Rattle.image.proofs.Settle.{on_ends, on_stops, bytes_bind, settled_fits, settled_lacks}
use Rattle.image.proofs.Laws.{size_bytes, size_placed}
use Rattle.amf0.specs.Reading.{top_value, read_of}
use Rattle.amf0.specs.Shown.{laid}
use Rattle.amf0.specs.Span.{Span, held, Fault, Sober, judge, in_span, answer_of, one_value, Shifted, Judged, Beside, Changed, span_at}
use Rattle.amf0_theorems.proofs.Theorems as amf0
use Rattle.amf0_theorems.proofs.Sound.{bind_ends}
use Rattle.amf0_theorems.proofs.Telling.{records_of, bytes_laid}
use Rattle.amf0_theorems.proofs.Call.{settled_either, value_sober, value_bounded}
use Rattle.amf0_theorems.specs.Refusal.{RefusedValue}
use Rattle.amf0_theorems.specs.Spans.{Value, LeftOver, ComesValue}
use Rattle.amf0_theorems.proofs.Refusals.{value_refused}
use Rattle.amf0_theorems.proofs.Sound as soundness

-- ---- a part's reading, its places counted from the whole's start

pub length_based : (a : ℕ) (d : Due) → length (bytes (based a d)) ≡ length (bytes d)
unfolding bytes
length_based a (end n) = refl
length_based a (stop w p) = refl
length_based a (seen fact d) = length_based a d
length_based a (due r p d) = simp (length-append, size_bytes, size_placed, length_based a d)

bytes_based : (a : ℕ) (d : Due) → bytes (based a d) ≡ laid (map (moved a) (records_of d))
unfolding bytes
bytes_based a (end n) = refl
bytes_based a (stop w p) = refl
bytes_based a (seen fact d) = bytes_based a d
bytes_based a (due r p d) = rw (bytes_based a d)

pub ends_based : (a : ℕ) (d : Due) (n : ℕ) → Ends d n → Ends (based a d) n
ends_based a (end m) n e = e
ends_based a (stop w p) n e = absurd e
ends_based a (seen fact d) n e = ends_based a d n e
ends_based a (due r p d) n e = ends_based a d n e

pub based_ends : (a : ℕ) (d : Due) (n : ℕ) → Ends (based a d) n → Ends d n
based_ends a (end m) n e = e
based_ends a (stop w p) n e = absurd e
based_ends a (seen fact d) n e = based_ends a d n e
based_ends a (due r p d) n e = based_ends a d n e

pub based_stops : (b : ℕ) (d : Due) (a p : ℕ) → Stops (based b d) a p → (q : ℕ) × (p ≡ b + q) × Stops d a q
based_stops b (end n) a p t = absurd t
based_stops b (stop c q) a p t = (q, t.1, (t.0, refl))
based_stops b (seen fact d) a p t = based_stops b d a p t
based_stops b (due r q d) a p t = based_stops b d a p t

pub based_lacks : (b : ℕ) (d : Due) (made room p : ℕ) → Lacks (based b d) made room p → (q : ℕ) × (p ≡ b + q) × Lacks d made room q
unfolding size
based_lacks b (end n) made room p h = absurd h
based_lacks b (stop c q) made room p h = absurd h
based_lacks b (seen fact d) made room p h = based_lacks b d made room p h
based_lacks b (due r w d) made room p h =
    let same = size_placed (λ q. b + q) r in
    ⊎_elim (λ x. (w, x.1, inl (omega (arith, x.0, same), refl)))
    (λ x.
    let g = based_lacks b d (made + size r) room p (rw same at x.1) in
    (g.0, g.1, inr (omega (arith, x.0, same), g.2))) h

pub based_sober : (a : ℕ) {x : List ℕ} {d : Due} → Sober x d → Sober x (based a d)
based_sober a {d = d} r =
    record { within = λ n e. r.within n (based_ends a d n e); faults = λ w p t. let q = based_stops a d w p t in r.faults w q.0 q.2 }

-- ---- what a span answers

-- the bytes of a span that is inside an input
pub held_length : (s : List ℕ) (p : Span) → p.place + p.length ≤ length s → length (held s p) ≡ p.length
held_length s p h = length_bytes p.length s p.place h

-- an acceptance of all bytes of a span
pub record Takes (read : List ℕ → Due) (s : List ℕ) (p : Span) (room : ℕ) (w : Whole) : Type 0 where
  pub ends : Ends (in_span read s p) p.length
  pub fits : length (bytes (in_span read s p)) ≤ room
  pub same : w ≡ accepted p.length (bytes (in_span read s p))

module _ (read : List ℕ → Due) (s : List ℕ) (p : Span) (inside : p.place + p.length ≤ length s) (sober : Sober (held s p) (read (held s p))) (room : ℕ) where
  -- the ways in which the reading of a span can end
  pub answer_either : (P : Whole → Type 0) → let d = in_span read s p in
      ((q : ℕ) → Lacks d 0 room q → P (refused 4 q))
      → (length (bytes d) ≤ room → (q : ℕ) → Stops d 5 q → P (refused 5 q))
      → (length (bytes d) ≤ room → (a q : ℕ) → Stops d a q → (a ≡ 2) ⊎ (a ≡ 3) → P (refused 9 q))
      → (length (bytes d) ≤ room → (n : ℕ) → Ends d n → n < p.length → P (refused 9 (p.place + n)))
      → (length (bytes d) ≤ room → Ends d p.length → P (accepted p.length (bytes d)))
      → P (answer_of read s p room)
  answer_either P small deep wrong left good = settled_either (λ w. P (judge p w)) (in_span read s p) room small
      (λ h n t. picked P (leb p.length n) _ _
      (λ i.
      let g : p.length ≡ n = omega (arith, leb-true p.length n i, held_length s p inside, (based_sober p.place sober).within n t) in
      rw (← g) (good h (rw (← g) at t)))
      (λ i. left h n t (leb-false _ _ i)))
      (λ h a q t. refusal ((based_sober p.place sober).faults a q t) h q t)
    where
      refusal : {a : ℕ} → Fault a → let d = in_span read s p in length (bytes d) ≤ room → (q : ℕ) → Stops d a q → P (judge p (refused a q))
      refusal Fault.short h q t = wrong h 2 q t (inl refl)
      refusal Fault.malformed h q t = wrong h 3 q t (inr refl)
      refusal Fault.too_deep h q t = deep h q t

  -- It is accepted, or refused with 4, 5 or 9,
  pub answer_known : (P : ℕ → Type 0) → P 0 → P 4 → P 5 → P 9 → P (answer_of read s p room).reading.answer
  answer_known P none four five nine =
      answer_either (λ w. P w.reading.answer) (λ q r. four) (λ r q t. five) (λ r a q t k. nine) (λ r n t k. nine) (λ r t. none)

  -- and a refusal has a place for the bytes used, makes none, and has no byte of an image.
  pub answer_refused : (answer_of read s p room).reading.answer ≢ 0
      → answer_of read s p room ≡ refused (answer_of read s p room).reading.answer (answer_of read s p room).reading.used
  answer_refused = answer_either (λ w. w.reading.answer ≢ 0 → w ≡ refused w.reading.answer w.reading.used)
      (λ q r ne. refl) (λ r q t ne. refl) (λ r a q t k ne. refl) (λ r n t k ne. refl) (λ r t ne. absurd (ne refl))

  -- What it accepts uses every byte, and the image is that of those bytes alone, and has room.
  pub answer_takes : (answer_of read s p room).reading.answer ≡ 0 → Takes read s p room (answer_of read s p room)
  answer_takes = answer_either (λ w. w.reading.answer ≡ 0 → Takes read s p room w)
      (λ q r e. absurd (omega arith)) (λ r q t e. absurd (omega arith)) (λ r a q t k e. absurd (omega arith)) (λ r n t k e. absurd (omega arith))
      (λ r t e. record { ends = t; fits = r; same = refl })

-- a span whose reading uses every byte, and has room
pub answer_all : (read : List ℕ → Due) (s : List ℕ) (p : Span) (room : ℕ) → Ends (read (held s p)) p.length → length (bytes (in_span read s p)) ≤ room
    → answer_of read s p room ≡ accepted p.length (bytes (in_span read s p))
answer_all read s p room e h =
    let d = in_span read s p in
    rw (settled_fits d room h, on_ends d p.length (λ n. accepted n (bytes d)) refused (ends_based p.place (read (held s p)) p.length e), le-leb p.length p.length (le_refl p.length))

-- a reading in a room, alone and as that of a part
settled_both : (P : Whole → Whole → Type 0) (a : ℕ) (d : Due) (room : ℕ) → ((q : ℕ) → P (refused 4 q) (refused 4 (a + q)))
    → ((n : ℕ) → Ends d n → P (accepted n (bytes d)) (accepted n (bytes (based a d))))
    → ((w q : ℕ) → Stops d w q → P (refused w q) (refused w (a + q))) → P (settled d room) (settled (based a d) room)
settled_both P a d room f g h =
    settled_either (λ v. P (settled d room) v) (based a d) room (λ p l. let x = based_lacks a d 0 room p l in tight p x.0 x.1 x.2)
    (λ l n e.
    let t = based_ends a d n e in
    rw (settled_fits d room (omega (arith, length_based a d)), on_ends d n (λ m. accepted m (bytes d)) refused t) (g n t))
    (λ l w p t. let x = based_stops a d w p t in wrong l w p x.0 x.1 x.2)
  where
    tight : (p q : ℕ) → p ≡ a + q → Lacks d 0 room q → P (settled d room) (refused 4 p)
    tight p q e l = rw (settled_lacks d room l, e) (f q)

    wrong : length (bytes (based a d)) ≤ room → (w p q : ℕ) → p ≡ a + q → Stops d w q → P (settled d room) (refused w p)
    wrong l w p q e t = rw (settled_fits d room (omega (arith, length_based a d)), on_stops d w q (λ m. accepted m (bytes d)) refused t, e) (h w q t)

module _ (p : Span) (x : List ℕ) where
  -- a refusal
  refusal_judged : (k q : ℕ) → (k ≤ 5) × (k ≢ 1) → k ≢ 0 → Judged p.place x (refused k q) (judge p (refused k (p.place + q)))
  refusal_judged k q known some =
      record {
        known = known;
        accepted = λ e f. absurd (some e);
        unused = λ e f. absurd (some e);
        short = λ e. rw e;
        malformed = λ e. rw e;
        no_room = λ e. rw e;
        too_deep = λ e. rw e;
      }

  fault_judged : {w : ℕ} → Fault w → (q : ℕ) → Judged p.place x (refused w q) (judge p (refused w (p.place + q)))
  fault_judged Fault.short q = refusal_judged 2 q (omega arith, λ e. omega arith) (λ e. omega arith)
  fault_judged Fault.malformed q = refusal_judged 3 q (omega arith, λ e. omega arith) (λ e. omega arith)
  fault_judged Fault.too_deep q = refusal_judged 5 q (omega arith, λ e. omega arith) (λ e. omega arith)

  -- and what is not refused
  taken_judged : (u : ℕ) (b c : List ℕ) → length x ≡ p.length → length c ≡ length b → Shifted p.place b c → u ≤ p.length
      → Judged p.place x (accepted u b) (judge p (accepted u c))
  taken_judged u b c long same shift used =
      record {
        known = (omega arith, λ e. omega arith);
        accepted = λ e f. rw (le-leb p.length u (omega arith), same) (refl, shift);
        unused = λ e f. rw (lt-leb p.length u (omega arith));
        short = λ e. absurd (omega arith);
        malformed = λ e. absurd (omega arith);
        no_room = λ e. absurd (omega arith);
        too_deep = λ e. absurd (omega arith);
      }

  -- what a part of an input answers by a sober reading
  pub judged : (d : Due) (room : ℕ) → length x ≡ p.length → Sober x d → Judged p.place x (settled d room) (judge p (settled (based p.place d) room))
  judged d room long sober =
      settled_both (λ w v. Judged p.place x w (judge p v)) p.place d room
      (λ q. refusal_judged 4 q (omega arith, λ e. omega arith) (λ e. omega arith))
      (λ u e.
      taken_judged u (bytes d) (bytes (based p.place d)) long (length_based p.place d)
      (record { records = records_of d; before = bytes_laid d; after = bytes_based p.place d }) (omega (arith, sober.within u e)))
      (λ w q t. fault_judged (sober.faults w q t) q)

-- the bytes of a span that were used, or the place of its refusal, are inside the input
pub value_inside : (s : List ℕ) (p : Span) (room : ℕ) → p.place + p.length ≤ length s → (answer_of one_value s p room).reading.used ≤ length s
value_inside s p room i =
    let b = value_bounded (held s p) in
    let l = held_length s p i in
    let d : Due = one_value (held s p) in
    answer_either one_value s p i (value_sober (held s p)) room (λ w. w.reading.used ≤ length s)
    (λ q h. let o = based_lacks p.place d 0 room q h in omega (arith, o.1, b.due_at_lem room o.0 o.2))
    (λ r q t. let o = based_stops p.place d 5 q t in omega (arith, o.1, b.inside 5 o.0 o.2))
    (λ r a q t k. let o = based_stops p.place d a q t in omega (arith, o.1, b.inside a o.0 o.2))
    (λ r n t k. omega arith) (λ r t. omega arith)

-- A span answers as the reader does on those bytes alone, places shifted: refusals for room or depth stand, and anything malformed, short or not used to the
-- end is damaged.
pub span_judged : (read : List ℕ → Due) (s : List ℕ) (p : Span) (room : ℕ) → p.place + p.length ≤ length s → Sober (held s p) (read (held s p))
    → Judged p.place (held s p) (settled (read (held s p)) room) (answer_of read s p room)
span_judged read s p room h sober = judged p (held s p) (read (held s p)) room (held_length s p h) sober

-- so does one with a value
pub value_judged : (s : List ℕ) (p : Span) (room : ℕ) → length s ≤ limit.bytes → p.place + p.length ≤ length s
    → Judged p.place (held s p) (read_of (held s p) room) (answer_of one_value s p room)
value_judged s p room l h =
    rw (pick_yes (length (held s p)) limit.bytes _ _ (omega (arith, held_length s p h))) (span_judged one_value s p room h (value_sober (held s p)))

-- ---- items in their order, each with a span

-- where a span ends
abbrev pub past : Span → ℕ
past p = p.place + p.length

module _ {A : Type 0} (span : A → Span) (i : ℕ) where
  pub beside_append : (hs ms : List A) → Beside i (map span hs) → Beside i (map span ms) → Beside i (map span (hs ++ ms))
  beside_append [] ms a b = b
  beside_append (e ∷ hs) ms a b = (a.0, beside_append hs ms a.1 b)

  beside_at : (none : A) (es : List A) (k : ℕ) → Beside i (map span es) → k < length es → Beside i (span (get_or es k none) ∷ [])
  beside_at d [] k b h = absurd (omega arith)
  beside_at d (e ∷ es) zero b h = (b.0, tt)
  beside_at d (e ∷ es) (suc k) b h = beside_at d es k b.1 (omega arith)

module _ {A : Type 0} (span : A → Span) (Own : A → ℕ → Type 0) where
  -- an item behind a place: its own bytes, and then its span
  pub record Placed (at : ℕ) (e : A) : Type 0 where
    pub forward : at ≤ (span e).place
    pub own : (i : ℕ) → Own e i → (at ≤ i) × (i < (span e).place)

  -- from a place up to another, each behind the span of the one before it
  pub data Lies : ℕ → ℕ → List A → Type 0 where
    none : {at next : ℕ} → at ≤ next → Lies at next []
    more : {at next : ℕ} {e : A} {es : List A} → Placed at e → Lies (past (span e)) next es → Lies at next (e ∷ es)

module _ {A : Type 0} {span : A → Span} {Own : A → ℕ → Type 0} where
  pub lies_forward : {at next : ℕ} {es : List A} → Lies span Own at next es → at ≤ next
  lies_forward (Lies.none h) = h
  lies_forward (Lies.more p l) = omega (arith, p.forward, lies_forward l)

  -- what stands before or behind them all is beside their spans
  pub lies_before : {at next i : ℕ} {es : List A} → Lies span Own at next es → i < at → Beside i (map span es)
  lies_before (Lies.none l) h = tt
  lies_before (Lies.more p l) h = let f = p.forward in (inl (omega arith), lies_before l (omega arith))

  pub lies_after : {at next i : ℕ} {es : List A} → Lies span Own at next es → next ≤ i → Beside i (map span es)
  lies_after (Lies.none l) h = tt
  lies_after (Lies.more p l) h = (inr (omega (arith, lies_forward l)), lies_after l h)

  earlier : {a b : ℕ} {e : A} → a ≤ b → Placed span Own b e → Placed span Own a e
  earlier h p = record { forward = omega arith; own = λ i o. let c = p.own i o in (omega arith, c.1) }

  lies_earlier : {a b next : ℕ} {es : List A} → a ≤ b → Lies span Own b next es → Lies span Own a next es
  lies_earlier {a} {next = next} h (Lies.none l) = let g : a ≤ next = omega arith in Lies.none g
  lies_earlier h (Lies.more p l) = Lies.more (earlier h p) l

  pub lies_append : {a b c d : ℕ} {hs ms : List A} → Lies span Own a b hs → b ≤ c → Lies span Own c d ms → Lies span Own a d (hs ++ ms)
  lies_append (Lies.none l) h k = lies_earlier (omega arith) k
  lies_append (Lies.more p l) h k = Lies.more p (lies_append l h k)

  -- each span begins and ends between the two places
  pub lies_within : {at next : ℕ} {es : List A} (none : A) (k : ℕ) → Lies span Own at next es → k < length es
      → let p = span (get_or es k none) in (at ≤ p.place) × (past p ≤ next)
  lies_within d k (Lies.none l) h = absurd (omega arith)
  lies_within d zero (Lies.more p l) h = (p.forward, lies_forward l)
  lies_within d (suc k) (Lies.more p l) h = let c = lies_within d k l (omega arith) in (omega (arith, c.0, p.forward), c.1)

  -- an item's own bytes are beside all spans
  own_beside : {at next : ℕ} {es : List A} (none : A) (k i : ℕ) → Lies span Own at next es → k < length es → Own (get_or es k none) i
      → (at ≤ i) × Beside i (map span es)
  own_beside d k i (Lies.none l) h o = absurd (omega arith)
  own_beside d zero i (Lies.more p l) h o = let c = p.own i o in (c.0, (inl c.1, lies_before l (omega arith)))
  own_beside d (suc k) i (Lies.more p l) h o =
      let c = own_beside d k i l (omega arith) o in
      (omega (arith, p.forward), (inr c.0, c.1))

  -- no byte is in the spans of two items
  apart : {at next : ℕ} {es : List A} (none : A) (j k i : ℕ) → Lies span Own at next es → j < length es → k < length es → k ≢ j
      → let p = span (get_or es k none) in p.place ≤ i → i < past p → Beside i (span (get_or es j none) ∷ [])
  apart d j k i (Lies.none l) h g o a b = absurd (omega arith)
  apart d zero zero i (Lies.more p l) h g o a b = absurd (o refl)
  apart d zero (suc k) i (Lies.more p l) h g o a b = (inr (omega (arith, (lies_within d k l (omega arith)).0)), tt)
  apart d (suc j) zero i (Lies.more p l) h g o a b = (inl (omega (arith, (lies_within d j l (omega arith)).0)), tt)
  apart d (suc j) (suc k) i (Lies.more p l) h g o a b = apart d j k i l (omega arith) (omega arith) (λ e. o (ap suc e)) a b

-- ---- other bytes inside the spans

-- parts of two inputs, as long and the same
pub bytes_same : (s t : List ℕ) (p m : ℕ) → length (bytes_at m t p) ≡ length (bytes_at m s p) → ((i : ℕ) → p ≤ i → i < p + m → get_or t i 0 ≡ get_or s i 0)
    → bytes_at m t p ≡ bytes_at m s p
bytes_same s t p m long same =
    ext_get_or 0 (bytes_at m t p) (bytes_at m s p) long λ j k.
    let l : j < m = omega (arith, length-take m (drop p t)) in
    simp (get_or-take, get_or-drop) (same (p + j) (omega arith) (omega arith))

-- where the inputs are as long
same_row : (s t : List ℕ) (p m : ℕ) → length t ≡ length s → ((i : ℕ) → p ≤ i → i < p + m → get_or t i 0 ≡ get_or s i 0) → bytes_at m t p ≡ bytes_at m s p
same_row s t p m long = bytes_same s t p m (simp (length-take, length-drop, long))

module _ {A : Type 0} {span : A → Span} {Own : A → ℕ → Type 0} {s t : List ℕ} {at next : ℕ} {es : List A} (none : A) (lies : Lies span Own at next es) where
  -- Bytes of an item's own are as before.
  pub own_same : Changed (map span es) s t → (k p m : ℕ) → k < length es → ((i : ℕ) → p ≤ i → i < p + m → Own (get_or es k none) i)
      → bytes_at m t p ≡ bytes_at m s p
  own_same c k p m h o = same_row s t p m c.long λ i a b. c.same i (own_beside none k i lies h (o i a b)).1

  module _ (j : ℕ) (h : j < length es) (c : Changed (span (get_or es j none) ∷ []) s t) where
    -- A change inside one span is one inside the spans,
    pub one_changed : Changed (map span es) s t
    one_changed = record { long = c.long; same = λ i b. c.same i (beside_at span i none es j b h) }

    -- and leaves the others as they were.
    pub others_same : (k : ℕ) → k < length es → k ≢ j → held t (span (get_or es k none)) ≡ held s (span (get_or es k none))
    others_same k g o = let p = span (get_or es k none) in same_row s t p.place p.length c.long λ i a b. c.same i (apart none j k i lies h g o a b)

-- ---- a value inside an input, and its bytes alone

pub ends_bind : (d : Due) (k : ℕ → Due) (n z : ℕ) → Ends d n → Ends (k n) z → Ends (d >>= k) z
ends_bind (end m) k n z e f = rw e at f
ends_bind (stop a p) k n z e f = absurd e
ends_bind (seen fact d) k n z e f = ends_bind d k n z e f
ends_bind (due r p d) k n z e f = ends_bind d k n z e f

-- the value at a place of s takes the bytes x: alone they are read alike
pub record Alone (s : List ℕ) (at l : ℕ) (x : List ℕ) : Type 0 where
  pub ends : Ends (top_value x 0) l
  pub same : bytes (top_value s at) ≡ bytes (based at (top_value x 0))

alone_behind : (w x r : List ℕ) → Bytes (w ++ (x ++ r)) → Ends (top_value (w ++ (x ++ r)) (length w)) (length w + length x)
    → Alone (w ++ (x ++ r)) (length w) (length x) x
unfolding bytes
alone_behind w x r bs e =
    let there : top_value (w ++ (x ++ r)) (length w) ≡ based (length w) (top_value (x ++ r) 0) >>= λ n. end (length w + n) =
    rw add-zero at (amf0.part limit.levels w (x ++ r) 0)
    in
    let here : Here (w ++ (x ++ r)) (length w) (x ++ r) [] = record { same = drop-append_seam w (x ++ r) ∙ sym (append-nil (x ++ r)) } in
    bind_ends (based (length w) (top_value (x ++ r) 0)) (λ n. end (length w + n)) (length w + length x) (rw there at e) λ m f g.
    let is : m ≡ length x = omega arith in
    let ends : Ends (top_value (x ++ r) 0) (length x) = rw is at (based_ends (length w) (top_value (x ++ r) 0) m f) in
    let near : top_value x 0 ≡ top_value (x ++ r) 0 =
    rw append-nil at (amf0.local limit.levels x r [] 0 (length x) (bytes_here here bs) ends (le_refl (length x)))
    in
    record {
      ends = rw near ends;
      same =
          rw (there, near)
          (bytes_bind (based (length w) (top_value (x ++ r) 0)) (λ n. end (length w + n)) m f ∙ append-nil (bytes (based (length w) (top_value (x ++ r) 0))));
    }

pub alone : (s : List ℕ) (at l : ℕ) → Bytes s → at + l ≤ length s → Ends (top_value s at) (at + l) → Alone s at l (bytes_at l s at)
alone s at l bs h e =
    go (take at s) (bytes_at l s at) (drop l (drop at s)) s at l (sym (ap (λ y. take at s ++ y) (take-append-drop l (drop at s)) ∙ take-append-drop at s))
    (sym (length-take-le at s (omega arith))) (sym (length_bytes l s at h)) bs e
  where
    go : (w x r s : List ℕ) (at l : ℕ) → s ≡ w ++ (x ++ r) → at ≡ length w → l ≡ length x → Bytes s → Ends (top_value s at) (at + l) → Alone s at l x
    go w x r s at l p q o = rw (p, q, o) (alone_behind w x r)

-- ---- what the value in a span is

-- a row as long as all of s, at its front, is s
pub all_here : {s x r : List ℕ} → Here s 0 x r → length x ≡ length s → x ≡ s
all_here {s} {x} {r} h l = sym (take-append_seam x r) ∙ (ap₂ take l (sym h.same) ∙ take-length s)

-- bytes are left over behind x, which ends before s does
pub left_behind : (P : List ℕ → Type 0) (s x r : List ℕ) → P x → s ≡ x ++ r → length x < length s → LeftOver P s 3 (length x)
left_behind P s x [] i e l = absurd (omega (arith, ap length e, length-append x []))
left_behind P s x (b ∷ r) i e l = rw e (LeftOver.behind b r i)

-- a span that is read to its end is a value
pub all_value : (s : List ℕ) (p : Span) → Bytes s → past p ≤ length s → Ends (in_span one_value s p) p.length → Value (held s p)
all_value s p bs inside t =
    let x = held s p in
    let r = soundness.sound limit.levels x 0 p.length (bytes_here (stood p.length s p.place) bs) (based_ends p.place (one_value x) p.length t) in
    record { tree = r.tree; encodes = rw (all_here r.here (omega (arith, r.next, held_length s p inside))) at r.encodes; deep = r.deep }

-- what the reading of the value in a span comes to
pub comes_value : (s : List ℕ) (p : Span) (room : ℕ) → Bytes s → p.place + p.length ≤ length s → ComesValue s p room (answer_of one_value s p room)
comes_value s p room bs inside =
    answer_either one_value s p inside (value_sober x) room (ComesValue s p room)
    (λ q l. let o = based_lacks p.place (one_value x) 0 room q l in there 4 o.0 o.1 (ComesValue.no_room o.0 o.2))
    (λ h q t. let o = refusal 5 q t in there 5 o.0 o.1 (ComesValue.deep h o.2))
    (λ h a q t k. let o = refusal a q t in there 9 o.0 o.1 (ComesValue.damaged h o.2 k)) unused
    (λ h t. ComesValue.read h (all_value s p bs inside t))
  where
    x : List ℕ
    x = held s p

    xs : Bytes x
    xs = bytes_here (stood p.length s p.place) bs

    there : (a o : ℕ) {q : ℕ} → q ≡ p.place + o → ComesValue s p room (refused a (p.place + o)) → ComesValue s p room (refused a q)
    there a o e c = rw e c

    refusal : (a q : ℕ) → Stops (in_span one_value s p) a q → (o : ℕ) × (q ≡ p.place + o) × RefusedValue limit.levels x 0 a o
    refusal a q t = let o = based_stops p.place (one_value x) a q t in (o.0, o.1, (value_refused limit.levels x 0 a o.0 xs (omega arith)).0 o.2)

    unused : length (bytes (in_span one_value s p)) ≤ room → (n : ℕ) → Ends (in_span one_value s p) n → n < p.length
        → ComesValue s p room (refused 9 (p.place + n))
    unused h n t k =
        let f = soundness.sound limit.levels x 0 n xs (based_ends p.place (one_value x) n t) in
        let v : Value f.row = record { tree = f.tree; encodes = f.encodes; deep = f.deep } in
        let e : n ≡ length f.row = omega (arith, f.next) in
        rw e (ComesValue.unused h (left_behind Value x f.row f.rest v f.here.same (omega (arith, f.next, held_length s p inside))))

-- an acceptance of the value in n bytes of an input that is within the limit
pub record TakesSpan (s : List ℕ) (place n room : ℕ) (w : Whole) : Type 0 where
  pub small : length s ≤ limit.bytes
  pub inside : place + n ≤ length s
  pub takes : Takes one_value s (span_at place n) room w
