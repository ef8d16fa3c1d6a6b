-- The laws of a header, of an element and of a body: how far each reads, how each stops, and that a body's elements stand in a row.
use Rattle.std.specs.Prelude.{◌+◌, ◌-◌, ◌*◌, ◌≤◌, ◌≡◌, ◌≢◌, ◌∷◌, ◌++◌, Ok, Err, Result}
use Rattle.wire.proofs.Kit.{ℕ, zero, suc, refl, sym, ap, inl, inr, ⊎_elim, List, [], sub-one, arith, length}
use Rattle.wire.proofs.Kit.{length-append, lt-leb, eq-eqb, ne_eqb}
use Rattle.wire.specs.declared.cursor.Cursor.{Cursor}
use Rattle.wire.specs.Field.{to, tag_at, past_tag, text_at, got_text, text_to, Parsed}
use Rattle.wire.specs.Limit as limit
use Rattle.wire.proofs.Laws.{tag_next, tag_stop}
use Rattle.wire.proofs.Stands.{go32, go_text}
use Rattle.image.specs.declared.record.Record.{Record}
use Rattle.image.specs.declared.record.Record.TheVariants.{Key, Lso}
use Rattle.image.specs.Record.{bytes_of}
use Rattle.image.specs.Due.{Due, end, stop, due, ◌>>=◌, Ends, Stops, on_end, ran, run, went_to}
use Rattle.image.specs.Whole.{bytes}
use Rattle.image.proofs.Laws.{size_bytes, size_some, run_then, run_halt}
use Rattle.image.proofs.Kept.{Kept, fewer, bind_kept, ends_kept, stops_kept, small, due_inside}
use Rattle.image.proofs.Settle.{on_case, one_end, ends_not, AllDue, due_bind, run_went, run_stopped}
use Rattle.amf0.specs.Reading.{top_value}
use Rattle.amf0.proofs.Reasons.{Named, two, three}
use Rattle.amf0.proofs.Reasons as values
use Rattle.lso.specs.File.{version, signature}
use Rattle.lso.specs.Reading.{header_at, closing, keyed_at, element_at, Element, Body, takes, tries, body_at, kept, due_in, ever_due}
use Rattle.lso.specs.Code.{run_body}
use Rattle.lso.proofs.Laws.{element_cut, element_key}
use Rattle.lso.proofs.Stands.{Either, go_tag, go_zeros}
use Rattle.wire.specs.Answer.{denied, Verdict, number_of}
use Rattle.wire.specs.declared.answer.Answer.{Answer}
use Rattle.wire.specs.declared.answer.Answer.TheVariants.{OverLimit, NotWhole, NotRight, NoRoom, TooDeep, NoTree, OtherVersion, NoEntry, Damaged}
use Rattle.wire.specs.declared.cursor.Span.{Span}

pub field_named : {a : ℕ} → Either a → Named a
field_named (inl e) = rw e two
field_named (inr e) = rw e three

-- another answer has another number
pub other_answer : {x : Answer} {a : ℕ} → number_of x ≡ a → (x ≡ NotWhole → ⊥) → (x ≡ NotRight → ⊥) → (a ≢ 2) × (a ≢ 3)
other_answer {x = OverLimit} e f g = (omega arith, omega arith)
other_answer {x = NotWhole} e f g = absurd (f refl)
other_answer {x = NotRight} e f g = absurd (g refl)
other_answer {x = NoRoom} e f g = (omega arith, omega arith)
other_answer {x = TooDeep} e f g = (omega arith, omega arith)
other_answer {x = NoTree} e f g = (omega arith, omega arith)
other_answer {x = OtherVersion} e f g = (omega arith, omega arith)
other_answer {x = NoEntry} e f g = (omega arith, omega arith)
other_answer {x = Damaged} e f g = (omega arith, omega arith)

-- ---- the header

-- it stops before its record, with 2 or 3, or its record is due at its end
pub header_case : (P : Due → Type 0) (s : List ℕ) → ((a p : ℕ) → Either a → P (stop a p))
    → ((stored p n g : ℕ) → length (bytes_of (Lso stored p n)) ≤ 3 * g → g ≤ length s → P (due (Lso stored p n) 0 (end g))) → P (header_at s)
unfolding header_at bytes_of
header_case P s halts reads =
    go_tag P stop s 0 version _ (omega arith)
    (λ h i. go32 P stop s 2 _
    (λ j. go_tag P stop s 6 signature _ j
    (λ g k. go_text P stop s 16 2 _
    (λ n e l u. go_zeros P stop s 4 (18 + n) _ l (λ q f w m. reads _ _ _ q (omega arith) m) halts)
    (λ l. halts 2 16 (inl refl)) (λ n e l m. halts 2 18 (inl refl)) (λ n e l u. halts 3 18 (inr refl))) halts)
    (λ l. halts 2 2 (inl refl))) halts

module _ (s : List ℕ) where
  -- where it ends, and how much it has laid
  pub record Headed (d : Due) (p : ℕ) : Type 0 where
    pub small : length (bytes d) ≤ 3 * p
    pub some : 1 ≤ length (bytes d)
    pub within : p ≤ length s

  pub header_ends : (p : ℕ) → Ends (header_at s) p → Headed (header_at s) p
  unfolding bytes
  header_ends p =
      header_case (λ d. Ends d p → Headed d p) s (λ a q x e. absurd e)
      (λ stored p n g l m e.
      let r : Record = Lso stored p n in
      let k = length-append (bytes_of r) [] in
      let b = size_bytes r in
      let o = size_some r in
      record { small = omega arith; some = omega arith; within = omega arith })

  pub header_stops : (a p : ℕ) → Stops (header_at s) a p → Either a × (bytes (header_at s) ≡ [])
  unfolding bytes
  header_stops a p = header_case (λ d. Stops d a p → Either a × (bytes d ≡ [])) s (λ b q x e. (rw e.0 x, refl)) (λ stored o n g l m e. absurd e)

-- ---- an element

-- where nothing is left none is
pub element_out : (s : List ℕ) (at : ℕ) → length s ≤ at → element_at s at ≡ stop 2 at
unfolding element_at text_at
element_out s at h = rw (lt-leb (at + 2) (length s) (omega arith))

closing_kept : (s : List ℕ) (n : ℕ) → n ≤ length s → Kept Named s (3 * n) (closing s n)
closing_kept s n h = go (tag_at (0 ∷ []) s n) refl
  where
    go : (t : Result Cursor Verdict) → tag_at (0 ∷ []) s n ≡ t → Kept Named s (3 * n) (past_tag stop t end)
    go (Ok c) e = let r = tag_next s n (0 ∷ []) c e in (omega arith, omega arith)
    go (Err x) e = let r = tag_stop s n (0 ∷ []) x.answer x.place e h in (omega arith, field_named r.answer, r.within)

element_kept : (s : List ℕ) (at : ℕ) → at ≤ length s → Kept Named s (3 * at) (element_at s at)
unfolding element_at bytes_of
element_kept s at h = go_text (Kept Named s (3 * at)) stop s at 2 _
    (λ n e i u.
    let q : ℕ = at + 2 + n in (
      h,
      fewer Named s (3 * at + 6) (3 * q) (top_value s q >>= closing s) (omega arith)
          (bind_kept Named s (3 * q) (top_value s q) (closing s) (values.kept limit.levels s q i) (λ m l. closing_kept s m)),
    ))
    (λ i. (omega arith, two, h)) (λ n e i j. (omega arith, two, i)) (λ n e i u. (omega arith, three, omega arith))

-- ---- the body

-- an element that was read at a place: its key stands there, and it is what the definition reads
pub record Stood (s : List ℕ) (at : ℕ) (e : Element) : Type 0 where
  pub begins : e.at ≡ at
  pub key : text_at 2 s at ≡ text_to e.place e.size (to e.value)
  pub read : e.read ≡ element_at s at
  pub ends : Ends (element_at s at) e.next

-- it has laid its key's record
element_some : (s : List ℕ) (at : ℕ) (e : Element) → Stood s at e → 1 ≤ length (bytes (element_at s at))
unfolding bytes
element_some s at e t =
    let k : Record = Key e.place e.size in
    rw (element_key s at t.key) (omega (arith, length-append (bytes_of k) (bytes (top_value s e.value >>= closing s)), size_bytes k, size_some k))

-- one is taken, or the body stops there
body_case : (P : Body → Type 0) (s : List ℕ) (fuel at : ℕ) → ((e : Element) → Stood s at e → P (takes e (body_at s fuel e.next)))
    → ((a p : ℕ) → Stops (element_at s at) a p → P (tries at (element_at s at))) → P (body_at s (suc fuel) at)
unfolding body_at
body_case P s fuel at f g = go (text_at 2 s at) refl
  where
    go : (t : Parsed Span) → text_at 2 s at ≡ t
        → P (got_text (λ a w. tries at (stop a w)) t λ p n q.
        on_end (keyed_at s at p n q)
        (λ e. takes (record { at = at; place = p; size = n; value = q; next = e; read = keyed_at s at p n q }) (body_at s fuel e))
        (λ a w. tries at (keyed_at s at p n q)))
    go (Err r) e = rw (element_cut s at e) at (g r.answer r.place (rw (element_cut s at e) (refl, refl)))
    go (Ok x) e =
        let k = element_key s at e in
        on_case P (keyed_at s at x.0.place x.0.length x.1.at) _ _ (λ m h. f _ (record { begins = refl; key = e; read = sym k; ends = rw k h }))
        (λ a w h. rw k at (g a w (rw k h)))

-- elements that stand in a row, from a place to another
pub data Row (s : List ℕ) : (at : ℕ) → List Element → (n : ℕ) → Type 0 where
  none : {at : ℕ} → Row s at [] at
  more : {at n : ℕ} {e : Element} {es : List Element} → Stood s at e → Row s e.next es n → Row s at (e ∷ es) n

-- a body's elements stand in a row, and then one stops
pub record Ended (s : List ℕ) (at : ℕ) (b : Body) : Type 0 where
  pub row : Row s at b.elements b.at
  pub tried : b.tried ≡ element_at s b.at
  pub answer : ℕ
  pub place : ℕ
  pub stopped : Stops (element_at s b.at) answer place
  pub known : Named answer
  pub within : b.at ≤ length s
  pub small : 3 * at + length (kept b.elements ++ bytes b.tried) ≤ 3 * length s

module _ (s : List ℕ) where
  stopped_here : (at a p : ℕ) → at ≤ length s → Stops (element_at s at) a p → Ended s at (tries at (element_at s at))
  stopped_here at a p l t =
      let k = element_kept s at l in
      record { row = Row.none; tried = refl; answer = a; place = p; stopped = t; known = (stops_kept Named s (3 * at) a p (element_at s at) k t).0; within = l; small = small Named s (3 * at) (element_at s at) k }

  body_ended : (fuel at : ℕ) → length s ≤ fuel + at → at ≤ length s → Ended s at (body_at s fuel at)
  unfolding body_at
  body_ended zero at h l =
      let o = element_out s at (omega arith) in
      rw o at (stopped_here at 2 at l (rw o (refl, refl)))
  body_ended (suc fuel) at h l =
      body_case (Ended s at) s fuel at
      (λ e t.
      let z = ends_kept Named s (3 * at) e.next (element_at s at) (element_kept s at l) t.ends in
      let some = element_some s at e t in
      let r = body_ended fuel e.next (omega arith) z.1 in
      let b : Body = body_at s fuel e.next in
      record {
        row = Row.more t r.row;
        tried = r.tried;
        answer = r.answer;
        place = r.place;
        stopped = r.stopped;
        known = r.known;
        within = r.within;
        small =
            rw t.read
            (omega (arith, r.small, length-append (bytes (element_at s at) ++ kept b.elements) (bytes b.tried), length-append (bytes (element_at s at)) (kept b.elements), length-append (kept b.elements) (bytes b.tried)));
      })
      (λ a p. stopped_here at a p l)

  -- the body behind a header
  pub behind : (p : ℕ) → Ends (header_at s) p → Ended s p (body_at s (length s) p)
  behind p e = body_ended (length s) p (omega arith) (header_ends s p e).within

-- what holds of every record of an element, wherever it stands, holds of those of elements in a row, and of what is tried behind them
row_due : (P : Record → ℕ → Type 0) (s : List ℕ) → ((at : ℕ) → at ≤ length s → AllDue P (element_at s at)) → {at n : ℕ} {es : List Element} → Row s at es n
    → at ≤ length s → AllDue P (due_in es (element_at s n))
row_due P s f {at} Row.none l = f at l
row_due P s f {at} {n} (Row.more {e} {es} t r) l =
    rw t.read
    (due_bind P (element_at s at) (λ m. due_in es (element_at s n)) (f at l)
    λ m i. row_due P s f r (ends_kept Named s (3 * at) _ (element_at s at) (element_kept s at l) t.ends).1)

module _ (P : Record → ℕ → Type 0) (s : List ℕ) (f : (at : ℕ) → at ≤ length s → AllDue P (element_at s at)) (g : (stored p n : ℕ) → P (Lso stored p n) 0)
    (p : ℕ) (e : Ends (header_at s) p) where
  -- so it does, with the file's own record, of all that ever falls due
  pub ever_due_lem : AllDue P (ever_due s p)
  ever_due_lem =
      let t = behind s p e in
      due_bind P (header_at s) _ (header_case (AllDue P) s (λ a q x. tt) (λ stored o n q l m. (g stored o n, tt)))
      (λ n i. rw t.tried (row_due P s f t.row (header_ends s p e).within))

-- every place at which a record falls due is inside
pub ever_inside : (s : List ℕ) (p : ℕ) → Ends (header_at s) p → AllDue (λ r q. q ≤ length s) (ever_due s p)
ever_inside s = ever_due_lem (λ r q. q ≤ length s) s (λ at l. due_inside Named s (3 * at) (element_at s at) (element_kept s at l)) (λ stored p n. omega arith)

-- ---- the body carried out

module _ (s : List ℕ) (at : ℕ) (fuel : ℕ) (h : length s ≤ fuel + at) where
  body_either : (P : Body → Type 0) → ((e : Element) → Stood s at e → P (takes e (body_at s (fuel - 1) e.next)))
      → ((a p : ℕ) → Stops (element_at s at) a p → P (tries at (element_at s at))) → P (body_at s fuel at)
  unfolding body_at
  body_either P f g = go fuel h f
    where
      go : (k : ℕ) → length s ≤ k + at → ((e : Element) → Stood s at e → P (takes e (body_at s (k - 1) e.next))) → P (body_at s k at)
      go zero l f = let o = element_out s at (omega arith) in rw o at (g 2 at (rw o (refl, refl)))
      go (suc k) l f = body_case P s k at (λ e t. rw (sub-one (suc k)) at (f e t)) g

  module _ (made : ℕ) (image : List ℕ) where
    -- behind an element that was read it goes on
    pub body_next : {c : Cursor} {m : ℕ} {i : List ℕ} → ran (went_to c m) i ≡ run (element_at s at) made image
        → run_body (body_at s fuel at) made image ≡ run_body (body_at s (fuel - 1) c.at) m i
    unfolding run_body
    body_next {c} {m} {i} r =
        let w = run_went (element_at s at) made image r in
        body_either (λ b. run_body b made image ≡ run_body (body_at s (fuel - 1) c.at) m i)
        (λ e t.
        let b : Body = body_at s (fuel - 1) e.next in
        let total : made + length (bytes e.read ++ kept b.elements) ≡ m + length (kept b.elements) =
        omega (arith, length-append (bytes e.read) (kept b.elements), w.0, ap (λ d. length (bytes d)) t.read) in
        let n : e.next ≡ c.at = one_end (element_at s at) t.ends w.1 in
        let own : ran (went_to c m) i ≡ run e.read made image = rw t.read r in
        rw (run_then e.read (λ n. due_in b.elements b.tried) made image own, total) (ap (λ q. run_body (body_at s (fuel - 1) q) m i) n))
        (λ a p t. absurd (ends_not (element_at s at) c.at a p w.1 t))

    module _ {a p : ℕ} {i : List ℕ} (r : ran (denied a p) i ≡ run (element_at s at) made image) where
      -- an element that gave 2 or 3 ends the body before it
      pub body_ends : Either a → run_body (body_at s fuel at) made image ≡ ran (went_to (to at) made) i
      unfolding run_body
      body_ends w =
          let not : a ≢ 4 = λ z. ⊎_elim (λ y. omega arith) (λ y. omega arith) w in
          body_either (λ b. run_body b made image ≡ ran (went_to (to at) made) i)
          (λ e t. absurd (ends_not (element_at s at) e.next a p t.ends (run_stopped (element_at s at) made image r not)))
          (λ b q t.
          let same : ran (went_to (to at) (made + 0)) i ≡ ran (went_to (to at) made) i = ap (λ m. ran (went_to (to at) m) i) (omega arith) in
          rw (← r) (⊎_elim (λ y. rw (eq-eqb a 2 y) same) (λ y. rw (ne_eqb a 2 λ z. omega arith, eq-eqb a 3 y) same) w))

      -- any other answer ends the call
      pub body_stops : a ≢ 2 → a ≢ 3 → run_body (body_at s fuel at) made image ≡ ran (denied a p) i
      unfolding run_body
      body_stops x y =
          body_either (λ b. run_body b made image ≡ ran (denied a p) i)
          (λ e t.
          let b : Body = body_at s (fuel - 1) e.next in
          let own : ran (denied a p) i ≡ run e.read made image = rw t.read r in
          rw (run_halt e.read (λ n. due_in b.elements b.tried) made image own, ne_eqb a 2 x, ne_eqb a 3 y))
          (λ b q t. rw (← r, ne_eqb a 2 x, ne_eqb a 3 y))
