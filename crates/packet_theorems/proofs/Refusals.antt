-- The whole reading of a packet and the cut are refused exactly where, and as, the grammar of refusals says.
use Rattle.std.specs.Prelude.{◌+◌, ◌-◌, ◌^◌, ◌≤◌, ◌<◌, ◌≡◌, ◌≢◌, ◌↔◌, ◌∷◌, ◌++◌, Ok, Err, Result}
use Rattle.wire.proofs.Kit.{ℕ, zero, suc, refl, sym, ap, subst, ◌∙◌, List, [], Bool, true, false, arith, add-zero}
use Rattle.wire.proofs.Kit.{length, take, drop, length-append, length-drop, leb, eqb, le-leb, lt-leb, eq-eqb, ne_eqb, leb-true, leb-false, eqb-true, eqb-false}
use Rattle.wire.specs.Choice.{pick}
use Rattle.wire.specs.Number.{digits, number, Bytes}
use Rattle.wire.specs.Limit as limit
use Rattle.wire.specs.Field.{to, bytes_at, u16_at, got, past_tag, got_to}
use Rattle.wire.proofs.Laws.{picked, length_digits, number_digits}
use Rattle.wire.proofs.Stands.{Here, Stood, there, inside, stood, number_stood, join, length_bytes, go16, cut as front}
use Rattle.image.specs.Due.{Due, end, stop, seen, due, ◌>>=◌, Ends, Stops, on_end}
use Rattle.amf0.specs.Reading.{top_value, value_in}
use Rattle.amf0_theorems.proofs.Refusals.{value_refused}
use Rattle.amf0_theorems.specs.Refusal.{Field, Refuses, Refused}
use Rattle.amf0_theorems.specs.Refusal.Field.{some}
use Rattle.amf0_theorems.proofs.Refused.{refuse}
use Rattle.amf0_theorems.proofs.Telling as telling
use Rattle.amf0_theorems.proofs.Sound as soundness
use Rattle.packet.specs.declared.head.Entry.{Entry}
use Rattle.packet.specs.Head.{unknown, version_at, front_of, head_at, Head}
use Rattle.packet.specs.Packet.{Label}
use Rattle.packet.specs.Reading.{entries_at, packet_at}
use Rattle.packet.specs.Entry.{Ending, done, halt, reach, Trail, reached, stopped, puts, ◌thence◌, measured, measured_at, entry_at, walk, end_at, messages_from, Cut, found, stops, strict, cut_of}
use Rattle.packet.proofs.Laws.{head_begun, value_read}
use Rattle.packet_theorems.specs.Cuts.{Says}
use Rattle.packet_theorems.specs.Refusal.{whole, Sizes, cut, IsPacket, RefusedPacket, RefusedCut}
use Rattle.packet_theorems.proofs.Parts.{Part, goes, halts, ◌then◌, then_then, then_same, goes_halts, Standing, Tells, Follows, Plain, plain, Both, LeadsBoth, in_turn, turned, Only, Number, number_by, number_follows}
use Rattle.packet_theorems.proofs.Labels.{Kinds, headers, messages}
use Rattle.packet_theorems.proofs.Ways.{Body, LeadsBody, Goes, entries_by, version_by, packet_by, TellsPacket, way_told, way_halts, way_ends}
use Rattle.amf0_theorems.proofs.Spans.{all_here, left_behind}
use Rattle.amf0_theorems.specs.Spans.{Value, LeftOver}
use Rattle.wire.specs.Answer.{denied, Verdict}
use Rattle.wire.specs.declared.cursor.Cursor.{Cursor}

-- ---- fields, as the readings have them

-- f is how a result ends; `fail` are the results that are refused
module _ {A : Type 0} (f : A → Part) (fail : ℕ → ℕ → A) (same : (a p : ℕ) → f (fail a p) ≡ halts a p) (s : List ℕ) where
  number_end : (at : ℕ) (k : ℕ → ℕ → A) (g : ℕ → ℕ → Part) → ((n q : ℕ) → f (k n q) ≡ g n q) → f (got fail (u16_at s at) k) ≡ number_by 2 s at then g
  number_end at k g each =
      go16 (λ x. f x ≡ number_by 2 s at then g) fail s at k
      (λ i. rw (le-leb (at + 2) (length s) i) (each (number (bytes_at 2 s at)) (at + 2))) (λ i. rw (lt-leb (at + 2) (length s) i) (same 2 at))

  version_end : (k : ℕ → A) (g : ℕ → Part) → ((p : ℕ) → f (k p) ≡ g p) → f (past_tag fail (version_at s) k) ≡ version_by s then λ v p. g p
  version_end k g each = go (version_at s)
    where
      go : (x : Result Cursor Verdict) → f (past_tag fail x k) ≡ past_tag halts x (λ p. goes 0 p) then λ v p. g p
      go (Ok c) = each c.at
      go (Err r) = same r.answer r.place

  head_end : {kind : ℕ} {Kind : Label → Type 0} (m : Kinds kind Kind) (at : ℕ) (k : Entry → ℕ → A) (g : ℕ → ℕ → Part)
      → ((e : Entry) (v : ℕ) → v ≤ length s → f (k e v) ≡ g e.length v)
      → f (got fail (head_at kind s at) k) ≡ m.label_by s at then λ v q. number_by 4 s q then g
  head_end {kind} m at k g each = go (head_at kind s at) refl ∙ m.head s g at
    where
      go : (x : Head) → head_at kind s at ≡ x → f (got fail x k) ≡ got halts x λ e v. g e.length v
      go (Ok x) h = each x.0 x.1.at (head_begun s at kind h).within
      go (Err r) h = same r.answer r.place

-- ---- the whole reading

-- how a reading ends
abbrev pub end_of : Due → Part
end_of (end n) = goes 0 n
end_of (stop a p) = halts a p
end_of (seen fact d) = end_of d
end_of (due r p d) = end_of d

end_bind : (d : Due) (k : ℕ → Due) → end_of (d >>= k) ≡ end_of d then λ v n. end_of (k n)
end_bind (end n) k = refl
end_bind (stop a p) k = refl
end_bind (seen fact d) k = end_bind d k
end_bind (due r p d) k = end_bind d k

-- what holds of either end holds of it
end_either : (P : Part → Type 0) (d : Due) → ((n : ℕ) → Ends d n → P (goes 0 n)) → ((a p : ℕ) → Stops d a p → P (halts a p)) → P (end_of d)
end_either P (end n) f g = f n refl
end_either P (stop a p) f g = g a p (refl, refl)
end_either P (seen fact d) f g = end_either P d f g
end_either P (due r p d) f g = end_either P d f g

end_ends : (d : Due) (n : ℕ) → Ends d n → end_of d ≡ goes 0 n
end_ends (end m) n t = rw t
end_ends (stop b q) n t = absurd t
end_ends (seen fact d) n t = end_ends d n t
end_ends (due r q d) n t = end_ends d n t

end_stops : (d : Due) (a p : ℕ) → Stops d a p ↔ end_of d ≡ halts a p
end_stops d a p = (to d, from d)
  where
    to : (d : Due) → Stops d a p → end_of d ≡ halts a p
    to (end n) t = absurd t
    to (stop b q) t = rw (t.0, t.1)
    to (seen fact d) t = to d t
    to (due r q d) t = to d t

    from : (d : Due) → end_of d ≡ halts a p → Stops d a p
    from (end n) e = goes_halts e
    from (stop b q) e = (cc, cc)
    from (seen fact d) e = from d e
    from (due r q d) e = from d e

-- a value, whatever length was declared
abbrev pub value_by : List ℕ → ℕ → ℕ → Part
value_by s d v = end_of (top_value s v)

-- entries, and the packet, end as their parts in turn do
module _ {kind : ℕ} {Kind : Label → Type 0} (k : Kinds kind Kind) (s : List ℕ) where
  entries_end : (n at : ℕ) → end_of (entries_at kind s n at) ≡ entries_by k s (value_by s) n at
  unfolding entries_at entries_by
  entries_end zero at = refl
  entries_end (suc n) at =
      head_end end_of stop (λ a p. refl) s k at _ (λ d v. value_by s d v then λ u q. entries_by k s (value_by s) n q)
      (λ e v i. end_bind (top_value s v) (entries_at kind s n) ∙ then_same (end_of (top_value s v)) _ _ λ u q. entries_end n q)
      ∙ then_same (k.label_by s at) _ _ λ v q. sym (then_then (number_by 4 s q) (value_by s) λ u e. entries_by k s (value_by s) n e)

pub packet_end : (s : List ℕ) → end_of (packet_at s) ≡ packet_by s (value_by s)
unfolding packet_at packet_by
packet_end s =
    version_end end_of stop (λ a p. refl) s _ _ λ p.
    number_end end_of stop (λ a p. refl) s p _ _ λ h q.
    end_bind (entries_at 0x31 s h q) _
    ∙ rw (entries_end headers s h q)
    (then_same (entries_by headers s (value_by s) h q) _ _ λ u e. number_end end_of stop (λ a p. refl) s e _ _ λ m f. entries_end messages s m f)

-- a value is gone over as AMF 0 has it
value_follows : (s : List ℕ) → Bytes s → (d at : ℕ) → at ≤ length s → Follows (Plain Value) (whole.Inside d) s at (value_by s d at)
value_follows s bs d at l =
    record {
      ends = ends;
      stops = λ a p q. (end_stops (top_value s at) a p).0 ((value_refused limit.levels s at a p bs l).1 q);
      told =
          end_either (Tells (Plain Value) (whole.Inside d) s at) (top_value s at) stands λ a p. (value_refused limit.levels s at a p bs l).0;
    }
  where
    ends : (v : ℕ) (x r : List ℕ) → Plain Value v x → Here s at x r → value_by s d at ≡ goes v (at + length x)
    ends v x r (Plain.plain y) h =
        end_ends (top_value s at) (at + length x) (telling.reads limit.levels s r at y.encodes h y.deep).ends

    stands : (n : ℕ) → Ends (top_value s at) n → Standing (Plain Value) s at 0 n
    stands n e =
        let f = soundness.sound limit.levels s at n bs e in
        record {
          row = f.row;
          rest = f.rest;
          stands = plain (record { tree = f.tree; encodes = f.encodes; deep = f.deep });
          here = f.here;
          next = f.next;
        }

-- the whole reading goes over values as its way has it
pub value_goes : (s : List ℕ) → Bytes s → Goes whole s (value_by s)
value_goes s bs = record { follows = follows }
  where
    to_body : (v : ℕ) (x : List ℕ) → Both (Number 4) (λ d. Plain Value) v x → Plain (Body whole) v x
    to_body v x (Both.both n (Plain.plain y)) = go n y
      where
        go : {d : ℕ} {b y : List ℕ} → Number 4 d b → Value y → Plain (Body whole) 0 (b ++ y)
        go (Number.is l) y = plain (Body.body l y)

    from_body : (v : ℕ) (x : List ℕ) → Plain (Body whole) v x → Both (Number 4) (λ d. Plain Value) v x
    from_body v x (Plain.plain (Body.body l y)) = Both.both (Number.is l) (plain y)

    to_leads : (r x : List ℕ) (f : Field) → LeadsBoth (Number 4) (λ r. Only (some 4)) whole.Inside r x f → LeadsBody whole r x f
    to_leads r x f (LeadsBoth.one Only.only) = LeadsBody.size refl
    to_leads r x f (LeadsBoth.two n i) = go n i
      where
        go : {d : ℕ} {b y : List ℕ} {f : Field} → Number 4 d b → whole.Inside d r y f → LeadsBody whole r (b ++ y) f
        go (Number.is l) i = LeadsBody.inside l i

    from_leads : (r x : List ℕ) (f : Field) → LeadsBody whole r x f → LeadsBoth (Number 4) (λ r. Only (some 4)) whole.Inside r x f
    from_leads r x f (LeadsBody.size z) = rw z (LeadsBoth.one Only.only)
    from_leads r x f (LeadsBody.inside l i) = LeadsBoth.two (Number.is l) i

    within : {q d : ℕ} {x r : List ℕ} → Number 4 d x → Here s q x r → q + length x ≤ length s
    within (Number.is l) h = inside h (omega arith)

    follows : (q : ℕ) → Follows (Plain (Body whole)) (LeadsBody whole) s q (number_by 4 s q then value_by s)
    follows q =
        turned (λ v x r h. to_body v x) (λ v x r h. from_body v x) (λ r x f e. to_leads r x f) (λ r x f e. from_leads r x f)
        (in_turn (value_by s) (number_by 4 s q) (number_follows 4 s bs q (omega arith)) λ d x r n h. value_follows s bs d (q + length x) (within n h))

-- The whole reading of a packet is refused exactly where version 3 or a field refuses it, and with that answer and place.
pub packet_refused : (s : List ℕ) (a p : ℕ) → Bytes s → Stops (packet_at s) a p ↔ RefusedPacket whole s a p
packet_refused s a p bs =
    let g = value_goes s bs in
    let e = end_stops (packet_at s) a p in
    (λ t. rw (sym (packet_end s) ∙ e.0 t) at (way_told s bs (value_by s) g), λ q. e.1 (packet_end s ∙ way_halts s bs (value_by s) g q))

-- ---- the cut

-- how a walk and a cut end
abbrev end_by : Ending → Part
end_by x = reach halts x (goes 0)

abbrev pub cut_end : Cut → Part
cut_end (found es z) = goes 0 z
cut_end (stops a p) = halts a p

strict_end : (t : Trail) → cut_end (strict t) ≡ end_by t.ending
strict_end t = go t.ending
  where
    go : (x : Ending) → cut_end (reach stops x (found t.entries)) ≡ end_by x
    go (done z) = refl
    go (halt a p) = refl

-- as many bytes as were declared; else the length is refused
abbrev span_by : List ℕ → ℕ → ℕ → Part
span_by s d v = pick (leb (v + d) (length s)) (goes 0 (v + d)) (halts 2 (v - 4))

-- a value, where the length is not known; else as many bytes
abbrev pub cut_by : List ℕ → ℕ → ℕ → Part
cut_by s d v = pick (eqb d unknown) (value_by s d v) (span_by s d v)

-- a walk goes on behind a value that was measured, from where that ends
measured_end : (d : Due) (e : Entry) (v : ℕ) (k : Entry → ℕ → Trail) (g : ℕ → ℕ → Part) → ((e : Entry) (q : ℕ) → end_by (k e q).ending ≡ g 0 q)
    → end_by (got stopped (on_end d (λ n. got_to (measured e (n - v)) (to n)) denied) k).ending ≡ end_of d then g
measured_end (end n) e v k g each = each (measured e (n - v)) n
measured_end (stop a p) e v k g each = refl
measured_end (seen fact d) e v k g each = measured_end d e v k g each
measured_end (due r p d) e v k g each = measured_end d e v k g each

-- within the limit, a walk ends as its parts in turn do
module _ {kind : ℕ} {Kind : Label → Type 0} (k : Kinds kind Kind) (s : List ℕ) (small : length s ≤ limit.bytes) where
  walk_end : (n at : ℕ) → end_by (walk kind s n at).ending ≡ entries_by k s (cut_by s) n at
  unfolding walk entry_at entries_by
  walk_end zero at = refl
  walk_end (suc n) at =
      head_end (λ x. end_by (got stopped x (λ e q. puts (e ∷ []) (walk kind s n q))).ending) denied (λ a p. refl) s k at _
      (λ d v. cut_by s d v then λ u q. entries_by k s (cut_by s) n q)
      (λ e v i. one (walk_end n) e v i (eqb e.length unknown) (leb (v + e.length) (length s)))
      ∙ then_same (k.label_by s at) _ _ λ v q. sym (then_then (number_by 4 s q) (cut_by s) λ u e. entries_by k s (cut_by s) n e)
    where
      one : ((q : ℕ) → end_by (walk kind s n q).ending ≡ entries_by k s (cut_by s) n q) → (e : Entry) (v : ℕ) → v ≤ length s → (t u : Bool)
          → end_by (got stopped (pick t (measured_at s e v) (pick u (got_to e (to (v + e.length))) (denied 2 (v - 4)))) (λ e q. puts (e ∷ []) (walk kind s n q))).ending
          ≡ pick t (value_by s e.length v) (pick u (goes 0 (v + e.length)) (halts 2 (v - 4))) then λ u q. entries_by k s (cut_by s) n q
      one behind e v i true u =
          measured_end (value_in 0 s v) e v (λ e q. puts (e ∷ []) (walk kind s n q)) (λ u q. entries_by k s (cut_by s) n q) (λ e q. behind q)
          ∙ ap (λ d. end_of d then λ u q. entries_by k s (cut_by s) n q) (value_read s v small i)
      one behind e v i false true = behind (v + e.length)
      one behind e v i false false = refl

-- what goes on from where a walk ends
thence_end : (x : Ending) (k : ℕ → Trail) (g : ℕ → Part) → ((z : ℕ) → end_by (k z).ending ≡ g z) → end_by (reach stopped x k).ending ≡ end_by x then λ v z. g z
thence_end (done z) k g each = each z
thence_end (halt a p) k g each = refl

-- bytes left over are refused
abbrev pub last_by : List ℕ → ℕ → Part
last_by s z = pick (leb (length s) z) (goes 0 z) (halts 3 z)

-- what comes behind a packet comes behind its messages
packet_then : (s : List ℕ) (step k : ℕ → ℕ → Part)
    → packet_by s step then k
    ≡ version_by s then λ v p.
    number_by 2 s p then λ h q.
    entries_by headers s step h q then λ u e.
    number_by 2 s e then λ m f.
    entries_by messages s step m f then k
unfolding packet_by
packet_then s step k =
    then_then (version_by s) _ k
    ∙ then_same (version_by s) _ _ λ v p.
    then_then (number_by 2 s p) _ k
    ∙ then_same (number_by 2 s p) _ _ λ h q.
    then_then (entries_by headers s step h q) _ k
    ∙ then_same (entries_by headers s step h q) _ _ λ u e. then_then (number_by 2 s e) (λ m f. entries_by messages s step m f) k

-- so does a cut
pub cut_end_lem : (s : List ℕ) → length s ≤ limit.bytes → cut_end (cut_of s) ≡ packet_by s (cut_by s) then λ v z. last_by s z
unfolding cut_of front_of
cut_end_lem s l =
    rw (le-leb (length s) limit.bytes l)
    (version_end (λ u. cut_end (got stops u λ h q. strict (walk 0x31 s h q thence messages_from s))) denied (λ a p. refl) s _ _ (λ p.
    number_end cut_end stops (λ a p. refl) s p _ _ λ h q.
    strict_end (walk 0x31 s h q thence messages_from s)
    ∙ thence_end (walk 0x31 s h q).ending (messages_from s) (λ e. number_by 2 s e then λ m f. entries_by messages s (cut_by s) m f then λ v z. last_by s z) (λ e.
    number_end (λ t. end_by t.ending) stopped (λ a p. refl) s e _ _ λ m f.
    thence_end (walk 0x32 s m f).ending (end_at s) (last_by s) (λ z. last z (leb (length s) z))
    ∙ ap (λ o. o then λ v z. last_by s z) (walk_end messages s l m f))
    ∙ ap (λ o. o then λ v e. number_by 2 s e then λ m f. entries_by messages s (cut_by s) m f then λ v z. last_by s z) (walk_end headers s l h q))
    ∙ sym (packet_then s (cut_by s) λ v z. last_by s z))
  where
    last : (z : ℕ) (t : Bool) → end_by (pick t (reached [] z) (stopped 3 z)).ending ≡ pick t (goes 0 z) (halts 3 z)
    last z true = refl
    last z false = refl

-- at a place of s where a length is due
module _ (s : List ℕ) (bs : Bytes s) (q : ℕ) where
  -- the length in the bytes there
  abbrev declared : ℕ
  declared = number (bytes_at 4 s q)

  -- a row that begins with a length has that
  begins_with : {d : ℕ} (y r : List ℕ) → d < 256 ^ 4 → Here s q (digits 4 d ++ y) r → declared ≡ d
  begins_with {d} y r l h = ap number (there 4 (front (digits 4 d) y h) (length_digits 4 d)) ∙ number_digits 4 d l

  -- what comes behind the length is the same, where it is by this one
  behind_length : (f g : ℕ → ℕ → Part) → f declared (q + 4) ≡ g declared (q + 4) → number_by 4 s q then f ≡ number_by 4 s q then g
  behind_length f g e = go (leb (q + 4) (length s))
    where
      go : (t : Bool) → pick t (goes declared (q + 4)) (halts 2 q) then f ≡ pick t (goes declared (q + 4)) (halts 2 q) then g
      go true = e
      go false = refl

  -- a length that is not known, and a value: as the whole reading has it
  value_measured : declared ≡ unknown → Follows (Plain (Body cut)) (LeadsBody cut) s q (number_by 4 s q then cut_by s)
  value_measured not =
      rw (behind_length (cut_by s) (value_by s) (rw (eq-eqb declared unknown not))) (turned to_body from_body to_leads from_leads ((value_goes s bs).follows q))
    where
      to_body : (v : ℕ) (x r : List ℕ) → Here s q x r → Plain (Body whole) v x → Plain (Body cut) v x
      to_body v x r h (Plain.plain (Body.body {y = z} l y)) = let e = sym (begins_with z r l h) ∙ not in plain (Body.body {y = z} l (rw e (Says.measured y)))

      from_body : (v : ℕ) (x r : List ℕ) → Here s q x r → Plain (Body cut) v x → Plain (Body whole) v x
      from_body v x r h (Plain.plain (Body.body {y} l (Says.known i))) = absurd (omega (arith, begins_with y r l h))
      from_body v x r h (Plain.plain (Body.body l (Says.measured y))) = plain (Body.body l y)

      to_leads : (r x : List ℕ) (f : Field) → drop q s ≡ x ++ r → LeadsBody whole r x f → LeadsBody cut r x f
      to_leads r x f e (LeadsBody.size z) = rw z (LeadsBody.size Sizes.four)
      to_leads r x f e (LeadsBody.inside {y} l i) = LeadsBody.inside l (sym (begins_with y r l (record { same = e })) ∙ not, i)

      from_leads : (r x : List ℕ) (f : Field) → drop q s ≡ x ++ r → LeadsBody cut r x f → LeadsBody whole r x f
      from_leads r x f e (LeadsBody.size Sizes.four) = LeadsBody.size refl
      from_leads r x f e (LeadsBody.size (Sizes.known i n)) = absurd (n (ap (λ y. number (take 4 y)) (sym e) ∙ not))
      from_leads r x f e (LeadsBody.inside l i) = LeadsBody.inside l i.1

  -- a length that is known, and as many bytes
  span_known : declared ≢ unknown → Follows (Plain (Body cut)) (LeadsBody cut) s q (number_by 4 s q then cut_by s)
  span_known known =
      rw (behind_length (cut_by s) (span_by s) (rw (ne_eqb declared unknown known)))
      (record { ends = ends; stops = λ a p u. halted u.leads u.stands u.here u.refuses; told = told })
    where
      ends : (v : ℕ) (x r : List ℕ) → Plain (Body cut) v x → Here s q x r → number_by 4 s q then span_by s ≡ goes v (q + length x)
      ends v x r (Plain.plain (Body.body {y} l (Says.measured i))) h = absurd (known (begins_with y r l h))
      ends v x r (Plain.plain (Body.body l (Says.known {y} e))) h =
          let d : ℕ = length y in
          let o : number_by 4 s q ≡ goes d (q + 4) =
          (number_follows 4 s bs q (omega arith)).ends d (digits 4 d) (y ++ r) (Number.is l) (front (digits 4 d) y h)
          in
          let i = inside h (omega arith) in
          rw (o, le-leb (q + 4 + d) (length s) (omega arith)) (ap (goes 0) (omega arith))

      -- the length refuses
      halt : {f : Field} {a : ℕ} → Sizes (drop q s) f → Refuses f (drop q s) a → number_by 4 s q then span_by s ≡ halts a q
      halt Sizes.four (Refuses.short l) = rw (lt-leb (q + 4) (length s) (omega (arith, length-drop q s)))
      halt (Sizes.known i n) (Refuses.short l) = absurd (omega arith)
      halt (Sizes.known i n) (Refuses.too_few l m) =
          let j : length s < q + 4 + declared = omega (arith, length-drop q s) in
          rw (le-leb (q + 4) (length s) (omega (arith, length-drop q s)), lt-leb (q + 4 + declared) (length s) j) (ap (halts 2) (omega arith))

      halted : {r x : List ℕ} {f : Field} {a p : ℕ} → LeadsBody cut r x f → drop q s ≡ x ++ r → p ≡ q + length x → Refuses f r a
          → number_by 4 s q then span_by s ≡ halts a p
      halted {r} (LeadsBody.inside {y} l i) e n w = absurd (known (begins_with y r l (record { same = e }) ∙ i.0))
      halted {f} (LeadsBody.size z) e n w = rw (n, add-zero q) (halt {f = f} (rw e z) (rw e w))

      refused : {f : Field} {a : ℕ} → Sizes (drop q s) f → Refuses f (drop q s) a → Refused (LeadsBody cut) s q a q
      refused z w = refuse (record { same = refl }) (sym (add-zero q)) (LeadsBody.size z) w

      stands : (d : ℕ) → d ≢ unknown → Stood 4 s q d → q + 4 + d ≤ length s → Standing (Plain (Body cut)) s q 0 (q + 4 + d)
      stands d n m l =
          let y = bytes_at d s (q + 4) in
          let long : length y ≡ d = length_bytes d s (q + 4) l in
          let few : length y < unknown = omega (arith, m.bound) in
          record {
            row = digits 4 d ++ y;
            rest = drop (q + 4 + d) s;
            stands = plain (Body.body m.bound (subst (λ n. Says n y) long (Says.known few)));
            here = join m.here refl (stood d s (q + 4));
            next = simp length-append (omega arith);
          }

      told : Tells (Plain (Body cut)) (LeadsBody cut) s q (number_by 4 s q then span_by s)
      told =
          let P : Part → Type 0 = Tells (Plain (Body cut)) (LeadsBody cut) s q in
          picked (λ o. P (o then span_by s)) (leb (q + 4) (length s)) _ _
          (λ t.
          let i = leb-true (q + 4) (length s) t in
          picked P (leb (q + 4 + declared) (length s)) _ _
          (λ u. stands declared known (number_stood s bs q 4 i) (leb-true (q + 4 + declared) (length s) u))
          (λ u.
          let j = leb-false (q + 4 + declared) (length s) u in
          let back : q + 4 - 4 ≡ q = omega arith in
          let enough : 4 ≤ length (drop q s) = omega (arith, length-drop q s) in
          let few : length (drop q s) < 4 + number (take 4 (drop q s)) = omega (arith, length-drop q s) in
          rw back (refused (Sizes.known enough known) (Refuses.too_few enough few))))
          (λ t.
          let i = leb-false (q + 4) (length s) t in
          let few : length (drop q s) < 4 = omega (arith, length-drop q s) in
          refused Sizes.four (Refuses.short few))

  cut_follows : Follows (Plain (Body cut)) (LeadsBody cut) s q (number_by 4 s q then cut_by s)
  cut_follows = go (eqb declared unknown) refl
    where
      go : (t : Bool) → eqb declared unknown ≡ t → Follows (Plain (Body cut)) (LeadsBody cut) s q (number_by 4 s q then cut_by s)
      go true e = value_measured (eqb-true declared unknown e)
      go false e = span_known (eqb-false declared unknown e)

-- the cut goes over values as its way has it
pub cut_goes : (s : List ℕ) → Bytes s → Goes cut s (cut_by s)
cut_goes s bs = record { follows = cut_follows s bs }

cut_stops : (x : Cut) (a p : ℕ) → cut_end x ≡ halts a p → x ≡ stops a p
cut_stops (found es z) a p e = goes_halts e
cut_stops (stops b q) a p e = cc

pub cut_over : (s : List ℕ) → limit.bytes < length s → cut_of s ≡ stops 1 0
unfolding cut_of front_of
cut_over s l = rw (lt-leb (length s) limit.bytes l)

-- bytes left over refuse the cut
cut_left : {s : List ℕ} {a p : ℕ} → Bytes s → length s ≤ limit.bytes → LeftOver (IsPacket cut) s a p → cut_end (cut_of s) ≡ halts a p
cut_left bs l (LeftOver.behind {x} b r i) =
    cut_end_lem (x ++ (b ∷ r)) l
    ∙ rw (
      way_ends (x ++ (b ∷ r)) bs (cut_by (x ++ (b ∷ r))) (cut_goes (x ++ (b ∷ r)) bs) x (b ∷ r) i (record { same = refl }),
      lt-leb (length (x ++ (b ∷ r))) (length x) (omega (arith, length-append x (b ∷ r))),
    )

-- what an end of a cut says
abbrev TellsCut : List ℕ → Part → Type 0
TellsCut s (goes v n) = IsPacket cut s
TellsCut s (halts a p) = RefusedCut s a p

cut_tells : (s : List ℕ) → Bytes s → TellsCut s (cut_end (cut_of s))
cut_tells s bs = within (leb (length s) limit.bytes) refl
  where
    left : {v n : ℕ} (x r : List ℕ) → Plain (IsPacket cut) v x → s ≡ x ++ r → n ≡ length x → n < length s → LeftOver (IsPacket cut) s 3 n
    left x r (Plain.plain i) e n l = rw n (left_behind (IsPacket cut) s x r i e (omega arith))

    all : {v : ℕ} (x r : List ℕ) → Plain (IsPacket cut) v x → Here s 0 x r → length x ≡ length s → IsPacket cut s
    all x r (Plain.plain i) h l = rw (all_here h l) at i

    last : length s ≤ limit.bytes → (o : Part) → TellsPacket cut s o → TellsCut s (o then λ v z. last_by s z)
    last l (halts a p) q = RefusedCut.not_cut l q
    last l (goes v z) d = picked (TellsCut s) (leb (length s) z) _ _
        (λ t.
        let long : length d.row ≡ length s = omega (arith, leb-true (length s) z t, d.next, ap length d.here.same, length-append d.row d.rest) in
        all d.row d.rest d.stands d.here long) λ t.
        RefusedCut.left_over l (left d.row d.rest d.stands d.here.same (omega (arith, d.next)) (leb-false (length s) z t))

    within : (t : Bool) → leb (length s) limit.bytes ≡ t → TellsCut s (cut_end (cut_of s))
    within true t =
        let l = leb-true (length s) limit.bytes t in
        rw (cut_end_lem s l) (last l (packet_by s (cut_by s)) (way_told s bs (cut_by s) (cut_goes s bs)))
    within false t = let l = leb-false (length s) limit.bytes t in rw (cut_over s l) (RefusedCut.over_limit l)

-- what is cut is gone over as a packet
pub cut_packet : (s : List ℕ) (es : List Entry) (n : ℕ) → Bytes s → cut_of s ≡ found es n → IsPacket cut s
cut_packet s es n bs e = rw e at (cut_tells s bs)

-- The cut is refused exactly where the limit, version 3, a field or bytes left over refuse the packet, and with that answer and place.
pub cut_refused_exactly : (s : List ℕ) (a p : ℕ) → Bytes s → cut_of s ≡ stops a p ↔ RefusedCut s a p
cut_refused_exactly s a p bs = (λ e. rw e at (cut_tells s bs), λ q. cut_stops (cut_of s) a p (from q))
  where
    from : {a p : ℕ} → RefusedCut s a p → cut_end (cut_of s) ≡ halts a p
    from (RefusedCut.over_limit l) = ap cut_end (cut_over s l)
    from (RefusedCut.not_cut l q) = cut_end_lem s l ∙ rw (way_halts s bs (cut_by s) (cut_goes s bs) q)
    from (RefusedCut.left_over l x) = cut_left bs l x
