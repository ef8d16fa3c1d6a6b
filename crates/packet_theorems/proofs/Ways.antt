-- A packet is gone over just as the grammar of its refusals has it, by the whole reading and by the cut: once over how the values are gone over.
use Rattle.std.specs.Prelude.{◌+◌, ◌^◌, ◌≤◌, ◌<◌, ◌≡◌, ◌≢◌, ◌⊎◌, ◌∷◌, ◌++◌, Ok}
use Rattle.wire.proofs.Kit.{ℕ, zero, suc, refl, sym, ap, subst, ◌∙◌, inl, inr, List, [], append-nil, Bool, true, false}
use Rattle.wire.proofs.Kit.{arith, add-zero, length, take, drop, get_or, length-drop, leb, eqb, le-leb, lt-leb, ne_eqb, leb-true, leb-false, eqb-true, eqb-false}
use Rattle.wire.specs.Choice.{pick}
use Rattle.wire.specs.Number.{digits, Bytes}
use Rattle.wire.specs.Field.{to, u8_at, tag_at, past_tag}
use Rattle.wire.proofs.Laws.{picked}
use Rattle.wire.proofs.Stands.{Here, inside as reached, tag_at_lem, byte_at, byte_stood}
use Rattle.amf0_theorems.specs.Refusal.{Field, Refuses, Refused}
use Rattle.amf0_theorems.specs.Refusal.Field.{some, fixed}
use Rattle.packet.specs.Head.{version_at}
use Rattle.packet.specs.Packet.{Label, IsHeader, IsMessage}
use Rattle.packet_theorems.specs.Refusal.{Way, LeadsLabel, Entries, LeadsEntries, IsPacket, LeadsPacket, Seven, RefusedPacket}
use Rattle.packet_theorems.proofs.Parts.{Part, goes, halts, ◌then◌, then_then, Standing, Tells, Follows, Plain, plain, Both, LeadsBoth, in_turn, turned, Only, only_refused, one_field, Number, number_by, number_follows}
use Rattle.packet_theorems.proofs.Labels.{Labelled, Kinds, headers, messages}
use Rattle.wire.specs.Answer.{denied}

-- ---- entries

-- the bytes behind an entry's label: the length that it declares, and its value
pub data Body (w : Way) : List ℕ → Type 0 where
  body : {d : ℕ} {y : List ℕ} → d < 256 ^ 4 → w.Stands d y → Body w (digits 4 d ++ y)

-- the fields of those
pub data LeadsBody (w : Way) (r : List ℕ) : List ℕ → Field → Type 0 where
  size : {f : Field} → w.Size r f → LeadsBody w r [] f
  inside : {d : ℕ} {y : List ℕ} {f : Field} → d < 256 ^ 4 → w.Inside d r y f → LeadsBody w r (digits 4 d ++ y) f

-- the values of s are gone over as the way has it: `step` goes over the value, with the length that was declared, from a place on
pub record Goes (w : Way) (s : List ℕ) (step : ℕ → ℕ → Part) : Type 0 where
  pub follows : (q : ℕ) → Follows (Plain (Body w)) (LeadsBody w) s q (number_by 4 s q then step)

-- n entries of a kind
unfoldable pub entries_by : {kind : ℕ} {Kind : Label → Type 0} → Kinds kind Kind → List ℕ → (ℕ → ℕ → Part) → ℕ → ℕ → Part
entries_by k s step zero at = goes 0 at
entries_by k s step (suc n) at = k.label_by s at then λ v q. number_by 4 s q then step then λ u e. entries_by k s step n e

-- no entries: nothing stands, and no field is due
none_follow : (w : Way) (Kind : Label → Type 0) (s : List ℕ) (at : ℕ) → Follows (Plain (Entries w Kind 0)) (λ r. LeadsEntries w Kind r 0) s at (goes 0 at)
none_follow w Kind s at =
    record {
      ends = ends;
      stops = λ a p q. absurd (never q.leads);
      told = record { row = []; rest = drop at s; stands = plain Entries.none; here = record { same = refl }; next = sym (add-zero at) };
    }
  where
    ends : (v : ℕ) (x r : List ℕ) → Plain (Entries w Kind 0) v x → Here s at x r → goes 0 at ≡ goes v (at + length x)
    ends v x r (Plain.plain Entries.none) h = ap (goes 0) (sym (add-zero at))

    never : {r x : List ℕ} {f : Field} → LeadsEntries w Kind r 0 x f → ⊥
    never = elim [ ]

-- an entry, and those behind it
module _ (w : Way) (Kind : Label → Type 0) (n : ℕ) where
  abbrev Row : ℕ → List ℕ → Type 0
  Row = Both (Plain (Labelled Kind)) (λ v. Both (Plain (Body w)) (λ u. Plain (Entries w Kind n)))

  abbrev LeadsRow : List ℕ → List ℕ → Field → Type 0
  LeadsRow = LeadsBoth (Plain (Labelled Kind)) (λ r. LeadsLabel Kind) (λ v. LeadsBoth (Plain (Body w)) (LeadsBody w) (λ u r. LeadsEntries w Kind r n))

  to_entries : (v : ℕ) (x : List ℕ) → Row v x → Plain (Entries w Kind (suc n)) v x
  to_entries v x (Both.both (Plain.plain l) (Both.both (Plain.plain (Body.body d y)) (Plain.plain z))) = plain (Entries.more l.kind l.head d y z)

  from_entries : (v : ℕ) (x : List ℕ) → Plain (Entries w Kind (suc n)) v x → Row v x
  from_entries v x (Plain.plain (Entries.more {l} k h d y z)) =
      Both.both (plain (record { label = l; kind = k; head = h })) (Both.both (plain (Body.body d y)) (plain z))

  to_leads : (r x : List ℕ) (f : Field) → LeadsRow r x f → LeadsEntries w Kind r (suc n) x f
  to_leads r x f (LeadsBoth.one l) = LeadsEntries.label l
  to_leads r x f (LeadsBoth.two {x = y} (Plain.plain l) (LeadsBoth.one (LeadsBody.size z))) = rw (append-nil y) (LeadsEntries.declared l.kind l.head z)
  to_leads r x f (LeadsBoth.two (Plain.plain l) (LeadsBoth.one (LeadsBody.inside d i))) = LeadsEntries.inside l.kind l.head d i
  to_leads r x f (LeadsBoth.two (Plain.plain l) (LeadsBoth.two (Plain.plain (Body.body d y)) z)) = LeadsEntries.next l.kind l.head d y z

  from_leads : (r x : List ℕ) (f : Field) → LeadsEntries w Kind r (suc n) x f → LeadsRow r x f
  from_leads r x f (LeadsEntries.label l) = LeadsBoth.one l
  from_leads r x f (LeadsEntries.declared {l} k h z) =
      let i : LeadsRow r (x ++ []) f = LeadsBoth.two (plain (record { label = l; kind = k; head = h })) (LeadsBoth.one (LeadsBody.size z)) in
      rw (append-nil x) at i
  from_leads r x f (LeadsEntries.inside {l} k h d i) =
      LeadsBoth.two (plain (record { label = l; kind = k; head = h })) (LeadsBoth.one (LeadsBody.inside d i))
  from_leads r x f (LeadsEntries.next {l} k h d y z) =
      LeadsBoth.two (plain (record { label = l; kind = k; head = h })) (LeadsBoth.two (plain (Body.body d y)) z)

module _ {w : Way} {kind : ℕ} {Kind : Label → Type 0} (k : Kinds kind Kind) (s : List ℕ) (bs : Bytes s) (step : ℕ → ℕ → Part) (g : Goes w s step) where
  entries_follows : (n at : ℕ) → Follows (Plain (Entries w Kind n)) (λ r. LeadsEntries w Kind r n) s at (entries_by k s step n at)
  unfolding entries_by
  entries_follows zero at = none_follow w Kind s at
  entries_follows (suc n) at =
      turned (λ v x r h. to_entries w Kind n v x) (λ v x r h. from_entries w Kind n v x) (λ r x f e. to_leads w Kind n r x f) (λ r x f e. from_leads w Kind n r x f)
      (in_turn (λ v q. number_by 4 s q then step then λ u e. entries_by k s step n e) (k.label_by s at) (k.follows s bs at) λ v x r l h.
      in_turn (λ u e. entries_by k s step n e) (number_by 4 s (at + length x) then step) (g.follows (at + length x)) λ u y z b i.
      entries_follows n (at + length x + length y))

-- ---- the version

-- going over a zero and the version
abbrev pub version_by : List ℕ → Part
version_by s = past_tag halts (version_at s) λ p. goes 0 p

-- behind a zero
version_byte : (b : ℕ) (r : List ℕ) → version_at (0 ∷ b ∷ r) ≡ pick (eqb b 0) (Ok (to 2)) (pick (eqb b 3) (denied 7 1) (denied 3 1))
unfolding version_at
version_byte b r =
    rw (
      tag_at_lem {s = 0 ∷ b ∷ r} {r = b ∷ r} {at = 0} (0 ∷ []) (record { same = refl }) (omega arith),
      byte_at {s = 0 ∷ b ∷ r} {r = r} {at = 1} b (record { same = refl }),
    )

-- going over a zero byte
data Zero : List ℕ → Type 0 where
  nought : Zero (0 ∷ [])

abbrev zero_by : List ℕ → ℕ → Part
zero_by s at = pick (leb (at + 1) (length s)) (pick (eqb (get_or s at 0) 0) (goes 0 (at + 1)) (halts 3 at)) (halts 2 at)

zero_follows : (s : List ℕ) (at : ℕ) → Follows (Plain Zero) (λ r. Only (fixed (0 ∷ []))) s at (zero_by s at)
zero_follows s at = one_field ends stops told
  where
    ends : (v : ℕ) (x r : List ℕ) → Plain Zero v x → Here s at x r → zero_by s at ≡ goes v (at + length x)
    ends v x r (Plain.plain Zero.nought) h =
        let i : at + 1 ≤ length s = reached h (omega arith) in
        let e : get_or s at 0 ≡ 0 = cc ((byte_stood s at (omega arith)).same, h.same) in
        rw (le-leb (at + 1) (length s) i, e)

    stops : (a : ℕ) → Refuses (fixed (0 ∷ [])) (drop at s) a → zero_by s at ≡ halts a at
    stops a (Refuses.short l) = rw (lt-leb (at + 1) (length s) (omega (arith, length-drop at s)))
    stops a (Refuses.other_bytes l n) =
        let i : at < length s = omega (arith, length-drop at s) in
        rw (le-leb (at + 1) (length s) (omega arith), ne_eqb (get_or s at 0) 0 λ z. n (ap (take 1) (byte_stood s at i).same ∙ ap (λ b. b ∷ []) z))

    told : Tells (Plain Zero) (λ r. Only (fixed (0 ∷ []))) s at (zero_by s at)
    told =
        let P : Part → Type 0 = Tells (Plain Zero) (λ r. Only (fixed (0 ∷ []))) s at in
        picked P (leb (at + 1) (length s)) _ _
        (λ t.
        let i : at < length s = omega (arith, leb-true (at + 1) (length s) t) in
        let e = (byte_stood s at i).same in
        let enough : 1 ≤ length (drop at s) = omega (arith, length-drop at s) in
        picked P (eqb (get_or s at 0) 0) (goes 0 (at + 1)) (halts 3 at)
        (λ z.
        let same : drop at s ≡ 0 ∷ drop (at + 1) s = e ∙ ap (λ b. b ∷ drop (at + 1) s) (eqb-true (get_or s at 0) 0 z) in
        record { row = 0 ∷ []; rest = drop (at + 1) s; stands = plain Zero.nought; here = record { same = same }; next = refl })
        (λ z. only_refused s at (Refuses.other_bytes {x = 0 ∷ []} enough λ q. eqb-false (get_or s at 0) 0 z (cc (ap (take 1) e, q)))))
        (λ t.
        let few : length (drop at s) < 1 = omega (arith, leb-false (at + 1) (length s) t, length-drop at s) in
        only_refused s at (Refuses.short few))

-- but for version 3, the version is gone over as two zeros
version_second : (r : List ℕ) → (Seven (0 ∷ r) → ⊥) → version_by (0 ∷ r) ≡ zero_by (0 ∷ r) 1
unfolding version_at tag_at u8_at
version_second [] not = refl
version_second (c ∷ r) not = rw (version_byte c r, le-leb 2 (length (0 ∷ c ∷ r)) (omega arith)) (go (eqb c 0) (eqb c 3) refl)
  where
    go : (t u : Bool) → eqb c 3 ≡ u → past_tag halts (pick t (Ok (to 2)) (pick u (denied 7 1) (denied 3 1))) (λ p. goes 0 p) ≡ pick t (goes 0 2) (halts 3 1)
    go true u e = refl
    go false true e = absurd (not (rw (eqb-true c 3 e) Seven.begins))
    go false false e = refl

version_zeros : (s : List ℕ) → (Seven s → ⊥) → version_by s ≡ zero_by s 0 then λ v p. zero_by s p
unfolding version_at tag_at
version_zeros [] not = refl
version_zeros (b ∷ r) not = go (eqb b 0) refl
  where
    go : (t : Bool) → eqb b 0 ≡ t → version_by (b ∷ r) ≡ zero_by (b ∷ r) 0 then λ v p. zero_by (b ∷ r) p
    go true e =
        let z : b ≡ 0 = eqb-true b 0 e in
        let n : Seven (0 ∷ r) → ⊥ = rw z at not in
        let one : zero_by (0 ∷ r) 0 ≡ goes 0 1 = rw (le-leb 1 (length (0 ∷ r)) (omega arith)) in
        rw z (version_second r n ∙ sym (ap (λ o. o then λ v p. zero_by (0 ∷ r) p) one))
    go false e = rw (le-leb 1 (length (b ∷ r)) (omega arith), e)

-- ---- the packet

-- going over a packet
unfoldable pub packet_by : List ℕ → (ℕ → ℕ → Part) → Part
packet_by s step =
    version_by s then λ v p.
    number_by 2 s p then λ h q.
    entries_by headers s step h q then λ u e.
    number_by 2 s e then λ m f.
    entries_by messages s step m f

module _ (w : Way) where
  abbrev Fields : ℕ → List ℕ → Type 0
  Fields =
      Both (Plain Zero) λ u.
      Both (Plain Zero) λ v.
      Both (Number 2) λ h.
      Both (Plain (Entries w IsHeader h)) λ u.
      Both (Number 2) λ m. Plain (Entries w IsMessage m)

  abbrev LeadsFields : List ℕ → List ℕ → Field → Type 0
  LeadsFields =
      LeadsBoth (Plain Zero) (λ r. Only (fixed (0 ∷ []))) λ u.
      LeadsBoth (Plain Zero) (λ r. Only (fixed (0 ∷ []))) λ v.
      LeadsBoth (Number 2) (λ r. Only (some 2)) λ h.
      LeadsBoth (Plain (Entries w IsHeader h)) (λ r. LeadsEntries w IsHeader r h) λ u.
      LeadsBoth (Number 2) (λ r. Only (some 2)) λ m r. LeadsEntries w IsMessage r m

  to_packet : (v : ℕ) (x : List ℕ) → Fields v x → Plain (IsPacket w) v x
  to_packet v x (Both.both (Plain.plain Zero.nought) (Both.both (Plain.plain Zero.nought) (Both.both h (Both.both (Plain.plain y) (Both.both m (Plain.plain z)))))) =
      go h y m z
    where
      go : {h m : ℕ} {b e c z : List ℕ} → Number 2 h b → Entries w IsHeader h e → Number 2 m c → Entries w IsMessage m z
          → Plain (IsPacket w) 0 (0 ∷ 0 ∷ b ++ (e ++ (c ++ z)))
      go (Number.is h) y (Number.is m) z = plain (IsPacket.packet h y m z)

  -- behind the two zeros
  zeros : {u : ℕ} {y : List ℕ} → Both (Number 2) (λ h. Both (Plain (Entries w IsHeader h)) λ v. Both (Number 2) λ m. Plain (Entries w IsMessage m)) u y
      → Fields u (0 ∷ 0 ∷ y)
  zeros f = Both.both (plain Zero.nought) (Both.both (plain Zero.nought) f)

  from_packet : (v : ℕ) (x : List ℕ) → Plain (IsPacket w) v x → Fields v x
  from_packet v x (Plain.plain (IsPacket.packet h y m z)) = zeros (Both.both (Number.is h) (Both.both (plain y) (Both.both (Number.is m) (plain z))))

  -- behind the two zeros and the count of headers
  headers_lead : {h : ℕ} {r b y : List ℕ} {f : Field} → Number 2 h b → LeadsEntries w IsHeader r h y f → LeadsPacket w r (0 ∷ 0 ∷ b ++ y) f
  headers_lead (Number.is h) y = LeadsPacket.headers h y

  count_leads : {h : ℕ} {r b e : List ℕ} → Number 2 h b → Entries w IsHeader h e → LeadsPacket w r (0 ∷ 0 ∷ b ++ (e ++ [])) (some 2)
  count_leads {e = y} (Number.is h) e = rw (append-nil y) (LeadsPacket.message_count h e)

  messages_lead : {h m : ℕ} {r b e c y : List ℕ} {f : Field} → Number 2 h b → Entries w IsHeader h e → Number 2 m c → LeadsEntries w IsMessage r m y f
      → LeadsPacket w r (0 ∷ 0 ∷ b ++ (e ++ (c ++ y))) f
  messages_lead (Number.is h) e (Number.is m) y = LeadsPacket.messages h e m y

  to_field : (s : List ℕ) → (Seven s → ⊥) → (r x : List ℕ) (f : Field) → s ≡ x ++ r → LeadsFields r x f → LeadsPacket w r x f
  to_field s not r x f e (LeadsBoth.one Only.only) = LeadsPacket.zero
  to_field s not r x f e (LeadsBoth.two (Plain.plain Zero.nought) (LeadsBoth.one Only.only)) =
      LeadsPacket.version λ z q. not (subst Seven (sym (e ∙ ap (λ y. 0 ∷ y) q)) Seven.begins)
  to_field s not r x f e (LeadsBoth.two (Plain.plain Zero.nought) (LeadsBoth.two (Plain.plain Zero.nought) l)) = go l
    where
      go : {y : List ℕ} {f : Field}
          → LeadsBoth (Number 2) (λ r. Only (some 2)) (λ h. LeadsBoth (Plain (Entries w IsHeader h)) (λ r. LeadsEntries w IsHeader r h) λ u.
          LeadsBoth (Number 2) (λ r. Only (some 2)) λ m r. LeadsEntries w IsMessage r m) r y f
          → LeadsPacket w r (0 ∷ 0 ∷ y) f
      go (LeadsBoth.one Only.only) = LeadsPacket.header_count
      go (LeadsBoth.two h (LeadsBoth.one y)) = headers_lead h y
      go (LeadsBoth.two h (LeadsBoth.two (Plain.plain e) (LeadsBoth.one Only.only))) = count_leads h e
      go (LeadsBoth.two h (LeadsBoth.two (Plain.plain e) (LeadsBoth.two m y))) = messages_lead h e m y

  from_field : (r x : List ℕ) (f : Field) → LeadsPacket w r x f → LeadsFields r x f
  from_field r x f LeadsPacket.zero = LeadsBoth.one Only.only
  from_field r x f (LeadsPacket.version t) = LeadsBoth.two {x = 0 ∷ []} {y = []} (plain Zero.nought) (LeadsBoth.one Only.only)
  from_field r x f LeadsPacket.header_count =
      LeadsBoth.two {x = 0 ∷ []} {y = 0 ∷ []} (plain Zero.nought) (LeadsBoth.two {x = 0 ∷ []} {y = []} (plain Zero.nought) (LeadsBoth.one Only.only))
  from_field r x f (LeadsPacket.headers h y) =
      LeadsBoth.two (plain Zero.nought) (LeadsBoth.two (plain Zero.nought) (LeadsBoth.two (Number.is h) (LeadsBoth.one y)))
  from_field r x f (LeadsPacket.message_count {h} {x = y} l e) =
      let i : LeadsFields r (0 ∷ 0 ∷ digits 2 h ++ (y ++ [])) (some 2) =
      LeadsBoth.two (plain Zero.nought) (LeadsBoth.two (plain Zero.nought) (LeadsBoth.two (Number.is l) (LeadsBoth.two (plain e) (LeadsBoth.one Only.only))))
      in
      rw (append-nil y) at i
  from_field r x f (LeadsPacket.messages h e m y) =
      LeadsBoth.two (plain Zero.nought) (LeadsBoth.two (plain Zero.nought) (LeadsBoth.two (Number.is h) (LeadsBoth.two (plain e) (LeadsBoth.two (Number.is m) y))))

module _ {w : Way} (s : List ℕ) (bs : Bytes s) (step : ℕ → ℕ → Part) (g : Goes w s step) where
  packet_follows : (Seven s → ⊥) → Follows (Plain (IsPacket w)) (LeadsPacket w) s 0 (packet_by s step)
  unfolding packet_by
  packet_follows not =
      rw (
        version_zeros s not,
        then_then (zero_by s 0) (λ v p. zero_by s p) λ v p.
            number_by 2 s p then λ h q. entries_by headers s step h q then λ u e. number_by 2 s e then λ m f. entries_by messages s step m f,
      )
      (turned (λ v x r h. to_packet w v x) (λ v x r h. from_packet w v x) (to_field w s not) (λ r x f e. from_field w r x f)
      (in_turn _ (zero_by s 0) (zero_follows s 0) λ v o r a b.
      in_turn _ (zero_by s (0 + length o)) (zero_follows s (0 + length o)) λ v x r a b.
      let p : ℕ = 0 + length o + length x in
      in_turn _ (number_by 2 s p) (number_follows 2 s bs p (omega arith)) λ h y r a b.
      in_turn _ (entries_by headers s step h (p + length y)) (entries_follows headers s bs step g h (p + length y)) λ u z r a b.
      in_turn _ (number_by 2 s (p + length y + length z)) (number_follows 2 s bs (p + length y + length z) (omega arith)) λ m t r a b.
      entries_follows messages s bs step g m (p + length y + length z + length t)))

-- ---- version 3

pub seven_version : {s : List ℕ} → Seven s → version_at s ≡ denied 7 1
seven_version (Seven.begins {r}) = version_byte 3 r

seven_halts : {s : List ℕ} (step : ℕ → ℕ → Part) → Seven s → packet_by s step ≡ halts 7 1
unfolding packet_by
seven_halts step v = rw (seven_version v)

-- an input of version 3 does not begin with two zeros
seven_front : {s z : List ℕ} → Seven s → s ≡ 0 ∷ 0 ∷ z → ⊥
seven_front Seven.begins e = let z : ◌≡◌ {A = ℕ} 3 0 = cc in omega arith

-- its first byte is a zero
seven_tag : {s : List ℕ} {a : ℕ} → Seven s → Refuses (fixed (0 ∷ [])) s a → ⊥
seven_tag Seven.begins (Refuses.short l) = omega arith
seven_tag Seven.begins (Refuses.other_bytes l n) = n refl

-- and behind that byte stands 3
seven_behind : {s r : List ℕ} → Seven s → ((z : List ℕ) → r ≢ 3 ∷ z) → s ≡ 0 ∷ r → ⊥
seven_behind (Seven.begins {r = t}) n e = n t (cc)

-- then no field is due that refuses
seven_alone : {w : Way} {s : List ℕ} {a p : ℕ} → Seven s → Refused (LeadsPacket w) s 0 a p → ⊥
seven_alone {w} {s} {a} {p} v q = go q.leads q.refuses q.stands
  where
    go : {r z : List ℕ} {f : Field} → LeadsPacket w r z f → Refuses f r a → s ≡ z ++ r → ⊥
    go LeadsPacket.zero u e = seven_tag {a = a} v (rw e u)
    go (LeadsPacket.version t) u e = seven_behind v t e
    go LeadsPacket.header_count u e = seven_front v e
    go (LeadsPacket.headers l y) u e = seven_front v e
    go (LeadsPacket.message_count l y) u e = seven_front v e
    go (LeadsPacket.messages l y m z) u e = seven_front v e

-- nor does a packet stand there
seven_packet : {w : Way} {s x r : List ℕ} → Seven s → IsPacket w x → Here s 0 x r → ⊥
seven_packet v (IsPacket.packet l y m z) h = seven_front v h.same

-- an input is of version 3 or not
seven_or : (s : List ℕ) → Seven s ⊎ (Seven s → ⊥)
seven_or [] = inr (elim [ ])
seven_or (b ∷ []) = inr λ v. long v refl
  where
    long : {s : List ℕ} → Seven s → s ≡ b ∷ [] → ⊥
    long Seven.begins e = absurd (omega (arith, ap length e))
seven_or (b ∷ c ∷ r) = go (eqb b 0) (eqb c 3) refl refl
  where
    both : {b c : ℕ} {r : List ℕ} → Seven (b ∷ c ∷ r) → (b ≡ 0) × (c ≡ 3)
    both Seven.begins = (refl, refl)

    go : (t u : Bool) → eqb b 0 ≡ t → eqb c 3 ≡ u → Seven (b ∷ c ∷ r) ⊎ (Seven (b ∷ c ∷ r) → ⊥)
    go true true e f = inl (rw (eqb-true b 0 e, eqb-true c 3 f) Seven.begins)
    go true false e f = inr λ v. eqb-false c 3 f (both v).1
    go false u e f = inr λ v. eqb-false b 0 e (both v).0

-- ---- what going over a packet comes to

-- what an end of going over a packet says: a packet stands at the front, or the input is refused as one
abbrev pub TellsPacket : (w : Way) (s : List ℕ) → Part → Type 0
TellsPacket w s (goes v n) = Standing (Plain (IsPacket w)) s 0 v n
TellsPacket w s (halts a p) = RefusedPacket w s a p

module _ {w : Way} (s : List ℕ) (bs : Bytes s) (step : ℕ → ℕ → Part) (g : Goes w s step) where
  pub way_told : TellsPacket w s (packet_by s step)
  way_told = go (seven_or s)
    where
      field : (o : Part) → Tells (Plain (IsPacket w)) (LeadsPacket w) s 0 o → TellsPacket w s o
      field (goes v n) d = d
      field (halts a p) q = RefusedPacket.field q

      go : Seven s ⊎ (Seven s → ⊥) → TellsPacket w s (packet_by s step)
      go (inl v) = rw (seven_halts step v) (RefusedPacket.version_3 v)
      go (inr not) = field (packet_by s step) (packet_follows s bs step g not).told

  pub way_halts : {a p : ℕ} → RefusedPacket w s a p → packet_by s step ≡ halts a p
  way_halts (RefusedPacket.version_3 v) = seven_halts step v
  way_halts (RefusedPacket.field {a} {p} q) = (packet_follows s bs step g (λ v. seven_alone v q)).stops a p q

  pub way_ends : (x r : List ℕ) → IsPacket w x → Here s 0 x r → packet_by s step ≡ goes 0 (length x)
  way_ends x r i h = (packet_follows s bs step g (λ v. seven_packet v i h)).ends 0 x r (plain i) h ∙ ap (goes 0) (omega arith)

-- ---- one way and another

-- what is gone over by one way is gone over by another, where that is so of values
module _ {w u : Way} (stands : (d : ℕ) (y : List ℕ) → w.Stands d y → u.Stands d y) where
  pub entries_carried : {Kind : Label → Type 0} {n : ℕ} {x : List ℕ} → Entries w Kind n x → Entries u Kind n x
  entries_carried Entries.none = Entries.none
  entries_carried (Entries.more {d} {y} k h l e z) = Entries.more k h l (stands d y e) (entries_carried z)

  pub packet_carried : {x : List ℕ} → IsPacket w x → IsPacket u x
  packet_carried (IsPacket.packet h x m y) = IsPacket.packet h (entries_carried x) m (entries_carried y)

-- values are gone over by one way, where r is left, as they are by another, where q is left
pub record Carries (w u : Way) (r q : List ℕ) : Type 0 where
  pub size : (f : Field) → w.Size r f → u.Size q f
  pub stands : (d : ℕ) (y : List ℕ) → w.Stands d y → u.Stands d y
  pub inside : (d : ℕ) (y : List ℕ) (f : Field) → w.Inside d r y f → u.Inside d q y f
  pub version : ((z : List ℕ) → r ≢ 3 ∷ z) → (z : List ℕ) → q ≢ 3 ∷ z

-- so the same fields lead on
module _ {w u : Way} {r q : List ℕ} (c : Carries w u r q) where
  leads_carried : {Kind : Label → Type 0} {n : ℕ} {x : List ℕ} {f : Field} → LeadsEntries w Kind r n x f → LeadsEntries u Kind q n x f
  leads_carried (LeadsEntries.label l) = LeadsEntries.label l
  leads_carried {f} (LeadsEntries.declared k h z) = LeadsEntries.declared k h (c.size f z)
  leads_carried {f} (LeadsEntries.inside {d} {y} k h l i) = LeadsEntries.inside k h l (c.inside d y f i)
  leads_carried (LeadsEntries.next {d} {y} k h l e z) = LeadsEntries.next k h l (c.stands d y e) (leads_carried z)

  pub fields_carried : {x : List ℕ} {f : Field} → LeadsPacket w r x f → LeadsPacket u q x f
  fields_carried LeadsPacket.zero = LeadsPacket.zero
  fields_carried (LeadsPacket.version t) = LeadsPacket.version (c.version t)
  fields_carried LeadsPacket.header_count = LeadsPacket.header_count
  fields_carried (LeadsPacket.headers h y) = LeadsPacket.headers h (leads_carried y)
  fields_carried (LeadsPacket.message_count h y) = LeadsPacket.message_count h (entries_carried c.stands y)
  fields_carried (LeadsPacket.messages h y m z) = LeadsPacket.messages h (entries_carried c.stands y) m (leads_carried z)
