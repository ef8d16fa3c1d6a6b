-- Where no length that the cut comes to is known, the whole reading answers as the cut does, at the same place, in a room for all its records.
use Rattle.std.specs.Prelude.{◌*◌, ◌^◌, ◌≤◌, ◌<◌, ◌≡◌, ◌∷◌, ◌++◌}
use Rattle.wire.proofs.Kit.{ℕ, suc, refl, sym, ap, ◌∙◌, List, [], append_assoc, Bool, true, false, arith, length, take}
use Rattle.wire.proofs.Kit.{length-append, take_at, leb, lit<, lt-leb, leb-true, leb-false}
use Rattle.wire.specs.Choice.{pick}
use Rattle.wire.specs.Number.{digits, number, Bytes}
use Rattle.wire.specs.Utf8.{ends}
use Rattle.wire.specs.Limit as limit
use Rattle.wire.proofs.Laws.{length_digits, number_digits}
use Rattle.image.specs.Due.{Due, end, stop, seen, due}
use Rattle.image.specs.Whole.{Whole, bytes, accepted, refused, all}
use Rattle.image.proofs.Settle.{ended, all_refused}
use Rattle.amf0.specs.Standard.UTF-8.{short}
use Rattle.amf0_theorems.specs.Refusal.{Field, Bars, Refuses, Leads}
use Rattle.amf0_theorems.specs.Refusal.Field.{some}
use Rattle.amf0_theorems.proofs.Refused.{refuse, onward, reworded}
use Rattle.packet.specs.Head.{unknown}
use Rattle.packet.specs.Packet.{Label, Head, IsHeader, IsMessage}
use Rattle.packet.specs.Reading.{packet_at, incomplete_of, whole_of}
use Rattle.packet.specs.Entry.{Cut, found, stops, cut_of}
use Rattle.packet_theorems.specs.Cuts.{Says}
use Rattle.packet_theorems.specs.Refusal.{Way, whole, Sizes, cut, measuring, lengths, Entries, LeadsEntries, IsPacket, LeadsPacket, RefusedPacket, NoneKnown, Measured}
use Rattle.packet_theorems.specs.Why.{answered}
use Rattle.packet_theorems.proofs.Parts.{Part, goes, halts, ◌then◌, Plain}
use Rattle.packet_theorems.proofs.Ways.{Goes, packet_by, TellsPacket, way_told, way_halts, way_ends, entries_carried, packet_carried, Carries, fields_carried}
use Rattle.packet_theorems.proofs.Said.{says_value}
use Rattle.packet_theorems.proofs.Outcome.{packet_bounded}
use Rattle.packet_theorems.proofs.Taken.{roomy}
use Rattle.packet_theorems.proofs.Refusals.{end_of, value_by, value_goes, packet_end, cut_end, cut_by, cut_goes, last_by, cut_end_lem, cut_over}
use Rattle.packet_theorems.proofs.Reasons.{refused_some}

-- ---- what is measured is gone over alike

-- what is gone over where no length is known is so by the cut, and by the whole reading
to_cut : (r : List ℕ) → Carries measuring cut r r
to_cut r = record { size = λ f z. rw z Sizes.four; stands = λ d y e. rw e.0 (Says.measured e.1); inside = λ d y f i. i; version = λ t. t }

to_whole : (r : List ℕ) → Carries measuring whole r r
to_whole r = record { size = λ f z. z; stands = λ d y e. e.1; inside = λ d y f i. i.1; version = λ t. t }

-- how going over what is measured ends
gone_to : {s : List ℕ} → Measured s → Part
gone_to (Measured.refused {a} {p} q) = halts a p
gone_to (Measured.begins {x} r e i) = goes 0 (length x)

-- so it ends by every way that goes over it
module _ {w : Way} (s : List ℕ) (bs : Bytes s) (step : ℕ → ℕ → Part) (g : Goes w s step) (c : (r : List ℕ) → Carries measuring w r r) where
  gone_to_lem : (m : Measured s) → packet_by s step ≡ gone_to m
  unfolding gone_to
  gone_to_lem (Measured.refused (RefusedPacket.version_3 v)) = way_halts s bs step g (RefusedPacket.version_3 v)
  gone_to_lem (Measured.refused (RefusedPacket.field q)) = way_halts s bs step g (RefusedPacket.field (reworded (λ r x f l. fields_carried (c r) l) q))
  gone_to_lem (Measured.begins {x} r e i) = way_ends s bs step g x r (packet_carried (c r).stands i) (record { same = e })

gone_alike : (s : List ℕ) → Bytes s → Measured s → packet_by s (cut_by s) ≡ packet_by s (value_by s)
gone_alike s bs m = gone_to_lem s bs (cut_by s) (cut_goes s bs) to_cut m ∙ sym (gone_to_lem s bs (value_by s) (value_goes s bs) to_whole m)

-- ---- the answers

-- what a reading that makes these bytes comes to, by how going over the input ends
comes_to_lem : Part → List ℕ → Whole
comes_to_lem (goes v n) b = accepted n b
comes_to_lem (halts a p) b = refused a p

ended_comes : (d : Due) (b : List ℕ) → ended d b ≡ comes_to_lem (end_of d) b
unfolding comes_to_lem
ended_comes (end n) b = refl
ended_comes (stop a p) b = refl
ended_comes (seen fact d) b = ended_comes d b
ended_comes (due r p d) b = ended_comes d b

cut_comes : (x : Cut) (b : List ℕ) → answered x b ≡ comes_to_lem (cut_end x) b
unfolding comes_to_lem
cut_comes (found es n) b = refl
cut_comes (stops a p) b = refl

-- with bytes left over, it is refused as the cut is
all_comes : (w : Way) (s b : List ℕ) (o : Part) → TellsPacket w s o → all s (comes_to_lem o b) ≡ comes_to_lem (o then λ v z. last_by s z) b
unfolding comes_to_lem
all_comes w s b (halts a p) q = all_refused s a p (refused_some q)
all_comes w s b (goes v n) d = go (leb (length s) n)
  where
    go : (t : Bool) → pick t (accepted n b) (refused 3 n) ≡ comes_to_lem (pick t (goes 0 n) (halts 3 n)) b
    go true = refl
    go false = refl

over : (s : List ℕ) (room : ℕ) → limit.bytes < length s → incomplete_of s room ≡ refused 1 0
unfolding incomplete_of
over s room l = rw (lt-leb (length s) limit.bytes l)

-- Where an input is measured, and the room is three times its length, the whole reading answers as the cut does, at the same place: both accept it to its last
-- byte, or both refuse it alike.
pub measured_alike : (s : List ℕ) (room : ℕ) → Bytes s → 3 * length s ≤ room → Measured s → whole_of s room ≡ answered (cut_of s) (bytes (packet_at s))
unfolding whole_of
measured_alike s room bs l m = within (leb (length s) limit.bytes) refl
  where
    within : (t : Bool) → leb (length s) limit.bytes ≡ t → all s (incomplete_of s room) ≡ answered (cut_of s) (bytes (packet_at s))
    within true t =
        let i = leb-true (length s) limit.bytes t in
        let b = bytes (packet_at s) in
        let o = packet_by s (value_by s) in
        ap (all s) (roomy s room i (omega (arith, (packet_bounded s).small)) ∙ (ended_comes (packet_at s) b ∙ ap (λ x. comes_to_lem x b) (packet_end s)))
        ∙ (all_comes whole s b o (way_told s bs (value_by s) (value_goes s bs))
        ∙ ap (λ x. comes_to_lem x b) (ap (λ x. x then λ v z. last_by s z) (sym (gone_alike s bs m)) ∙ sym (cut_end_lem s i)) ∙ sym (cut_comes (cut_of s) b))
    within false t = let i = leb-false (length s) limit.bytes t in rw (cut_over s i) (ap (all s) (over s room i))

-- ---- no length that is come to is known

-- four rows and what stands behind them
apart : (x y z u r : List ℕ) → (x ++ (y ++ (z ++ u))) ++ r ≡ x ++ (y ++ (z ++ (u ++ r)))
apart x y z u r = append_assoc x (y ++ (z ++ u)) r ∙ ap (λ v. x ++ v) (append_assoc y (z ++ u) r ∙ ap (λ v. y ++ v) (append_assoc z u r))

-- every length that is come to in entries at the front of t is not known
abbrev Unknowns : (Label → Type 0) → ℕ → List ℕ → Type 0
Unknowns Kind n t = (x r : List ℕ) → t ≡ x ++ r → LeadsEntries lengths Kind r n x (some 4) → 4 ≤ length r → number (take 4 r) ≡ unknown

module _ {Kind : Label → Type 0} where
  -- so the first is not
  first_unknown : (n d : ℕ) {l : Label} (x z : List ℕ) → Unknowns Kind (suc n) (x ++ (digits 4 d ++ z)) → Kind l → Head l x → d < 256 ^ 4 → d ≡ unknown
  first_unknown n d x z none k h l =
      let w = length_digits 4 d in
      sym (ap number (take_at (digits 4 d) z 4 w) ∙ number_digits 4 d l)
      ∙ none x (digits 4 d ++ z) refl (LeadsEntries.declared k h refl) (omega (arith, length-append (digits 4 d) z))

  -- nor are those behind it
  later_unknown : (n d : ℕ) {l : Label} (x y z : List ℕ) → Unknowns Kind (suc n) (x ++ (digits 4 d ++ (y ++ z))) → Kind l → Head l x → d < 256 ^ 4 → Says d y
      → Unknowns Kind n z
  later_unknown n d x y z none k h l e v r same i =
      none (x ++ (digits 4 d ++ (y ++ v))) r (ap (λ u. x ++ (digits 4 d ++ (y ++ u))) same ∙ sym (apart x (digits 4 d) y v r)) (LeadsEntries.next k h l e i)

  -- so entries that the cut goes over are measured
  entries_measured : {n : ℕ} {x : List ℕ} (r : List ℕ) → Unknowns Kind n (x ++ r) → Entries cut Kind n x → Entries measuring Kind n x
  entries_measured r none Entries.none = Entries.none
  entries_measured r none (Entries.more {n} {d} {l} {x} {y} {z} k h b e i) =
      let all : Unknowns Kind (suc n) (x ++ (digits 4 d ++ (y ++ (z ++ r)))) = rw (apart x (digits 4 d) y z r) at none in
      let not = first_unknown n d x (y ++ (z ++ r)) all k h b in
      Entries.more k h b (not, says_value e not) (entries_measured r (later_unknown n d x y (z ++ r) all k h b e) i)

  -- and so are those before a field that is due
  leads_measured : {r x : List ℕ} {f : Field} {n : ℕ} → Unknowns Kind n (x ++ r) → LeadsEntries cut Kind r n x f → LeadsEntries measuring Kind r n x f
  leads_measured none (LeadsEntries.label l) = LeadsEntries.label l
  leads_measured none (LeadsEntries.declared k h Sizes.four) = LeadsEntries.declared k h refl
  leads_measured {r} {x} none (LeadsEntries.declared k h (Sizes.known i n)) = absurd (n (none x r refl (LeadsEntries.declared k h refl) i))
  leads_measured none (LeadsEntries.inside k h b i) = LeadsEntries.inside k h b i
  leads_measured {r} none (LeadsEntries.next {n} {d} {l} {x} {y} {z} k h b e i) =
      let all : Unknowns Kind (suc n) (x ++ (digits 4 d ++ (y ++ (z ++ r)))) = rw (apart x (digits 4 d) y z r) at none in
      let not = first_unknown n d x (y ++ (z ++ r)) all k h b in
      LeadsEntries.next k h b (not, says_value e not) (leads_measured (later_unknown n d x y (z ++ r) all k h b e) i)

module _ (s : List ℕ) (none : NoneKnown s) where
  -- the headers at the front of t
  headers_unknown : {h : ℕ} (t : List ℕ) → h < 256 ^ 2 → s ≡ 0 ∷ 0 ∷ digits 2 h ++ t → Unknowns IsHeader h t
  headers_unknown {h} t l e x r same i =
      none.each (0 ∷ 0 ∷ digits 2 h ++ x) r (e ∙ ap (λ u. 0 ∷ 0 ∷ u) (ap (λ u. digits 2 h ++ u) same ∙ sym (append_assoc (digits 2 h) x r))) (LeadsPacket.headers l i)

  -- the messages there, behind the headers
  messages_unknown : {h m : ℕ} {x : List ℕ} (t : List ℕ) → h < 256 ^ 2 → Entries cut IsHeader h x → m < 256 ^ 2
      → s ≡ 0 ∷ 0 ∷ digits 2 h ++ (x ++ (digits 2 m ++ t)) → Unknowns IsMessage m t
  messages_unknown {h} {m} {x} t l hs k e y r same i =
      none.each (0 ∷ 0 ∷ digits 2 h ++ (x ++ (digits 2 m ++ y))) r
      (e ∙ ap (λ u. 0 ∷ 0 ∷ u) (ap (λ u. digits 2 h ++ (x ++ (digits 2 m ++ u))) same ∙ sym (apart (digits 2 h) x (digits 2 m) y r)))
      (LeadsPacket.messages l (entries_carried (λ d y e. e) hs) k i)

  -- so it is of the headers x before r
  front_unknown : (h : ℕ) (x r : List ℕ) → h < 256 ^ 2 → s ≡ (0 ∷ 0 ∷ digits 2 h ++ x) ++ r → Unknowns IsHeader h (x ++ r)
  front_unknown h x r l e = headers_unknown (x ++ r) l (e ∙ ap (λ u. 0 ∷ 0 ∷ u) (append_assoc (digits 2 h) x r))

  fields_measured : {r x : List ℕ} {f : Field} → s ≡ x ++ r → LeadsPacket cut r x f → LeadsPacket measuring r x f
  fields_measured e LeadsPacket.zero = LeadsPacket.zero
  fields_measured e (LeadsPacket.version t) = LeadsPacket.version t
  fields_measured e LeadsPacket.header_count = LeadsPacket.header_count
  fields_measured {r} e (LeadsPacket.headers {h} {x} l i) = LeadsPacket.headers l (leads_measured (front_unknown h x r l e) i)
  fields_measured {r} e (LeadsPacket.message_count {h} {x} l hs) = LeadsPacket.message_count l (entries_measured r (front_unknown h x r l e) hs)
  fields_measured {r} e (LeadsPacket.messages {h} {m} {x} {y} l hs k i) =
      let same = e ∙ ap (λ u. 0 ∷ 0 ∷ u) (apart (digits 2 h) x (digits 2 m) y r) in
      LeadsPacket.messages l (entries_measured (digits 2 m ++ (y ++ r)) (headers_unknown (x ++ (digits 2 m ++ (y ++ r))) l same) hs) k
      (leads_measured (messages_unknown (y ++ r) l hs k same) i)

  packet_measured : {x : List ℕ} (r : List ℕ) → s ≡ x ++ r → IsPacket cut x → IsPacket measuring x
  packet_measured r e (IsPacket.packet {h} {m} {x} {y} l hs k ms) =
      let same = e ∙ ap (λ u. 0 ∷ 0 ∷ u) (apart (digits 2 h) x (digits 2 m) y r) in
      IsPacket.packet l (entries_measured (digits 2 m ++ (y ++ r)) (headers_unknown (x ++ (digits 2 m ++ (y ++ r))) l same) hs) k
      (entries_measured r (messages_unknown (y ++ r) l hs k same) ms)

-- An input is measured where no length that its cut comes to is known.
pub unknown_measured : (s : List ℕ) → Bytes s → NoneKnown s → Measured s
unknown_measured s bs none = go (packet_by s (cut_by s)) (way_told s bs (cut_by s) (cut_goes s bs))
  where
    row : {v : ℕ} (x r : List ℕ) → s ≡ x ++ r → Plain (IsPacket cut) v x → Measured s
    row x r e (Plain.plain i) = Measured.begins r e (packet_measured s none r e i)

    go : (o : Part) → TellsPacket cut s o → Measured s
    go (goes v n) d = row d.row d.rest d.here.same d.stands
    go (halts a p) (RefusedPacket.version_3 v) = Measured.refused (RefusedPacket.version_3 v)
    go (halts a p) (RefusedPacket.field q) =
        Measured.refused (RefusedPacket.field (onward {m = []} (record { same = refl }) (omega arith) (λ r x f e l. fields_measured s none e l) q))

-- So the whole reading answers as the cut does where no length that this comes to is known.
pub unknown_alike : (s : List ℕ) (room : ℕ) → Bytes s → 3 * length s ≤ room → NoneKnown s → whole_of s room ≡ answered (cut_of s) (bytes (packet_at s))
unknown_alike s room bs l none = measured_alike s room bs l (unknown_measured s bs none)

-- ---- an example

-- a message "a" with a length that is not known
abbrev unsaid : List ℕ
unsaid = 0 ∷ 0 ∷ 0 ∷ 0 ∷ 0 ∷ 1 ∷ 0 ∷ 1 ∷ 0x61 ∷ 0 ∷ 0 ∷ 0xFF ∷ 0xFF ∷ 0xFF ∷ 0xFF ∷ []

-- with the marker 04 as its value it is measured, and refused by that marker
pub bent_measured : Measured (unsaid ++ (0x04 ∷ []))
unfolding ends
bent_measured =
    let label = Head.message (short (0x61 ∷ []) (omega arith) refl) (short [] (omega arith) refl) in
    let leads : LeadsPacket measuring (0x04 ∷ []) unsaid (Field.marker limit.levels) =
    LeadsPacket.messages {h = 0} {m = 1} (omega arith) Entries.none (omega arith) (LeadsEntries.inside {d = unknown} tt label (lit< tt) (refl, Leads.marker)) in
    Measured.refused (RefusedPacket.field (refuse {x = unsaid} (record { same = refl }) refl leads (Refuses.no_value Bars.movie_clip)))
