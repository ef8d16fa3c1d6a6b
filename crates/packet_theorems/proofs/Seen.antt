-- What stands at a place of a packet's image, as its writing sees it: the record that is due there, or none.
use Rattle.std.specs.Prelude.{◌≡◌}
use Rattle.wire.proofs.Kit.{ℕ, refl, sym, ◌∙◌, List, Bool, drop}
use Rattle.amf0.specs.Shown.{Stands}
use Rattle.wire.specs.Number.{Bytes}
use Rattle.wire.specs.Field.{bytes_at}
use Rattle.wire.proofs.Laws.{picked, false_true}
use Rattle.image.specs.declared.record.Record.{Record}
use Rattle.image.specs.declared.record.Record.TheVariants as R
use Rattle.image.specs.Kind as kind
use Rattle.image.specs.Record.{◌bytes◌, none, layout_of}
use Rattle.image.specs.Out.{Out, end, stop, put, row, row_bytes, named_of}
use Rattle.image.proofs.Kinded.{is}
use Rattle.amf0.specs.Writing.{texted, asked}
use Rattle.amf0_theorems.proofs.Puts.{empty, named}
use Rattle.amf0_theorems.specs.Unwritten.{Stops, Fronts}
use Rattle.amf0_theorems.proofs.WriteSound.{Ends}
use Rattle.amf0_theorems.proofs.Seen.{Took, named_stands, Asking, asking}
use Rattle.packet.specs.Shown.{Names}
use Rattle.packet.specs.Packet.{Label, IsHeader, IsMessage}
use Rattle.packet.specs.Writing.{labelled, label}
use Rattle.packet_theorems.specs.Unwritten.{NoPacket, NoEntry}
use Rattle.packet_theorems.proofs.Puts.{kind_of, header_kind, message_kind}

-- ---- the packet's own

module _ (s image : List ℕ) (bs : Bytes image) where
  -- a packet's record is taken; or there is none, and 6
  pub data SeenPacket (k : ℕ → ℕ → ℕ → Out) : Out → Type 0 where
    seen : {h m q : ℕ} → Took s image bs 0 (R.Packet h m) q → SeenPacket k (k h m q)
    unseen : NoPacket s image → SeenPacket k (stop 6 0)

  pub see_packet : (k : ℕ → ℕ → ℕ → Out) → SeenPacket k (asked image kind.packet 0 λ l q. k l.a.number l.b.number q)
  see_packet k = go (asking s image bs 0 kind.packet λ l q. k l.a.number l.b.number q)
    where
      go : {d : Out} → Asking s image bs 0 kind.packet (λ l q. k l.a.number l.b.number q) d → SeenPacket k d
      go (Asking.asks {r} t e one) = let i = is r kind.packet e in rw i.2 (SeenPacket.seen (rw i.2 at t))
      go (Asking.other n) = SeenPacket.unseen (record { none = λ h m f. n (R.Packet h m) f refl })

-- ---- an entry's

module _ (s image : List ℕ) (bs : Bytes image) (at : ℕ) where
  -- an entry's record is taken, and the writing of its label ends behind it; or there is none, and 6
  pub data SeenLabel (Kind : Label → Type 0) (d : Out) : Type 0 where
    seen : {r : Record} {q : ℕ} {l : Label} → Took s image bs at r q → Kind l → Names s l r → Ends d q → SeenLabel Kind d
    unseen : NoEntry s Kind (drop at image) → Stops d 6 at → SeenLabel Kind d

  -- no entry's record of the kind is right there, where the one that is taken is none
  no_header : {r : Record} → ((t : Record) → Fronts s t (drop at image) → t ≡ r) → ((p n : ℕ) (f : Bool) → r ≡ R.Header p n f → Stands s p n → ⊥)
      → NoEntry s IsHeader (drop at image)
  no_header {r} one not = record { none = none }
    where
      none : (t : Record) (l : Label) → Fronts s t (drop at image) → IsHeader l → Names s l t → ⊥
      none t l f k (Names.header {p} {n} b h e) = not p n b (sym (one (R.Header p n b) f)) h
      none t l f k (Names.message h i e o) = absurd k

  no_message : {r : Record} → ((t : Record) → Fronts s t (drop at image) → t ≡ r) → ((p n q m : ℕ) → r ≡ R.Message p n q m → Stands s p n → Stands s q m → ⊥)
      → NoEntry s IsMessage (drop at image)
  no_message {r} one not = record { none = none }
    where
      none : (t : Record) (l : Label) → Fronts s t (drop at image) → IsMessage l → Names s l t → ⊥
      none t l f k (Names.header b h e) = absurd k
      none t l f k (Names.message {p} {n} {q} {m} h i e o) = not p n q m (sym (one (R.Message p n q m) f)) h i

  -- nor where none of the kind is right
  no_entry : {Kind : Label → Type 0} {due : ℕ} → ((l : Label) → Kind l → kind_of l ≡ due) → ((t : Record) → Fronts s t (drop at image) → (layout_of t).kind ≡ due → ⊥)
      → NoEntry s Kind (drop at image)
  no_entry {Kind} {due} kinds n = record { none = none }
    where
      none : (t : Record) (l : Label) → Fronts s t (drop at image) → Kind l → Names s l t → ⊥
      none t l f k (Names.header b h e) = n t f (kinds l k)
      none t l f k (Names.message h i e o) = n t f (kinds l k)

  -- a header's, and a message's
  pub see_header : SeenLabel IsHeader (label kind.header image s at)
  unfolding label row
  see_header = go (asking s image bs at kind.header λ l q. labelled s kind.header at l (end q))
    where
      by : {p n q : ℕ} {f : Bool} → Took s image bs at (R.Header p n f) q → ((t : Record) → Fronts s t (drop at image) → t ≡ R.Header p n f)
          → SeenLabel IsHeader (labelled s kind.header at (layout_of (R.Header p n f)) (end q))
      by {p} {n} {q} {f} t one =
          picked (SeenLabel IsHeader) (named_of s (texted none 2 p n)) _ (stop 6 at)
          (λ h. SeenLabel.seen {q = q} {l = Label.header (bytes_at n s p) f} t tt (Names.header f (named_stands s none 0 p n h) refl)
          (rw (named s none none none (empty s)) refl))
          (λ h. SeenLabel.unseen (no_header one λ u k b g w.
          let a : u ≡ p = cc in
          let c : k ≡ n = cc in
          false_true (sym h ∙ named s none (2 bytes n) none (rw (a, c) at w))) (refl, refl))

      go : {d : Out} → Asking s image bs at kind.header (λ l q. labelled s kind.header at l (end q)) d → SeenLabel IsHeader d
      go (Asking.asks {r} t e one) = let i = is r kind.header e in rw i.3 (by (rw i.3 at t) (λ x f. one x f ∙ i.3))
      go (Asking.other n) = SeenLabel.unseen (no_entry header_kind n) (refl, refl)

  pub see_message : SeenLabel IsMessage (label kind.message image s at)
  unfolding label row
  see_message = go (asking s image bs at kind.message λ l q. labelled s kind.message at l (end q))
    where
      by : {p n y m q : ℕ} → Took s image bs at (R.Message p n y m) q → ((t : Record) → Fronts s t (drop at image) → t ≡ R.Message p n y m)
          → SeenLabel IsMessage (labelled s kind.message at (layout_of (R.Message p n y m)) (end q))
      by {p} {n} {y} {m} {q} t one =
          let front : List ℕ = row_bytes s (texted none 2 p n) in
          picked (SeenLabel IsMessage) (named_of s (texted none 2 p n)) _ (stop 6 at)
          (λ h.
          picked (λ (d : Out). SeenLabel IsMessage (put front d)) (named_of s (texted none 2 y m)) _ (stop 6 at)
          (λ o. SeenLabel.seen {q = q} {l = Label.message (bytes_at n s p) (bytes_at m s y)} t tt
          (Names.message (named_stands s none 0 p n h) (named_stands s none 0 y m o) refl refl) refl)
          (λ o. SeenLabel.unseen (no_message one λ u k v j g w x.
          let a : v ≡ y = cc in
          let c : j ≡ m = cc in
          false_true (sym o ∙ named s none (2 bytes m) none (rw (a, c) at x))) (refl, refl)))
          (λ h. SeenLabel.unseen (no_message one λ u k v j g w x.
          let a : u ≡ p = cc in
          let c : k ≡ n = cc in
          false_true (sym h ∙ named s none (2 bytes n) none (rw (a, c) at w))) (refl, refl))

      go : {d : Out} → Asking s image bs at kind.message (λ l q. labelled s kind.message at l (end q)) d → SeenLabel IsMessage d
      go (Asking.asks {r} t e one) = let i = is r kind.message e in rw i.4 (by (rw i.4 at t) (λ x f. one x f ∙ i.4))
      go (Asking.other n) = SeenLabel.unseen (no_entry message_kind n) (refl, refl)
