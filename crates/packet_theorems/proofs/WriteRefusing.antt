-- What stands where something else is due refuses the writing of a packet, at its place.
use Rattle.std.specs.Prelude.{◌+◌, ◌<◌, ◌≡◌, ◌∷◌, ◌++◌}
use Rattle.wire.proofs.Kit.{ℕ, refl, ap, List, Bool, arith, length, drop, length-append}
use Rattle.wire.specs.Number.{Bytes}
use Rattle.wire.specs.Limit as limit
use Rattle.wire.proofs.Laws.{pick_no}
use Rattle.wire.proofs.Stands.{Here, cut, skip}
use Rattle.image.specs.declared.record.Record.{Record}
use Rattle.image.specs.declared.record.Record.TheVariants as R
use Rattle.image.specs.declared.record.Field.{Field}
use Rattle.image.specs.Record.{◌bytes◌, none, size}
use Rattle.image.specs.Out.{Out, end, stop, row_of, row, bytes as put_out_lem}
use Rattle.amf0.specs.Shown.{laid, Right}
use Rattle.amf0.specs.Writing.{top_value, whole}
use Rattle.amf0_theorems.specs.Unwritten.{Stops}
use Rattle.amf0_theorems.proofs.Puts.{Puts, then, first, others, puts, laid_append, laid_length, laid_size, right_left, right_right, empty, named, row_puts}
use Rattle.amf0_theorems.proofs.Seen.{took_fronts}
use Rattle.amf0_theorems.proofs.WriteRefusing.{stops_first, stops_then, value_stops}
use Rattle.packet.specs.Shown.{counts}
use Rattle.packet.specs.Packet.{Label}
use Rattle.packet.specs.Writing.{label, declared, entry, entries, packet}
use Rattle.packet_theorems.specs.Unwritten.{Slot, Entries, Opens, NoPacket, NoEntry, Refuses, Refused}
use Rattle.packet_theorems.proofs.Puts.{kind_of, header_kind, message_kind, names_named, label_puts, items_puts, packet_here}
use Rattle.packet.proofs.Putting.{heading, contents}
use Rattle.packet_theorems.proofs.Seen.{SeenPacket, see_packet, SeenLabel, see_header, see_message}

module _ (s image : List ℕ) (bs : Bytes image) (exact : Bool) where
  -- ---- at the place

  -- the packet's own record is due, a header's, or a message's
  packet_slot : NoPacket s image → Stops (packet exact image s) 6 0
  unfolding packet
  packet_slot none = by (see_packet s image bs λ h m q. row s (heading h) 0 (contents exact image s h m q))
    where
      by : {d : Out} {k : ℕ → ℕ → ℕ → Out} → SeenPacket s image bs k d → Stops d 6 0
      by (SeenPacket.seen {h} {m} t) = absurd (none.none h m (took_fronts s image bs 0 t tt))
      by (SeenPacket.unseen n) = (refl, refl)

  label_slot : {Kind : Label → Type 0} {at : ℕ} {d : Out} → SeenLabel s image bs at Kind d → NoEntry s Kind (drop at image) → Stops d 6 at
  label_slot {at} (SeenLabel.seen {r} {l} t k n e) absent = absurd (absent.none r l (took_fronts s image bs at t (names_named n)) k n)
  label_slot (SeenLabel.unseen n e) absent = e

  header_slot : {z : List ℕ} {a : ℕ} (at : ℕ) → drop at image ≡ z → Refuses s Slot.header z a → Stops (label 0x31 image s at) a at
  header_slot at h (Refuses.header n) = label_slot (see_header s image bs at) (rw h n)

  message_slot : {z : List ℕ} {a : ℕ} (at : ℕ) → drop at image ≡ z → Refuses s Slot.message z a → Stops (label 0x32 image s at) a at
  message_slot at h (Refuses.message n) = label_slot (see_message s image bs at) (rw h n)

  -- ---- before the place

  -- a row of numbers is not refused
  numbers_stop : (m a : Field) (at x p : ℕ) (d : Out) → Stops d x p → Stops (row s (row_of m a none 0 0) at d) x p
  unfolding row
  numbers_stop m a at x p d e = rw (named s m a none (empty s)) e

  -- the length of the value at a place
  abbrev long : ℕ → Field
  long q = 4 bytes declared exact (length (put_out_lem (top_value image s q)))

  module _ {Kind : Label → Type 0} (kind : ℕ) (own : Slot) (of : (l : Label) → Kind l → kind_of l ≡ kind)
      (slot : (z : List ℕ) (a at : ℕ) → drop at image ≡ z → Refuses s own z a → Stops (label kind image s at) a at) where
    -- entries that are begun are refused where their records end
    entries_stop : {n : ℕ} {rs : List Record} {d : Slot} {z : List ℕ} {a : ℕ} → Entries s Kind own n rs d → Right s rs → Refuses s d z a → (at p : ℕ)
        → Here image at (laid rs) z → p ≡ at + length (laid rs) → Stops (entries kind exact image s n at) a p
    unfolding entries entry
    entries_stop {z} {a} (Entries.due {n}) g r at p h m =
        let e : p ≡ at = omega arith in
        rw e (stops_first (entry kind exact image s at) (entries kind exact image s n) a at (stops_first (label kind image s at) _ a at (slot z a at h.same r)))
    entries_stop {z} {a} (Entries.entry {n} {l} {r = c} {rs} k w b) g (Refuses.inside r) at p h m =
        let q : ℕ = at + size c in
        let o : Puts ⊥ (label kind image s at) _ q = rw (of l k) at (label_puts s image {D = ⊥} rs z at g.0 w h) in
        stops_first (entry kind exact image s at) (entries kind exact image s n) a p
        (stops_then o _ a p
        (numbers_stop (long q) none at a p (top_value image s q)
        (value_stops s image bs b g.2 r q p (others s image c rs z h) (omega (arith, laid_size c rs)))))
    entries_stop {z} {a} (Entries.more {n} {l} {r = c} {v} {rs} {qs} k w t x b) g r at p h m =
        let q : ℕ = at + size c in
        let e : ℕ = q + length (laid rs) in
        let j : Here image q (laid rs ++ laid qs) z = rw (laid_append rs qs) at (others s image c (rs ++ qs) z h) in
        let o : Puts ⊥ (label kind image s at) _ q = rw (of l k) at (label_puts s image {D = ⊥} (rs ++ qs) z at g.0 w h) in
        let y = puts s image {D = ⊥} t (right_left s rs qs g.2) (laid qs ++ z) q e limit.levels (length (laid rs)) (cut (laid rs) (laid qs) j) refl (λ i. omega arith) (omega arith) in
        stops_then (then (λ q. row s (row_of (long q) none none 0 0) at (top_value image s q)) o (row_puts s at (long q) none none (empty s) y)) (entries kind exact image s n) a p
        (entries_stop b (right_right s rs qs g.2) r e p (skip (laid rs) (laid qs) j) (omega (arith, laid_size c (rs ++ qs), laid_length rs qs)))

  -- ---- from the start of the image

  opened : {rs : List Record} {d : Slot} {z : List ℕ} {a : ℕ} (p : ℕ) → Opens s rs d → Right s rs → Refuses s d z a → Here image 0 (laid rs) z
      → p ≡ length (laid rs) → Stops (whole image (packet exact image s)) a p
  unfolding packet
  opened p Opens.packet g (Refuses.packet n) h m = stops_first (packet exact image s) _ 6 p (rw m (packet_slot (rw h.same n)))
  opened {z} {a} p (Opens.headers {h = i} {m = k} {rs} b) g r h m =
      let c : Record = R.Packet i k in
      stops_first (packet exact image s) _ a p
      (rw (first s image c rs z h g.0)
      (numbers_stop (2 bytes 0) (2 bytes i) 0 a p _
      (stops_first (entries 0x31 exact image s i (0 + size c)) _ a p
      (entries_stop 0x31 Slot.header header_kind (λ z a at. header_slot at) b g.2 r (0 + size c) p (others s image c rs z h) (omega (arith, laid_size c rs))))))
  opened {z} {a} p (Opens.messages {hs} {m = k} {rs} {qs} x w b) g r h m =
      let c : Record = R.Packet (length hs) k in
      let q : ℕ = 0 + size c in
      let e : ℕ = q + length (laid rs) in
      let j : Here image q (laid rs ++ laid qs) z = rw (laid_append rs qs) at (others s image c (rs ++ qs) z h) in
      let y = items_puts s image {D = ⊥} exact header_kind x (laid qs ++ z) q (cut (laid rs) (laid qs) j) (λ i. i w) in
      stops_first (packet exact image s) _ a p
      (rw (first s image c (rs ++ qs) z h g.0)
      (numbers_stop (2 bytes 0) (2 bytes length hs) 0 a p _
      (stops_then y.puts _ a p
      (numbers_stop none (2 bytes k) 0 a p (entries 0x32 exact image s k e)
      (entries_stop 0x32 Slot.message message_kind (λ z a at. message_slot at) b (right_right s rs qs g.2) r e p (skip (laid rs) (laid qs) j)
      (omega (arith, laid_size c (rs ++ qs), laid_length rs qs)))))))
  opened p (Opens.behind {p = t} {rs} {qs} x y w) g (Refuses.past {b} {x = o}) h m =
      let l : p < length image = omega (arith, ap length h.same, length-append (laid (counts t ∷ (rs ++ qs))) (b ∷ o)) in
      let i = packet_here s image {D = ⊥} exact p g.0 x y h m (λ i. i w) in
      stops_then i.puts _ 6 p (rw (pick_no (length image) p (end p) (stop 6 p) l) (refl, refl))

  -- an image that is refused
  pub refuses_by : (a p : ℕ) → Refused image s a p → Stops (whole image (packet exact image s)) a p
  refuses_by a p x = opened p x.opens x.right x.refuses (record { same = x.lies }) x.stands
