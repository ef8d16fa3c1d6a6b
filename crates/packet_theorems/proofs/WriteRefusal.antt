-- A writing of a packet that is refused is so by what stands at its place: the records before it begin a packet, and what is due behind them is not there.
use Rattle.std.specs.Prelude.{◌≡◌, ◌<◌}
use Rattle.wire.proofs.Kit.{ℕ, zero, suc, sym, List, Bool, arith, length, drop, ◌∙◌}
use Rattle.wire.specs.Number.{Bytes}
use Rattle.wire.specs.Limit as limit
use Rattle.image.specs.declared.record.Record.TheVariants as R
use Rattle.image.specs.declared.record.Field.{Field}
use Rattle.image.specs.Record.{◌bytes◌, none}
use Rattle.image.specs.Out.{Out, ◌>>=◌, row_of, row, bytes as put_out_lem}
use Rattle.amf0.specs.Writing.{top_value, whole}
use Rattle.amf0_theorems.proofs.Puts.{empty, named}
use Rattle.amf0_theorems.specs.Unwritten.{Stops}
use Rattle.amf0_theorems.proofs.Seen.{Took}
use Rattle.amf0_theorems.proofs.WriteReasons.{stops_once}
use Rattle.amf0_theorems.proofs.WriteRefusal.{bind_stops, ends_not, Reached, no_record, past_record, past_records, past_tree, value_halt, whole_stops, left_behind, non_empty, refused_at}
use Rattle.packet.specs.Packet.{Label, IsHeader, IsMessage}
use Rattle.packet.specs.Writing.{label, declared, entry, entries, packet}
use Rattle.packet_theorems.specs.Unwritten.{Slot, Entries, Opens, NoEntry, Refuses, Refused}
use Rattle.packet_theorems.proofs.Puts.{names_named, spells_right}
use Rattle.packet_theorems.proofs.Seen.{SeenPacket, see_packet, SeenLabel, see_header, see_message}
use Rattle.packet_theorems.proofs.WriteSound.{label_at, StoodItems, entry_sound, items_sound, packet_sound, behind, front}

module _ (s image : List ℕ) (bs : Bytes image) (exact : Bool) where
  -- a row of numbers is not refused
  numbers_go : (m a : Field) (at x p : ℕ) (d : Out) → Stops (row s (row_of m a none 0 0) at d) x p → Stops d x p
  unfolding row
  numbers_go m a at x p d e = rw (named s m a none (empty s)) at e

  -- the records from `at` to p begin so many entries, and what stands at p, where something is due, refuses the image with a
  record Halted (Kind : Label → Type 0) (own : Slot) (count at a p : ℕ) : Type 0 where
    reached : Reached s image bs at p
    slot : Slot
    begins : Entries s Kind own count reached.records slot
    refuses : Refuses s slot reached.rest a

  halted : {Kind : Label → Type 0} {own : Slot} {count at a p : ℕ} {d : Slot} (x : Reached s image bs at p) → Entries s Kind own count x.records d
      → Refuses s d x.rest a → Halted Kind own count at a p
  halted {d} x b r = record { reached = x; slot = d; begins = b; refuses = r }

  module _ {Kind : Label → Type 0} (kind : ℕ) (own : Slot) (see : (at : ℕ) → SeenLabel s image bs at Kind (label kind image s at))
      (refuse : (x : List ℕ) → NoEntry s Kind x → Refuses s own x 6) where
    -- an entry, and then so many
    entry_halt : (c at a p : ℕ) → Stops (entry kind exact image s at) a p → Halted Kind own (suc c) at a p
    unfolding entry no_record past_record
    entry_halt c at a p e =
        bind_stops (label kind image s at) _ a p e (by (see at))
        (λ q f g.
        let l = label_at s image bs (see at) q f in
        let u : Out = top_value image s q in
        let x = value_halt s image bs limit.levels q a p (numbers_go (4 bytes declared exact (length (put_out_lem u))) none at a p u g) in
        halted (past_record s image bs l.took (names_named l.names) x.reached) (Entries.entry l.kind l.names x.begins) (Refuses.inside x.refuses))
      where
        by : {d : Out} → SeenLabel s image bs at Kind d → Stops d a p → Halted Kind own (suc c) at a p
        by {d} (SeenLabel.seen {q} t k n e) f = absurd (ends_not d q a p e f)
        by {d} (SeenLabel.unseen n e) f =
            let o = stops_once d a 6 p at f e in
            halted (no_record s image bs o.1) Entries.due (rw o.0 (refuse (drop at image) n))

    entries_halt : (c at a p : ℕ) → Stops (entries kind exact image s c at) a p → Halted Kind own c at a p
    unfolding entries past_record past_records past_tree
    entries_halt zero at a p e = absurd e
    entries_halt (suc c) at a p e =
        bind_stops (entry kind exact image s at) (entries kind exact image s c) a p e (entry_halt c at a p)
        (λ m f g. entry_sound s image bs exact kind see at m f λ q l y.
        let x = entries_halt c m a p g in
        halted (past_record s image bs l.took (names_named l.names) (past_tree s image bs y x.reached))
        (Entries.more l.kind l.names y.spells y.deep x.begins) x.refuses)

  -- ---- from the start of the image

  -- in the headers, in the messages, and behind them
  in_headers : {h k q a p : ℕ} → Took s image bs 0 (R.Packet h k) q → Halted IsHeader Slot.header h q a p → Refused image s a p
  unfolding past_record
  in_headers t x = refused_at s image bs x.slot (past_record s image bs t tt x.reached) (Opens.headers x.begins) x.refuses

  in_messages : {h k q u a p : ℕ} → Took s image bs 0 (R.Packet h k) q → StoodItems s image bs IsHeader h q u → Halted IsMessage Slot.message k u a p
      → Refused image s a p
  unfolding past_record past_records
  in_messages t y x =
      refused_at s image bs x.slot (past_record s image bs t tt (past_records s image bs y.records (spells_right y.spells) y.here y.next x.reached))
      (rw (sym y.many) (Opens.messages y.spells y.deep x.begins)) x.refuses

  past_packet : {h k q u m a p : ℕ} → Took s image bs 0 (R.Packet h k) q → StoodItems s image bs IsHeader h q u → StoodItems s image bs IsMessage k u m
      → m < length image → a ≡ 6 → p ≡ m → Refused image s a p
  unfolding past_record past_records
  past_packet {u} {p} t x y l e f =
      let last : Reached s image bs u p = record { records = y.records; rest = y.rest; right = spells_right y.spells; here = y.here; place = f ∙ y.next } in
      let z = past_record s image bs t tt (past_records s image bs x.records (spells_right x.spells) x.here x.next last) in
      refused_at s image bs Slot.nothing z
      (rw (sym x.many, sym y.many) (Opens.behind {p = record { headers = x.items; messages = y.items }} x.spells y.spells (x.deep, y.deep)))
      (rw e (non_empty (λ r. Refuses s Slot.nothing r 6) y.rest (left_behind z.here (omega (arith, z.place))) λ b r. Refuses.past))

  -- an image that is refused
  pub refused_by : (a p : ℕ) → Stops (whole image (packet exact image s)) a p → Refused image s a p
  unfolding packet no_record
  refused_by a p e =
      whole_stops image (packet exact image s) a p e (by (see_packet s image bs (front s image bs exact)))
      (λ m f l i j. packet_sound s image bs exact m f λ h k q u t x y. past_packet t x y l i j)
    where
      by : {d : Out} → SeenPacket s image bs (front s image bs exact) d → Stops d a p → Refused image s a p
      by (SeenPacket.seen {h} {m = k} {q} t) f =
          bind_stops (entries 0x31 exact image s h q) (behind s image bs exact k) a p
          (numbers_go (2 bytes 0) (2 bytes h) 0 a p (entries 0x31 exact image s h q >>= behind s image bs exact k) f)
          (λ g. in_headers t (entries_halt 0x31 Slot.header (see_header s image bs) (λ x. Refuses.header) h q a p g))
          (λ u g j.
          in_messages t (items_sound s image bs exact 0x31 (see_header s image bs) h q u g)
          (entries_halt 0x32 Slot.message (see_message s image bs) (λ x. Refuses.message) k u a p (numbers_go none (2 bytes k) 0 a p (entries 0x32 exact image s k u) j)))
      by (SeenPacket.unseen n) f = refused_at s image bs Slot.packet (no_record s image bs f.1) Opens.packet (rw f.0 (Refuses.packet n))
