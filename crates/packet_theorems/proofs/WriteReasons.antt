-- What the public write comes to: a refusal is 5 or 6, or for a size or the room.
use Rattle.wire.proofs.Kit.{ℕ, zero, suc, List, Bool, eqb}
use Rattle.wire.specs.Number.{Bytes}
use Rattle.wire.specs.Limit as limit
use Rattle.wire.proofs.Laws.{picked}
use Rattle.image.specs.declared.record.Layout.{Layout}
use Rattle.image.specs.Kind as kind
use Rattle.image.specs.Out.{Out, end}
use Rattle.amf0.specs.Writing.{whole}
use Rattle.amf0_theorems.proofs.WriteReasons.{Refuses, bind_refuses, asked_refuses, row_refuses, value_refuses, whole_refuses, call_reasons}
use Rattle.amf0_theorems.proofs.WriteOutcome.{puts_bytes}
use Rattle.packet.specs.Written.{write, Writable}
use Rattle.packet.specs.Writing.{labelled, label, entry, entries, packet, write_of}
use Rattle.packet_theorems.specs.Unwritten.{Outcome, Refused}
use Rattle.packet_theorems.proofs.Puts.{write_puts}
use Rattle.packet_theorems.proofs.WriteSound.{image_of}
use Rattle.packet_theorems.proofs.WriteRefusal.{refused_by}
use Rattle.packet.proofs.Putting.{packing}

-- ---- a refusal's answer

module _ (s image : List ℕ) where
  labelled_refuses : (due at : ℕ) (l : Layout) (d : Out) → Refuses d → Refuses (labelled s due at l d)
  labelled_refuses due at l d g =
      row_refuses s image _ at _ (picked Refuses (eqb due kind.header) _ _ (λ e. row_refuses s image _ at d g) (λ e. row_refuses s image _ at d g))

  module _ (exact : Bool) where
    entry_refuses : (due at : ℕ) → Refuses (entry due exact image s at)
    unfolding entry label
    entry_refuses due at =
        bind_refuses (label due image s at) _ (asked_refuses image due at (λ l q. labelled s due at l (end q)) λ l q. labelled_refuses due at l (end q) tt)
        λ q. row_refuses s image _ at _ (value_refuses s image limit.levels q)

    entries_refuses : (due n at : ℕ) → Refuses (entries due exact image s n at)
    unfolding entries
    entries_refuses due zero at = tt
    entries_refuses due (suc n) at = bind_refuses (entry due exact image s at) (entries due exact image s n) (entry_refuses due at) (entries_refuses due n)

    packet_refuses : Refuses (packet exact image s)
    unfolding packet
    packet_refuses =
        asked_refuses image kind.packet 0 (packing exact image s) λ l q.
        row_refuses s image _ 0 _
        (bind_refuses (entries kind.header exact image s l.a.number q) _ (entries_refuses kind.header l.a.number q) λ e.
        row_refuses s image _ 0 _ (entries_refuses kind.message l.b.number e))

-- ---- the call

pub packet_refusing : (image s : List ℕ) (exact : Bool) → Refuses (whole image (packet exact image s))
packet_refusing image s exact = whole_refuses image (packet exact image s) (packet_refuses s image exact)

pub reasons : (image s : List ℕ) (exact : Bool) (room : ℕ) → Bytes image → Outcome image s exact room (write_of image s exact room)
reasons image s exact room bs =
    call_reasons image s room (whole image (packet exact image s)) (packet_refusing image s exact) (Writable image s) (write exact) (Refused image s)
    (λ h i n e.
    let x = image_of s image bs exact n e in
    (x.0, record { text_size = h; image_size = i; images = x.1; deep = x.2 }, puts_bytes (write_puts s image exact x.1 x.2)))
    (refused_by s image bs exact)
