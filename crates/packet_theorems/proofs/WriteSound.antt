-- An image whose writing is not refused is that of a packet.
use Rattle.std.specs.Prelude.{◌+◌, ◌≡◌, ◌∷◌, ◌++◌}
use Rattle.wire.proofs.Kit.{ℕ, zero, suc, refl, ap, List, [], Bool, arith, length, drop}
use Rattle.wire.specs.Number.{Bytes}
use Rattle.wire.specs.Limit as limit
use Rattle.wire.proofs.Stands.{Here}
use Rattle.image.specs.declared.record.Record.{Record}
use Rattle.image.specs.declared.record.Record.TheVariants as R
use Rattle.image.specs.Record.{◌bytes◌, none}
use Rattle.image.specs.Out.{Out, ◌>>=◌, row_of, row, bytes as put_out_lem}
use Rattle.amf0.specs.Standard.{Sort}
use Rattle.amf0.specs.Shown.{laid}
use Rattle.amf0.specs.Writing.{top_value, whole}
use Rattle.amf0.specs.Written.Lead.{keyed}
use Rattle.amf0_theorems.proofs.WriteRefusal.{ends_once, ends_not}
use Rattle.amf0_theorems.proofs.Seen.{Took}
use Rattle.amf0_theorems.proofs.WriteSound.{Ends, bind_ends, row_ends, before, Stood, sound, whole_ends, used_up, both}
use Rattle.packet.specs.Packet.{Label, Item, Packet, IsHeader, IsMessage}
use Rattle.packet.specs.Shown.{Names, Shallow, Within}
use Rattle.packet.specs.Writing.{label, declared, entry, entries, packet}
use Rattle.packet.specs.Written.{length_of, Spells, Images}
use Rattle.packet_theorems.proofs.Seen.{SeenPacket, see_packet, SeenLabel, see_header, see_message}

module _ (s image : List ℕ) (bs : Bytes image) where
  -- ---- the label of an entry

  -- at a place of the image stands the record of an entry, and behind it, at q, its value's
  pub record Label-at (Kind : Label → Type 0) (at q : ℕ) : Type 0 where
    pub what : Label
    pub first : Record
    pub kind : Kind what
    pub took : Took s image bs at first q
    pub names : Names s what first

  -- one whose writing ends
  pub label_at : {Kind : Label → Type 0} {at : ℕ} {d : Out} → SeenLabel s image bs at Kind d → (q : ℕ) → Ends d q → Label-at Kind at q
  label_at {d} (SeenLabel.seen {r} {q = m} {l} t k n e) q f =
      record { what = l; first = r; kind = k; took = rw (ends_once d q m f e) t; names = n }
  label_at {d} (SeenLabel.unseen n e) q f = absurd (ends_not d q _ _ f e)

  -- ---- entries in a row

  -- from the place `at` of the image to n stand the records of so many entries
  pub record StoodItems (Kind : Label → Type 0) (count at n : ℕ) : Type 0 where
    pub items : List Item
    pub records : List Record
    pub rest : List ℕ
    pub spells : Spells s Kind items records
    pub here : Here image at (laid records) rest
    pub next : n ≡ at + length (laid records)
    pub many : length items ≡ count
    pub deep : Shallow limit.levels items

  module _ (exact : Bool) where
    -- an entry whose writing ends
    pub entry_sound : {Kind : Label → Type 0} (kind : ℕ) → ((at : ℕ) → SeenLabel s image bs at Kind (label kind image s at)) → (at m : ℕ) {A : Type 0}
        → Ends (entry kind exact image s at) m → ((q : ℕ) → Label-at Kind at q → Stood s image bs keyed Sort.value limit.levels q m → A) → A
    unfolding entry
    entry_sound kind see at m e go =
        bind_ends (label kind image s at) _ m e λ q f g.
        let u : Out = top_value image s q in
        let h = row_ends s image bs (row_of (4 bytes declared exact (length (put_out_lem u))) none none 0 0) at m u g in
        go q (label_at (see at) q f) (sound s image bs limit.levels q m h.1)

    pub items_sound : {Kind : Label → Type 0} (kind : ℕ) → ((at : ℕ) → SeenLabel s image bs at Kind (label kind image s at)) → (c at n : ℕ)
        → Ends (entries kind exact image s c at) n → StoodItems Kind c at n
    unfolding entries
    items_sound kind see zero at n e =
        record { items = []; records = []; rest = drop at image; spells = Spells.none; here = record { same = refl }; next = omega arith; many = refl; deep = tt }
    items_sound kind see (suc c) at n e =
        bind_ends (entry kind exact image s at) (entries kind exact image s c) n e λ m f g.
        entry_sound kind see at m f λ q l x.
        let y = items_sound kind see c m n g in
        let j = both s image bs x.records y.records x.here x.next y.here y.next in
        let b = before s image bs (x.records ++ y.records) l.took j.0 j.1 in
        record {
          items = record { label = l.what; declared = length_of exact x.tree; value = x.tree } ∷ y.items;
          records = l.first ∷ (x.records ++ y.records);
          rest = y.rest;
          spells = Spells.more l.kind l.took.fits l.names x.right x.spells y.spells;
          here = b.0;
          next = b.1;
          many = ap suc y.many;
          deep = (x.deep, y.deep);
        }

    -- ---- the packet

    -- the messages, and the headers, behind the packet's own record
    abbrev pub behind : ℕ → ℕ → Out
    behind k e = row s (row_of none (2 bytes k) none 0 0) 0 (entries 0x32 exact image s k e)

    abbrev pub front : ℕ → ℕ → ℕ → Out
    front h k q = row s (row_of (2 bytes 0) (2 bytes h) none 0 0) 0 (entries 0x31 exact image s h q >>= behind k)

    -- a packet whose writing ends
    pub packet_sound : (m : ℕ) {A : Type 0} → Ends (packet exact image s) m
        → ((h k q u : ℕ) → Took s image bs 0 (R.Packet h k) q → StoodItems IsHeader h q u → StoodItems IsMessage k u m → A) → A
    unfolding packet
    packet_sound m {A} f go = by (see_packet s image bs front) f
      where
        by : {d : Out} → SeenPacket s image bs front d → Ends d m → A
        by (SeenPacket.seen {h} {m = k} {q} t) f =
            let a = row_ends s image bs (row_of (2 bytes 0) (2 bytes h) none 0 0) 0 m (entries 0x31 exact image s h q >>= behind k) f in
            bind_ends (entries 0x31 exact image s h q) (behind k) m a.1 λ u g j.
            let b = row_ends s image bs (row_of none (2 bytes k) none 0 0) 0 m (entries 0x32 exact image s k u) j in
            go h k q u t (items_sound 0x31 (see_header s image bs) h q u g) (items_sound 0x32 (see_message s image bs) k u m b.1)
        by (SeenPacket.unseen n) f = absurd f

    -- an image of a packet and no bytes past it
    pub image_of : (n : ℕ) → Ends (whole image (packet exact image s)) n → (p : Packet) × Images s p image × Within limit.levels p
    image_of n e =
        whole_ends image (packet exact image s) n e λ m f l.
        packet_sound m f λ h k q u t x y.
        let j = both s image bs x.records y.records x.here x.next y.here y.next in
        let b = before s image bs (x.records ++ y.records) t j.0 j.1 in (
          record { headers = x.items; messages = y.items },
          record {
            header_records = x.records;
            message_records = y.records;
            fits = rw (x.many, y.many) t.fits;
            headers = x.spells;
            messages = y.spells;
            lies = rw (x.many, y.many) (used_up b.0 (omega (arith, b.1)));
          },
          (x.deep, y.deep),
        )
