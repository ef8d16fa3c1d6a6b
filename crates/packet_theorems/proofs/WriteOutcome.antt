-- A reading that is accepted makes an image that can be written.
use Rattle.std.specs.Prelude.{◌+◌, ◌≤◌, ◌≡◌, ◌∷◌, ◌++◌}
use Rattle.wire.proofs.Kit.{ℕ, suc, refl, sym, ap, ap₂, ◌∙◌, List, [], map, map-append, Bool, true, false, arith, length, take}
use Rattle.wire.proofs.Kit.{length-map, take-append-drop, lit<}
use Rattle.wire.specs.Number.{digits, Bytes}
use Rattle.wire.specs.Field.{to, u16_at, got}
use Rattle.wire.specs.Limit as limit
use Rattle.wire.proofs.Stands.{Here}
use Rattle.image.specs.declared.record.Record.{Record}
use Rattle.image.specs.declared.record.Record.TheVariants as R
use Rattle.image.specs.Taking.{Fits}
use Rattle.image.specs.Due.{Due, stop}
use Rattle.image.specs.Whole.{Whole, bytes}
use Rattle.amf0.specs.Reading.{top_value}
use Rattle.amf0.specs.Shown.{laid}
use Rattle.amf0.specs.Written.{Alike}
use Rattle.amf0_theorems.proofs.Telling as telling
use Rattle.amf0_theorems.proofs.Telling.{records_of, bytes_laid}
use Rattle.amf0_theorems.proofs.Spelling.{spelled}
use Rattle.amf0_theorems.proofs.Alike.{of_tree_lem, Of, read}
use Rattle.amf0_theorems.proofs.Puts.{laid_append, right_both}
use Rattle.amf0_theorems.proofs.Call.{Taken}
use Rattle.packet.specs.declared.head.Entry.{Entry}
use Rattle.packet.specs.Packet.{Label, Item, Packet, IsHeader, IsMessage, Items, Encoded}
use Rattle.packet.specs.Shown.{counts, Shallow, Within}
use Rattle.packet.specs.Reading.{record_of, entries_at, packet_at, incomplete_of, whole_of}
use Rattle.packet.specs.Written.{Labelled, Spells, Images, Writable, saying_item, saying}
use Rattle.packet_theorems.proofs.Puts.{spells_right}
use Rattle.packet_theorems.proofs.Heads.{Kinded, headers, messages}
use Rattle.packet_theorems.proofs.Agree.{count_after_lem}
use Rattle.packet_theorems.proofs.Items.{First, first, Told, items_told}
use Rattle.packet_theorems.proofs.Whole.{Framed, framed}
use Rattle.packet_theorems.proofs.Taken.{taken, whole_taken}
use Rattle.packet_theorems.proofs.Outcome.{packet_bounded}
use Rattle.packet_theorems.proofs.PacketTheorems.{Means, sound_incomplete, sound}
use Rattle.image.specs.Record.{unplaced}
use Rattle.image.proofs.Settle.{bytes_bind}

-- ---- records, but for places

abbrev of_label : Label → Record
of_label (Label.header name flag) = R.Header 0 (length name) flag
of_label (Label.message target response) = R.Message 0 (length target) 0 (length response)

abbrev pub of_items : List Item → List Record
of_items [] = []
of_items (i ∷ is) = of_label i.label ∷ (of_tree_lem i.value [] ++ of_items is)

-- ---- the record of an entry

-- it is known by the entry's label but for places
record_alike : (s : List ℕ) (l : Label) (e : Entry) → Labelled s l e → unplaced (record_of e) ≡ of_label l
record_alike s (Label.header name true) e g = rw (g.kind, g.bit) (ap (λ k. R.Header 0 k true) g.first.long)
record_alike s (Label.header name false) e g = rw (g.kind, g.bit) (ap (λ k. R.Header 0 k false) g.first.long)
record_alike s (Label.message target response) e g = rw g.kind (ap₂ (λ k j. R.Message 0 k 0 j) g.first.long g.second.long)

-- ---- entries in a row

-- image bytes of entries that were read
record Imaged (Kind : Label → Type 0) (s : List ℕ) (is : List Item) (image : List ℕ) : Type 0 where
  records : List Record
  spells : Spells s Kind is records
  alike : map unplaced records ≡ of_items is
  lies : image ≡ laid records

module _ {kind : ℕ} {Kind : Label → Type 0} (k : Kinded kind Kind) where
  items_imaged : {is : List Item} {x : List ℕ} → Items Kind is x → (s r : List ℕ) (at : ℕ) → length s ≤ limit.bytes → Here s at x r
      → Shallow limit.levels is → Imaged Kind s is (bytes (entries_at kind s (length is) at))
  unfolding entries_at bytes
  items_imaged Items.none s r at l h deep = record { records = []; spells = Spells.none; alike = refl; lies = refl }
  items_imaged (Items.more {l = o} {d} {v} {is} {x} {y} {z} t h b e i) s r at l g deep =
      let f : First kind s at o x d y z r = first k t h b g in
      let p = f.head.entry.place in
      go f (telling.reads limit.levels s (z ++ r) p e f.value deep.0)
      (read s y (z ++ r) p e f.value deep.0 l) (items_imaged i s r (p + length y) l f.behind deep.1)
    where
      go : (f : First kind s at o x d y z r)
          → telling.Reads limit.levels s f.head.entry.place (f.head.entry.place + length y) v → Of s f.head.entry.place v
          → Imaged Kind s is (bytes (entries_at kind s (length is) (f.head.entry.place + length y)))
          → Imaged Kind s (record { label = o; declared = d; value = v } ∷ is) (bytes (entries_at kind s (suc (length is)) at))
      go f a w m =
          let p = f.head.entry.place in
          let u : Due = top_value s p in
          record {
            records = record_of f.head.entry ∷ (records_of u ++ m.records);
            spells = Spells.more t (f.head.fits l) f.head.names w.right (spelled s v (records_of u) a.tells) m.spells;
            alike = rw (record_alike s o f.head.entry f.head.labelled, map-append unplaced (records_of u) m.records, w.same, m.alike);
            lies =
                rw (
                  f.head.read,
                  bytes_bind u (entries_at kind s (length is)) (p + length y) a.ends,
                  laid_append (records_of u) m.records,
                  m.lies,
                  bytes_laid u,
                );
          }

-- ---- the packet

-- the image of a packet that was read
pub record ReadImage (s : List ℕ) (p : Packet) (w : Whole) : Type 0 where
  pub writable : Writable w.bytes s p
  pub header_alike : map unplaced writable.images.header_records ≡ of_items p.headers
  pub message_alike : map unplaced writable.images.message_records ≡ of_items p.messages

record PacketImage (s : List ℕ) (p : Packet) (image : List ℕ) : Type 0 where
  images : Images s p image
  header_alike : map unplaced images.header_records ≡ of_items p.headers
  message_alike : map unplaced images.message_records ≡ of_items p.messages

imaged_whole : {hs ms : List Item} {x y r : List ℕ} (s : List ℕ) (hi : Items IsHeader hs x) → Framed s (length hs) (length ms) x y r
    → Fits (R.Packet (length hs) (length ms)) → Told 0x31 hi s 4 (4 + length x) → Imaged IsHeader s hs (bytes (entries_at 0x31 s (length hs) 4))
    → Imaged IsMessage s ms (bytes (entries_at 0x32 s (length ms) (4 + length x + 2)))
    → PacketImage s (record { headers = hs; messages = ms }) (bytes (packet_at s))
unfolding packet_at bytes
imaged_whole {hs} {ms} {x} {y} s hi f fits t a b =
    let d : Due = entries_at 0x31 s (length hs) 4 in
    let k : ℕ → Due = λ n. got stop (u16_at s n) (entries_at 0x32 s) in
    record {
      images =
          record {
            header_records = a.records;
            message_records = b.records;
            fits = fits;
            headers = a.spells;
            messages = b.spells;
            lies =
                rw (
                  f.version,
                  f.header_count,
                  count_after_lem s d (4 + length x) (length ms) (to (4 + length x + 2)) t.ends f.message_count,
                  bytes_bind d k (4 + length x) t.ends,
                  f.message_count,
                  laid_append a.records b.records,
                  a.lies,
                  b.lies,
                );
          };
      header_alike = a.alike;
      message_alike = b.alike;
    }

packet_imaged : {p : Packet} {x : List ℕ} (s r : List ℕ) → Encoded p x → Here s 0 x r → Within limit.levels p → length s ≤ limit.bytes
    → PacketImage s p (bytes (packet_at s))
packet_imaged s r (Encoded.packet {hs} {ms} {x} {y} hl ml hi mi) h deep l =
    let f = framed (length hs) (length ms) x y hl ml h in
    let z = (digits 2 (length ms) ++ y) ++ r in
    imaged_whole s hi f (record { a = hl; b = ml; c = lit< tt; d = lit< tt; zone = λ n z e. cc })
    (items_told headers hi s z 4 f.headers_here deep.0) (items_imaged headers hi s z 4 l f.headers_here deep.0)
    (items_imaged messages mi s r (4 + length x + 2) l f.messages_here deep.1)

-- ---- what was read

pub taken_image : {s x r : List ℕ} {p : Packet} {room n : ℕ} {w : Whole} → Encoded p x → Within limit.levels p → Here s 0 x r → Taken s (packet_at s) room n w
    → ReadImage s p w
taken_image {s} {x} {r} {p} {room} {n} {w} e d h t =
    let m = packet_imaged s r e h d t.small in
    rw t.result
    (record {
      writable = record { text_size = t.small; image_size = omega (arith, (packet_bounded s).small, t.small); images = m.images; deep = d };
      header_alike = m.header_alike;
      message_alike = m.message_alike;
    })

-- the packet that the used bytes of an input are, and its image, in a room
pub record WasRead (s : List ℕ) (room : ℕ) (w : Whole) : Type 0 where
  pub packet : Packet
  pub encoded : Encoded packet (take w.reading.used s)
  pub used : w.reading.used ≤ length s
  pub image : ReadImage s packet w
  pub fits : length w.bytes ≤ room

was_read : (s : List ℕ) (room n : ℕ) (w : Whole) → Taken s (packet_at s) room n w → Means s w → WasRead s room w
was_read s room n w t m =
    record {
      packet = m.packet;
      encoded = m.encoded;
      used = m.used;
      image = taken_image m.encoded m.within (record { same = sym (take-append-drop w.reading.used s) }) t;
      fits = omega (arith, t.fits, ap (λ (w : Whole). length w.bytes) t.result);
    }

pub read_incomplete : (s : List ℕ) (room : ℕ) → Bytes s → (incomplete_of s room).reading.answer ≡ 0 → WasRead s room (incomplete_of s room)
read_incomplete s room bs e = was_read s room (incomplete_of s room).reading.used (incomplete_of s room) (taken s room e) (sound_incomplete s room bs e)

pub read_whole : (s : List ℕ) (room : ℕ) → Bytes s → (whole_of s room).reading.answer ≡ 0 → WasRead s room (whole_of s room)
read_whole s room bs e = was_read s room (length s) (whole_of s room) (whole_taken s room e) (sound s room bs e).0

-- ---- two images of a packet

saying_alike : (exact : Bool) (is : List Item) → of_items (map (saying_item exact) is) ≡ of_items is
saying_alike exact [] = refl
saying_alike exact (i ∷ is) = rw (saying_alike exact is)

all_alike : (p : Packet) (hs ms : List Record) → map unplaced hs ≡ of_items p.headers → map unplaced ms ≡ of_items p.messages
    → map unplaced (counts p ∷ (hs ++ ms)) ≡ counts p ∷ (of_items p.headers ++ of_items p.messages)
all_alike p hs ms a b = rw (map-append unplaced hs ms, a, b)

pub images_alike : {s b : List ℕ} {p : Packet} {v w : Whole} (exact : Bool) → ReadImage s p v → ReadImage b (saying exact p) w → Alike s b v.bytes w.bytes
images_alike {s} {b} {p} exact x y =
    let m = x.writable.images in
    let n = y.writable.images in
    let q : Packet = saying exact p in
    let same : counts q ∷ (of_items q.headers ++ of_items q.messages) ≡ counts p ∷ (of_items p.headers ++ of_items p.messages) =
    rw (
      length-map p.headers (saying_item exact),
      length-map p.messages (saying_item exact),
      saying_alike exact p.headers,
      saying_alike exact p.messages,
    ) in
    record {
      first = counts p ∷ (m.header_records ++ m.message_records);
      second = counts q ∷ (n.header_records ++ n.message_records);
      right = (m.fits, tt, right_both s m.header_records m.message_records (spells_right m.headers) (spells_right m.messages));
      right_too = (n.fits, tt, right_both b n.header_records n.message_records (spells_right n.headers) (spells_right n.messages));
      lies = m.lies;
      lies_too = n.lies;
      same =
          all_alike p m.header_records m.message_records x.header_alike x.message_alike
          ∙ sym (all_alike q n.header_records n.message_records y.header_alike y.message_alike ∙ same);
    }
