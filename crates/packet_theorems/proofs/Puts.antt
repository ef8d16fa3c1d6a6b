-- The image of a packet is put out as what the packet is written as.
use Rattle.std.specs.Prelude.{◌+◌, ◌<◌, ◌≡◌, ◌∷◌, ◌++◌}
use Rattle.wire.proofs.Kit.{ℕ, refl, sym, ap, ◌∙◌, List, [], append_assoc, append-nil, Bool, true, false, arith, length}
use Rattle.wire.specs.Number.{digits}
use Rattle.wire.specs.Field.{bytes_at}
use Rattle.wire.specs.Limit as limit
use Rattle.wire.proofs.Laws.{pick_yes}
use Rattle.wire.proofs.Stands.{Here, cut, skip, length_bytes}
use Rattle.image.specs.declared.record.Record.{Record}
use Rattle.image.specs.declared.record.Record.TheVariants as R
use Rattle.image.specs.Record.{◌bytes◌, none, size}
use Rattle.image.specs.Taking.{Fits}
use Rattle.image.specs.Out.{Out, end, row_of, row, bytes as put_out_lem, sized}
use Rattle.amf0.specs.Standard.{depth}
use Rattle.amf0.specs.Shown.{laid, Named, Right}
use Rattle.amf0.specs.Written as amf0
use Rattle.amf0.specs.Writing.{top_value, whole}
use Rattle.amf0_theorems.proofs.Puts.{Puts, then, empty, row_puts, first, others, puts, laid_append, laid_length, laid_size, right_both}
use Rattle.amf0_theorems.proofs.WriteOutcome.{puts_bytes, puts_settled, puts_whole}
use Rattle.packet.specs.Packet.{Label, Item, Packet, IsHeader, IsMessage}
use Rattle.packet.specs.Shown.{Names, counts, Shallow, Within}
use Rattle.packet.specs.Writing.{label, declared, entry, entries, packet, write_of}
use Rattle.packet.specs.Written.{write_label, write_items, write, Spells, Images, Writable}

-- the kind of an entry with a label
abbrev pub kind_of : Label → ℕ
kind_of (Label.header name flag) = 0x31
kind_of (Label.message target response) = 0x32

pub header_kind : (l : Label) → IsHeader l → kind_of l ≡ 0x31
header_kind (Label.header name flag) k = refl
header_kind (Label.message target response) k = absurd k

pub message_kind : (l : Label) → IsMessage l → kind_of l ≡ 0x32
message_kind (Label.header name flag) k = absurd k
message_kind (Label.message target response) k = refl

-- the record of an entry is right
pub names_named : {s : List ℕ} {l : Label} {r : Record} → Names s l r → Named s r
names_named (Names.header b h e) = (h, tt)
names_named (Names.message h i e o) = (h, (i, tt))

-- and so are those of entries in a row
pub spells_right : {s : List ℕ} {Kind : Label → Type 0} {is : List Item} {rs : List Record} → Spells s Kind is rs → Right s rs
spells_right Spells.none = tt
spells_right {s} (Spells.more {rs} {qs} k f n g c y) = (f, names_named n, right_both s rs qs g (spells_right y))

-- the writing puts out some bytes and ends at n, or, where D holds, is refused with 5; if all is fine the bytes are x
pub record Put (D : Type 0) (d : Out) (Fine : Type 0) (x : List ℕ) (n : ℕ) : Type 0 where
  pub out : List ℕ
  pub puts : Puts D d out n
  pub same : Fine → out ≡ x

module _ (s : List ℕ) where
  module _ (image : List ℕ) where
    -- ---- entries

    pub label_puts : {D : Type 0} {l : Label} {r : Record} (qs : List Record) (z : List ℕ) (at : ℕ) → Fits r → Names s l r → Here image at (laid (r ∷ qs)) z
        → Puts D (label (kind_of l) image s at) (write_label l) (at + size r)
    unfolding label
    label_puts qs z at f (Names.header {name} {p} {n} true h e) g =
        let same : length name ≡ n = rw e at (length_bytes n s p h.inside) in
        rw (first s image (R.Header p n true) qs z g f, same, sym e) (row_puts s at none (2 bytes n) none h (row_puts s at (1 bytes 1) none none (empty s) Puts.done))
    label_puts qs z at f (Names.header {name} {p} {n} false h e) g =
        let same : length name ≡ n = rw e at (length_bytes n s p h.inside) in
        rw (first s image (R.Header p n false) qs z g f, same, sym e) (row_puts s at none (2 bytes n) none h (row_puts s at (1 bytes 0) none none (empty s) Puts.done))
    label_puts {D} qs z at f (Names.message {target} {response} {p} {n} {q} {m} h i e o) g =
        let same : length target ≡ n = rw e at (length_bytes n s p h.inside) in
        let too : length response ≡ m = rw o at (length_bytes m s q i.inside) in
        let k : ℕ = at + size (R.Message p n q m) in
        let y : Puts D (row s (row_of none (2 bytes m) none q m) at (end k)) ((digits 2 m ++ bytes_at m s q) ++ []) k = row_puts s at none (2 bytes m) none i Puts.done in
        rw (first s image (R.Message p n q m) qs z g f, same, too, sym e, sym o)
        (row_puts s at none (2 bytes n) none h (rw (append-nil (digits 2 m ++ bytes_at m s q)) at y))

    pub items_puts : {D : Type 0} {kind : ℕ} {Kind : Label → Type 0} {is : List Item} {rs : List Record} (exact : Bool) → ((l : Label) → Kind l → kind_of l ≡ kind)
        → Spells s Kind is rs → (z : List ℕ) (at : ℕ) → Here image at (laid rs) z → ((Shallow limit.levels is → ⊥) → D)
        → Put D (entries kind exact image s (length is) at) (Shallow limit.levels is) (write_items exact is) (at + length (laid rs))
    unfolding entries entry
    items_puts exact k Spells.none z at h d =
        let e : at + 0 ≡ at = omega arith in
        record { out = []; puts = rw e Puts.done; same = λ f. refl }
    items_puts {D} {kind} exact k (Spells.more {l} {v} {is} {r} {rs} {qs} t f n g c y) z at h d =
        let q : ℕ = at + size r in
        let e : ℕ = q + length (laid rs) in
        let j : Here image q (laid rs ++ laid qs) z = rw (laid_append rs qs) at (others s image r (rs ++ qs) z h) in
        let u : Out = top_value image s q in
        let m : ℕ = declared exact (length (put_out_lem u)) in
        let ends : at + length (laid (r ∷ (rs ++ qs))) ≡ e + length (laid qs) = omega (arith, laid_size r (rs ++ qs), laid_length rs qs) in
        let x : (E : Type 0) → (limit.levels < depth v → E) → Puts E u (amf0.write v) e =
        λ E i. puts s image c g (laid qs ++ z) q e limit.levels (length (laid rs)) (cut (laid rs) (laid qs) j) refl i (omega arith) in
        let o = items_puts exact k y z e (skip (laid rs) (laid qs) j) (λ i. d λ w. i w.1) in
        let a : Puts D (label kind image s at) (write_label l) q = rw (k l t) at (label_puts {D = D} (rs ++ qs) z at f n h) in
        let b : Puts D (row s (row_of (4 bytes m) none none 0 0) at u) (digits 4 m ++ amf0.write v) e =
        row_puts s at (4 bytes m) none none (empty s) (x D λ i. d λ w. omega (arith, w.0)) in
        record {
          out = (write_label l ++ (digits 4 m ++ amf0.write v)) ++ o.out;
          puts = rw ends (then (entries kind exact image s (length is)) (then _ a b) o.puts);
          same = λ w.
              let same : put_out_lem u ≡ amf0.write v = puts_bytes (x ⊥ λ i. omega (arith, w.0)) in
              rw (same, o.same w.1) (simp append_assoc);
        }

    -- ---- the packet

    pub packet_here : {D : Type 0} {p : Packet} {hs ms : List Record} {z : List ℕ} (exact : Bool) (n : ℕ) → Fits (counts p) → Spells s IsHeader p.headers hs
        → Spells s IsMessage p.messages ms → Here image 0 (laid (counts p ∷ (hs ++ ms))) z → n ≡ length (laid (counts p ∷ (hs ++ ms)))
        → ((Within limit.levels p → ⊥) → D) → Put D (packet exact image s) (Within limit.levels p) (write exact p) n
    unfolding packet
    packet_here {D} {p} {hs} {ms} {z} exact n f x y h l d =
        let r : Record = counts p in
        let q : ℕ = 0 + size r in
        let e : ℕ = q + length (laid hs) in
        let j : Here image q (laid hs ++ laid ms) z = rw (laid_append hs ms) at (others s image r (hs ++ ms) z h) in
        let ends : n ≡ e + length (laid ms) = omega (arith, laid_size r (hs ++ ms), laid_length hs ms) in
        let a = items_puts exact header_kind x (laid ms ++ z) q (cut (laid hs) (laid ms) j) (λ i. d λ w. i w.0) in
        let b = items_puts exact message_kind y z e (skip (laid hs) (laid ms) j) (λ i. d λ w. i w.1) in
        record {
          out = 0 ∷ 0 ∷ digits 2 (length p.headers) ++ (a.out ++ (digits 2 (length p.messages) ++ b.out));
          puts =
              rw (first s image r (hs ++ ms) z h f, ends)
              (row_puts s 0 (2 bytes 0) (2 bytes length p.headers) none (empty s)
              (then _ a.puts (row_puts s 0 none (2 bytes length p.messages) none (empty s) b.puts)));
          same = λ w. rw (a.same w.0, b.same w.1);
        }

    pub packet_puts : {D : Type 0} {p : Packet} (exact : Bool) → Images s p image → ((Within limit.levels p → ⊥) → D)
        → Put D (packet exact image s) (Within limit.levels p) (write exact p) (length image)
    packet_puts exact m d =
        packet_here exact (length image) m.fits m.headers m.messages (record { same = m.lies ∙ sym (append-nil _) }) (ap length m.lies) d

    -- the call's writing, of an image of a packet
    pub image_puts : {D : Type 0} {p : Packet} (exact : Bool) → Images s p image → ((Within limit.levels p → ⊥) → D)
        → Put D (whole image (packet exact image s)) (Within limit.levels p) (write exact p) (length image)
    image_puts exact m d =
        let x = packet_puts exact m d in
        record { out = x.out; puts = puts_whole image x.puts (omega arith); same = x.same }

    pub write_puts : {p : Packet} (exact : Bool) → Images s p image → Within limit.levels p
        → Puts ⊥ (whole image (packet exact image s)) (write exact p) (length image)
    write_puts exact m w = let x = image_puts {D = ⊥} exact m (λ f. f w) in rw (x.same w) at x.puts

-- Within the limits, the image of a packet is written as that packet, with exact lengths or without: but 1 where that is over the limit, and 4 where it has
-- no room.
pub packet_written : {image s : List ℕ} {p : Packet} (exact : Bool) (room : ℕ) → Writable image s p → write_of image s exact room ≡ sized (write exact p) room
packet_written {image} {s} exact room w =
    pick_yes (length s) limit.bytes _ _ w.text_size
    ∙ (pick_yes (length image) limit.image _ _ w.image_size ∙ puts_settled (write_puts s image exact w.images w.deep) room)
