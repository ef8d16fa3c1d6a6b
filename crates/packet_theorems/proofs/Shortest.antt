-- What a packet is written as is that packet, but for the lengths that it declares, and no row of bytes that is the packet is shorter.
use Rattle.std.specs.Prelude.{◌+◌, ◌^◌, ◌≤◌, ◌<◌, ◌≡◌, ◌∷◌, ◌++◌}
use Rattle.wire.proofs.Kit.{ℕ, refl, ap, List, [], map, Bool, true, false, le_refl, arith, length, length-append}
use Rattle.wire.proofs.Kit.{length-map, lit<}
use Rattle.wire.specs.Number.{digits}
use Rattle.wire.specs.Limit as limit
use Rattle.image.specs.declared.record.Record.{Record}
use Rattle.image.specs.Taking.{Fits}
use Rattle.amf0.specs.Standard.{Sort, Tree}
use Rattle.amf0.specs.Standard.UTF-8.{short as text}
use Rattle.amf0.specs.Shown.{laid}
use Rattle.amf0.specs.Written as amf0
use Rattle.amf0_theorems.proofs.Puts.{laid_length, laid_size}
use Rattle.amf0_theorems.proofs.Says.{short_text}
use Rattle.amf0_theorems.proofs.Shortest.{encoded, least}
use Rattle.packet.specs.Packet as packet
use Rattle.packet.specs.Packet.{Label, Item, Packet, Items, Encoded}
use Rattle.packet.specs.Shown.{Names, counts, Shallow, Within}
use Rattle.packet.specs.Written.{write_label, length_of, write_items, write, saying_item, saying, Spells, Images}

-- ---- the packet

pub head : {s : List ℕ} {l : Label} {r : Record} → Names s l r → Fits r → packet.Head l (write_label l)
head (Names.header true h e) f = packet.Head.header_true (short_text e h f.b)
head (Names.header false h e) f = packet.Head.header_false (short_text e h f.b)
head (Names.message h i e o) f = packet.Head.message (short_text e h f.b) (short_text o i f.d)

-- a length that is written has room in its four bytes
pub declares : (exact : Bool) (v : Tree Sort.value) → (exact ≡ true → length (amf0.write v) ≤ limit.bytes) → length_of exact v < 256 ^ 4
declares true v h = omega (arith, h refl)
declares false v h = lit< tt

module _ (exact : Bool) where
  pub items_length : (i : Item) (is : List Item)
      → length (write_items exact (i ∷ is)) ≡ length (write_label i.label) + 4 + length (amf0.write i.value) + length (write_items exact is)
  items_length i is =
      let y : List ℕ = amf0.write i.value ++ write_items exact is in
      omega (
        arith,
        length-append (write_label i.label) (digits 4 (length_of exact i.value) ++ y),
        length-append (amf0.write i.value) (write_items exact is),
      )

  -- entries in a row
  made_items : {s : List ℕ} {Kind : Label → Type 0} {is : List Item} {rs : List Record} → Spells s Kind is rs → length (laid rs) ≤ limit.image
      → (exact ≡ true → length (write_items exact is) ≤ limit.bytes) → Items Kind (map (saying_item exact) is) (write_items exact is)
  made_items Spells.none h w = Items.none
  made_items (Spells.more {l} {d} {v} {is} {r} {rs} {qs} t f n g c y) h w =
      let a = laid_length rs qs in
      let b = laid_size r (rs ++ qs) in
      let o = items_length (record { label = l; declared = d; value = v }) is in
      Items.more t (head n f) (declares exact v λ e. omega (arith, w e)) (encoded c g (omega arith)) (made_items y (omega arith) (λ e. omega (arith, w e)))

  pub write_length : (p : Packet) → length (write exact p) ≡ 6 + length (write_items exact p.headers) + length (write_items exact p.messages)
  write_length p = omega (arith, length-append (write_items exact p.headers) (digits 2 (length p.messages) ++ write_items exact p.messages))

  -- what is written is the packet; exact lengths have to be within the limit
  pub write_encoded : {s image : List ℕ} {p : Packet} → Images s p image → length image ≤ limit.image
      → (exact ≡ true → length (write exact p) ≤ limit.bytes) → Encoded (saying exact p) (write exact p)
  write_encoded {p} m h w =
      let r : Record = counts p in
      let a = laid_size r (m.header_records ++ m.message_records) in
      let b = laid_length m.header_records m.message_records in
      let c = ap length m.lies in
      let l = write_length p in
      let hs : List Item = map (saying_item exact) p.headers in
      let ms : List Item = map (saying_item exact) p.messages in
      let hl : length hs ≡ length p.headers = length-map p.headers (saying_item exact) in
      let ml : length ms ≡ length p.messages = length-map p.messages (saying_item exact) in
      let hi = made_items m.headers (omega arith) (λ e. omega (arith, w e)) in
      let mi = made_items m.messages (omega arith) (λ e. omega (arith, w e)) in
      rw (← hl, ← ml) (Encoded.packet {hs = hs} {ms = ms} (rw hl m.fits.a) (rw ml m.fits.b) hi mi)

-- ---- the same packet, but for the lengths

module _ (next exact : Bool) where
  items_saying : (is : List Item) → write_items next (map (saying_item exact) is) ≡ write_items next is
  items_saying [] = refl
  items_saying (i ∷ is) = rw (items_saying is)

  -- it is written alike
  pub write_saying : (p : Packet) → write next (saying exact p) ≡ write next p
  write_saying p =
      rw (
        length-map p.headers (saying_item exact),
        length-map p.messages (saying_item exact),
        items_saying p.headers,
        items_saying p.messages,
      )

shallow_saying : (exact : Bool) (n : ℕ) (is : List Item) → Shallow n is → Shallow n (map (saying_item exact) is)
shallow_saying exact n [] h = tt
shallow_saying exact n (i ∷ is) h = (h.0, shallow_saying exact n is h.1)

shallow_said : (exact : Bool) (n : ℕ) (is : List Item) → Shallow n (map (saying_item exact) is) → Shallow n is
shallow_said exact n [] h = tt
shallow_said exact n (i ∷ is) h = (h.0, shallow_said exact n is h.1)

-- and is as deep
pub within_saying : (n : ℕ) (exact : Bool) (p : Packet) → Within n p → Within n (saying exact p)
within_saying n exact p h = (shallow_saying exact n p.headers h.0, shallow_saying exact n p.messages h.1)

pub within_said : (n : ℕ) (exact : Bool) (p : Packet) → Within n (saying exact p) → Within n p
within_said n exact p h = (shallow_said exact n p.headers h.0, shallow_said exact n p.messages h.1)

-- ---- none is shorter

label_least : {l : Label} {x : List ℕ} → packet.Head l x → length (write_label l) ≡ length x
label_least (packet.Head.header_false (text t b u)) = omega (arith, length-append t (0 ∷ []))
label_least (packet.Head.header_true (text t b u)) = omega (arith, length-append t (1 ∷ []))
label_least (packet.Head.header_above f i j (text t b u)) = omega (arith, length-append t (1 ∷ []), length-append t (f ∷ []))
label_least (packet.Head.message (text t b u) (text o c v)) = refl

items_least : {Kind : Label → Type 0} {is : List Item} {x : List ℕ} (exact : Bool) → Items Kind is x → length (write_items exact is) ≤ length x
items_least exact Items.none = le_refl _
items_least exact (Items.more {l} {d} {v} {is} {x} {y} {z} k h b e i) =
    omega (
      arith,
      label_least h,
      least e,
      items_least exact i,
      items_length exact (record { label = l; declared = d; value = v }) is,
      length-append x (digits 4 d ++ (y ++ z)),
      length-append y z,
    )

pub packet_least : {p : Packet} {x : List ℕ} (exact : Bool) → Encoded p x → length (write exact p) ≤ length x
packet_least exact (Encoded.packet {hs} {ms} {x} {y} h m hi mi) =
    omega (
      arith,
      items_least exact hi,
      items_least exact mi,
      write_length exact (record { headers = hs; messages = ms }),
      length-append x (digits 2 (length ms) ++ y),
    )
