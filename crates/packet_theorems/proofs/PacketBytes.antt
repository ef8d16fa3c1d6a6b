-- Every packet is a row of bytes.
use Rattle.std.specs.Prelude.{◌∷◌, ◌++◌}
use Rattle.wire.proofs.Kit.{ℕ, List, [], length, lit<}
use Rattle.wire.specs.Number.{digits, Bytes}
use Rattle.amf0.specs.Standard.UTF-8.{short}
use Rattle.amf0_theorems.proofs.Bytes.{◌also◌, both, number, text, encoding}
use Rattle.packet.specs.Packet as packet
use Rattle.packet.specs.Packet.{Label, Packet, Items, Encoded}

-- an entry's own fields
label : {l : Label} {x : List ℕ} → packet.Head l x → Bytes x
label (packet.Head.header_false (short t h u)) = both (digits 2 (length t) ++ t) (0 ∷ []) (text 2 t u) (lit< tt also tt)
label (packet.Head.header_true (short t h u)) = both (digits 2 (length t) ++ t) (1 ∷ []) (text 2 t u) (lit< tt also tt)
label (packet.Head.header_above b k l (short t h u)) = both (digits 2 (length t) ++ t) (b ∷ []) (text 2 t u) (l also tt)
label (packet.Head.message (short t h u) (short o i v)) = both (digits 2 (length t) ++ t) (digits 2 (length o) ++ o) (text 2 t u) (text 2 o v)

-- entries in a row
items : {Kind : Label → Type 0} {is : List packet.Item} {x : List ℕ} → Items Kind is x → Bytes x
items Items.none = tt
items (Items.more {d} {x} {y} {z} k h b e i) =
    both x (digits 4 d ++ (y ++ z)) (label h) (both (digits 4 d) (y ++ z) (number 4 d) (both y z (encoding e) (items i)))

-- a packet
pub encoded_bytes : {p : Packet} {x : List ℕ} → Encoded p x → Bytes x
encoded_bytes (Encoded.packet {hs} {ms} {x} {y} h m hi mi) =
    let n : List ℕ = digits 2 (length ms) in
    let a : List ℕ = digits 2 (length hs) in
    (lit< tt also lit< tt also both a (x ++ (n ++ y)) (number 2 (length hs)) (both x (n ++ y) (items hi) (both n y (number 2 (length ms)) (items mi))))
