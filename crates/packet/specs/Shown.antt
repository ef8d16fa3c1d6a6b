-- What the image of a whole packet shows: the packet told from left to right, its texts taken out of the input.
use Rattle.std.specs.Prelude.{ℕ, ◌≤◌, ◌≡◌, List, [], ◌∷◌, ◌++◌, Bool, length}
use Rattle.wire.specs.Field.{bytes_at}
use Rattle.image.specs.declared.record.Record.{Record}
use Rattle.image.specs.declared.record.Record.TheVariants as R
use Rattle.image.specs.Record.{bytes_of}
use Rattle.image.specs.Taking.{Fits}
use Rattle.amf0.specs.Standard.{depth}
use Rattle.amf0.specs.Shown.{Stands, Shows}
use Rattle.packet.specs.Packet.{Label, Item, Packet}

-- the record of an entry names its texts, which stand in s
pub data Names (s : List ℕ) : Label → Record → Type 0 where
  header : {name : List ℕ} {p n : ℕ} (flag : Bool) → Stands s p n → bytes_at n s p ≡ name → Names s (Label.header name flag) (R.Header p n flag)
  message : {target response : List ℕ} {p n q m : ℕ} → Stands s p n → Stands s q m → bytes_at n s p ≡ target → bytes_at m s q ≡ response
      → Names s (Label.message target response) (R.Message p n q m)

-- image bytes that are, for each entry, its record and then the records that tell its value
pub data ShowsItems (s : List ℕ) : List Item → List ℕ → Type 0 where
  none : ShowsItems s [] []
  more : {i : Item} {is : List Item} {r : Record} {x y : List ℕ} → Fits r → Names s i.label r → Shows s i.value x → ShowsItems s is y
      → ShowsItems s (i ∷ is) (bytes_of r ++ (x ++ y))

-- the packet's record, with both counts
abbrev pub counts : Packet → Record
counts p = R.Packet (length p.headers) (length p.messages)

-- image bytes that are the packet's record and then its headers and messages
pub data ShowsPacket (s : List ℕ) (p : Packet) : List ℕ → Type 0 where
  packet : {x y : List ℕ} → Fits (counts p) → ShowsItems s p.headers x → ShowsItems s p.messages y
      → ShowsPacket s p (bytes_of (counts p) ++ (x ++ y))

-- no value is deeper than so many levels
abbrev pub Shallow : ℕ → List Item → Type 0
Shallow left [] = Unit {0}
Shallow left (i ∷ is) = (depth i.value ≤ left) × Shallow left is

abbrev pub Within : ℕ → Packet → Type 0
Within left p = Shallow left p.headers × Shallow left p.messages
