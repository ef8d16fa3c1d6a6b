-- What the records of a packet's image mean, the bytes that a packet is written as, and the entries that those are cut into.
use Rattle.std.specs.Prelude.{ℕ, ◌+◌, ◌≤◌, ◌≡◌, List, [], ◌∷◌, ◌++◌, map, Bool, length}
use Rattle.wire.specs.Number.{digits}
use Rattle.wire.specs.Field.{bytes_at}
use Rattle.wire.specs.Limit as limit
use Rattle.image.specs.declared.record.Record.{Record}
use Rattle.image.specs.Kind.{header, message}
use Rattle.image.specs.Record.{bit_of}
use Rattle.image.specs.Taking.{Fits}
use Rattle.image.specs.Whole.{Whole}
use Rattle.image.specs.Out.{Written}
use Rattle.amf0.specs.Standard as standard
use Rattle.amf0.specs.Standard.{Sort, Tree}
use Rattle.amf0.specs.Shown.{laid, Right}
use Rattle.amf0.specs.Written as amf0
use Rattle.amf0.specs.Written.Lead.{keyed}
use Rattle.packet.specs.declared.head.Entry.{Entry}
use Rattle.packet.specs.Packet.{Label, Item, Packet, IsHeader, IsMessage}
use Rattle.packet.specs.Shown.{Names, counts, Within}
use Rattle.packet.specs.Entry.{span_of}
use Rattle.packet.specs.Writing.{declared, write_of}

-- ---- the bytes of a packet

abbrev pub short : List ℕ → List ℕ
short t = digits 2 (length t) ++ t

-- a header's name and its flag, 0 or 1; a message's target and response
abbrev pub write_label : Label → List ℕ
write_label (Label.header name flag) = short name ++ (bit_of flag ∷ [])
write_label (Label.message target response) = short target ++ short response

-- the length that an entry with a value is written with: that of the bytes behind it, or that it is not known
abbrev pub length_of : Bool → Tree Sort.value → ℕ
length_of exact v = declared exact (length (amf0.write v))

-- what entries in a row are written as
abbrev pub write_items : Bool → List Item → List ℕ
write_items exact [] = []
write_items exact (i ∷ is) = write_label i.label ++ (digits 4 (length_of exact i.value) ++ (amf0.write i.value ++ write_items exact is))

-- what a packet is written as, with exact lengths or without
abbrev pub write : Bool → Packet → List ℕ
write exact p =
    0x00 ∷ 0x00 ∷ digits 2 (length p.headers) ++ (write_items exact p.headers ++ (digits 2 (length p.messages) ++ write_items exact p.messages))

-- the same entry, but for the length that it declares
abbrev pub saying_item : Bool → Item → Item
saying_item exact i = record { label = i.label; declared = length_of exact i.value; value = i.value }

-- the same packet, but for the lengths that its entries declare
abbrev pub saying : Bool → Packet → Packet
saying exact p = record { headers = map (saying_item exact) p.headers; messages = map (saying_item exact) p.messages }

-- ---- the packet of an image

-- records that spell entries of one kind in a row, over a text: each entry's own, and then those of its value. They don't tell what it declares.
pub data Spells (s : List ℕ) (Kind : Label → Type 0) : List Item → List Record → Type 0 where
  none : Spells s Kind [] []
  more : {l : Label} {d : ℕ} {v : Tree Sort.value} {is : List Item} {r : Record} {rs qs : List Record} → Kind l → Fits r → Names s l r → Right s rs
      → amf0.Spells s keyed Sort.value v rs → Spells s Kind is qs
      → Spells s Kind (record { label = l; declared = d; value = v } ∷ is) (r ∷ (rs ++ qs))

-- image bytes that are the packet's record, and then records which, over the text s, spell its headers and its messages
pub record Images (s : List ℕ) (p : Packet) (image : List ℕ) : Type 0 where
  pub header_records : List Record
  pub message_records : List Record
  pub fits : Fits (counts p)
  pub headers : Spells s IsHeader p.headers header_records
  pub messages : Spells s IsMessage p.messages message_records
  pub lies : image ≡ laid (counts p ∷ (header_records ++ message_records))

-- an image that can be written, but for the bytes that this takes: its size and that of the text are within the limits, and it is that of a packet whose
-- values are at most as deep as the limit
pub record Writable (image text : List ℕ) (p : Packet) : Type 0 where
  pub text_size : length text ≤ limit.bytes
  pub image_size : length image ≤ limit.image
  pub images : Images text p image
  pub deep : Within limit.levels p

-- an input is read in one room, and what was read is written in another
abbrev pub rewrite_of : (List ℕ → ℕ → Whole) → List ℕ → ℕ → Bool → ℕ → Written
rewrite_of of s room exact out = write_of (of s room).bytes s exact out

-- ---- the entries of a packet

-- the n bytes of s from p on are the text t
pub record Holds (s t : List ℕ) (p n : ℕ) : Type 0 where
  pub inside : p + n ≤ length s
  pub long : n ≡ length t
  pub same : bytes_at n s p ≡ t

-- an entry that a cut found has the kind, the flag and the texts of a label
pub record Headed (s name : List ℕ) (flag : Bool) (e : Entry) : Type 0 where
  pub kind : e.kind ≡ header
  pub bit : e.flag ≡ bit_of flag
  pub first : Holds s name e.place1 e.length1
  pub no_place : e.place2 ≡ 0
  pub no_length : e.length2 ≡ 0

pub record Sent (s target response : List ℕ) (e : Entry) : Type 0 where
  pub kind : e.kind ≡ message
  pub bit : e.flag ≡ 0
  pub first : Holds s target e.place1 e.length1
  pub second : Holds s response e.place2 e.length2

abbrev pub Labelled : List ℕ → Label → Entry → Type 0
Labelled s (Label.header name flag) e = Headed s name flag e
Labelled s (Label.message target response) e = Sent s target response e

-- an entry that a cut of s found has the label l, and its value's bytes are y
pub record Parts (s : List ℕ) (l : Label) (y : List ℕ) (e : Entry) : Type 0 where
  pub label : Labelled s l e
  pub inside : e.place + e.length ≤ length s
  pub long : e.length ≡ length y
  pub span : span_of s e ≡ y

-- the entries of a packet, headers first
abbrev pub items_of : Packet → List Item
items_of p = p.headers ++ p.messages

abbrev pub no_item : Item
no_item = record { label = Label.message [] []; declared = 0; value = Tree.node standard.Item.null Tree.nil }
