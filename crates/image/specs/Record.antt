-- How each record lies: the lines of the rule "Tree image" (docs/DEMANDS.md), in its order.
use Rattle.std.specs.Prelude.{ℕ, ◌+◌, List, [], ◌∷◌, ◌++◌, Bool, true, false, get_or}
use Rattle.wire.specs.Number.{digits}
use Rattle.image.specs.declared.record.Field.{Field}
use Rattle.image.specs.declared.record.Layout.{Layout}
use Rattle.image.specs.declared.record.Record.{Record}
use Rattle.image.specs.declared.record.Record.TheVariants.{Number, Boolean, Text, Object, Null, Undefined, Reference, EcmaArray, ObjectEnd, StrictArray, Date, Unsupported, Xml, TypedObject, Key, Packet, Header, Message, Lso}
use Rattle.image.specs.Kind as kind

infix 90 ◌bytes◌
abbrev pub ◌bytes◌ : ℕ → ℕ → Field
w bytes n = record { width = w; number = n }

abbrev pub none : Field
none = 0 bytes 0

abbrev pub lies : ℕ → Field → Field → Field → Field → Layout
lies k a b c d = record { kind = k; a = a; b = b; c = c; d = d }

abbrev pub bit_of : Bool → ℕ
bit_of true = 1
bit_of false = 0

-- ---- the table

-- a part of a record's body: a number in so many bytes, or a text, as its place in three bytes and its length in so many
pub data Part : Type 0 where
  number : (width n : ℕ) → Part
  text : (width place length : ℕ) → Part

pub record Form : Type 0 where
  pub kind : ℕ
  pub parts : List Part

infix 5 ◌has◌
abbrev pub ◌has◌ : ℕ → List Part → Form
k has ps = record { kind = k; parts = ps }

abbrev pub form_of : Record → Form
form_of (Number n) = kind.number has number 8 n ∷ []
form_of (Boolean b) = kind.boolean has number 1 (bit_of b) ∷ []
form_of (Text p n) = kind.text has text 3 p n ∷ []
form_of (Xml p n) = kind.xml has text 3 p n ∷ []
form_of Object = kind.object has []
form_of Null = kind.null has []
form_of Undefined = kind.undefined has []
form_of ObjectEnd = kind.object_end has []
form_of Unsupported = kind.unsupported has []
form_of (Reference n) = kind.reference has number 2 n ∷ []
form_of (EcmaArray n) = kind.ecma_array has number 4 n ∷ []
form_of (StrictArray n) = kind.strict_array has number 4 n ∷ []
form_of (Date n present zone) = kind.date has number 8 n ∷ number 1 (bit_of present) ∷ number 2 zone ∷ []
form_of (TypedObject p n) = kind.typed_object has text 2 p n ∷ []
form_of (Key p n) = kind.key has text 2 p n ∷ []
form_of (Packet headers messages) = kind.packet has number 2 headers ∷ number 2 messages ∷ []
form_of (Header p n flag) = kind.header has text 2 p n ∷ number 1 (bit_of flag) ∷ []
form_of (Message p n q m) = kind.message has text 2 p n ∷ text 2 q m ∷ []
form_of (Lso stored p n) = kind.lso has number 4 stored ∷ text 2 p n ∷ []

-- ---- the fields of a record

abbrev pub fields_of : List Part → List Field
fields_of [] = []
fields_of (number w n ∷ ps) = w bytes n ∷ fields_of ps
fields_of (text w p n ∷ ps) = 3 bytes p ∷ w bytes n ∷ fields_of ps

-- none has more than four
abbrev pub layout : ℕ → List Field → Layout
layout k fs = lies k (get_or fs 0 none) (get_or fs 1 none) (get_or fs 2 none) (get_or fs 3 none)

abbrev pub layout_of : Record → Layout
layout_of r = layout (form_of r).kind (fields_of (form_of r).parts)

abbrev pub field_bytes : Field → List ℕ
field_bytes f = digits f.width f.number

abbrev pub bytes_in : Layout → List ℕ
bytes_in l = l.kind ∷ field_bytes l.a ++ (field_bytes l.b ++ (field_bytes l.c ++ field_bytes l.d))

unfoldable pub bytes_of : Record → List ℕ
bytes_of r = bytes_in (layout_of r)

abbrev pub size_in : Layout → ℕ
size_in l = 1 + l.a.width + l.b.width + l.c.width + l.d.width

unfoldable pub size : Record → ℕ
size r = size_in (layout_of r)

-- ---- its places

-- a record with each place p taken for f p
abbrev pub placed : (ℕ → ℕ) → Record → Record
placed f (Number n) = Number n
placed f (Boolean b) = Boolean b
placed f (Text p n) = Text (f p) n
placed f (Xml p n) = Xml (f p) n
placed f Object = Object
placed f Null = Null
placed f Undefined = Undefined
placed f ObjectEnd = ObjectEnd
placed f Unsupported = Unsupported
placed f (Reference n) = Reference n
placed f (EcmaArray n) = EcmaArray n
placed f (StrictArray n) = StrictArray n
placed f (Date n present zone) = Date n present zone
placed f (TypedObject p n) = TypedObject (f p) n
placed f (Key p n) = Key (f p) n
placed f (Packet headers messages) = Packet headers messages
placed f (Header p n flag) = Header (f p) n flag
placed f (Message p n q m) = Message (f p) n (f q) m
placed f (Lso stored p n) = Lso stored (f p) n

-- a record with its places further on
abbrev pub moved : ℕ → Record → Record
moved a r = placed (λ p. a + p) r

-- a record with its places taken for 0
abbrev pub unplaced : Record → Record
unplaced r = placed (λ p. 0) r
