-- What the records of a reading show: a tree told from left to right, its texts taken out of the input.
use Rattle.std.specs.Prelude.{ℕ, ◌+◌, ◌≤◌, ◌≡◌, List, [], ◌∷◌, ◌++◌, true, length}
use Rattle.image.specs.declared.record.Record.{Record}
use Rattle.image.specs.declared.record.Record.TheVariants.{Number, Boolean, Text, Object, Null, Undefined, Reference, EcmaArray, ObjectEnd, StrictArray, Date, Unsupported, Xml, TypedObject, Key, Packet, Header, Message, Lso}
use Rattle.image.specs.Record.{Part, form_of, bytes_of}
use Rattle.image.specs.Record.Part.{number, text}
use Rattle.image.specs.Taking.{Fits}
use Rattle.wire.specs.Utf8.{utf8}
use Rattle.wire.specs.Field.{bytes_at}
use Rattle.amf0.specs.Standard.{Item, Tree, Sort}
use Rattle.amf0.specs.Standard.Tree.{node, none, property, nil, cons}

-- a tree's words: an item, a property's name, or the end of the properties
pub data Word : Type 0 where
  item : Item → Word
  name : List ℕ → Word
  close : Word
  -- a record that is no part of a value
  other : Word

-- the words of a tree, and then more
abbrev pub told : {k : Sort} → Tree k → List Word → List Word
told (node i t) r = item i ∷ told t r
told none r = close ∷ r
told (property k v ps) r = name k ∷ told v (told ps r)
told nil r = r
told (cons v vs) r = told v (told vs r)

-- the word that a record says
abbrev pub look : List ℕ → Record → Word
look s (Number n) = item (Item.number n)
look s (Boolean b) = item (Item.boolean b)
look s (Text p n) = item (Item.string (bytes_at n s p))
look s Object = item Item.object
look s Null = item Item.null
look s Undefined = item Item.undefined
look s (Reference n) = item (Item.reference n)
look s (EcmaArray n) = item (Item.ecma_array n)
look s ObjectEnd = close
look s (StrictArray n) = item (Item.strict_array n)
look s (Date n present zone) = item (Item.date n zone)
look s Unsupported = item Item.unsupported
look s (Xml p n) = item (Item.xml_document (bytes_at n s p))
look s (TypedObject p n) = item (Item.typed_object (bytes_at n s p))
look s (Key p n) = name (bytes_at n s p)
look s (Packet h m) = other
look s (Header p n f) = other
look s (Message p n q m) = other
look s (Lso l p n) = other

abbrev pub words : List ℕ → List Record → List Word
words s [] = []
words s (r ∷ rs) = look s r ∷ words s rs

abbrev pub laid : List Record → List ℕ
laid [] = []
laid (r ∷ rs) = bytes_of r ++ laid rs

-- a text of n bytes at p is inside the input, and UTF-8
pub record Stands (s : List ℕ) (p n : ℕ) : Type 0 where
  pub inside : p + n ≤ length s
  pub right : utf8 (bytes_at n s p) ≡ true

-- the texts among the parts of a record stand
abbrev pub Texts : List ℕ → List Part → Type 0
Texts s [] = Unit {0}
Texts s (number w n ∷ ps) = Texts s ps
Texts s (text w p n ∷ ps) = Stands s p n × Texts s ps

-- the texts that a record names stand
abbrev pub Named : List ℕ → Record → Type 0
Named s r = Texts s (form_of r).parts

-- records that can stand in an image, over an input: their numbers fit their fields, and the texts that they name stand
abbrev pub Right : List ℕ → List Record → Type 0
Right s [] = Unit {0}
Right s (r ∷ rs) = Fits r × Named s r × Right s rs

-- image bytes that are records which can stand in an image over the input s, and there tell the tree t
pub record Shows (s : List ℕ) (t : Tree Sort.value) (image : List ℕ) : Type 0 where
  pub records : List Record
  pub right : Right s records
  pub tells : words s records ≡ told t []
  pub lies : image ≡ laid records
