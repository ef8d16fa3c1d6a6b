-- AMF 0 as Adobe's document has it ("Action Message Format -- AMF 0", 2007): values as trees, and the rows of bytes that encode them. Texts are their
-- bytes, numbers their bits. Where a form is allowed that the document does not have, or more widely than it has it, its name begins with `departure`.
use Rattle.std.specs.Prelude.{ℕ, zero, suc, ◌^◌, ◌<◌, ◌≤◌, ◌≡◌, List, [], ◌∷◌, ◌++◌, Bool, true, false, length, max}
use Rattle.wire.specs.Number.{digits}
use Rattle.wire.specs.Utf8.{utf8}

-- a value's type with its own fields
pub data Item : Type 0 where
  number : (bits : ℕ) → Item
  boolean : Bool → Item
  string : (text : List ℕ) → Item
  object null undefined : Item
  reference : (index : ℕ) → Item
  ecma_array : (associative_count : ℕ) → Item
  strict_array : (array_count : ℕ) → Item
  date : (bits time_zone : ℕ) → Item
  unsupported : Item
  xml_document : (text : List ℕ) → Item
  typed_object : (class_name : List ℕ) → Item

-- what a row of bytes can be: a value, object properties up to the end marker, or so many values
pub data Sort : Type 0 where
  value properties : Sort
  values : (count : ℕ) → Sort

-- how many values are to follow in a row
abbrev pub many : Sort → ℕ
many value = 0
many properties = 0
many (values n) = n

-- what follows the fields of an item: nothing, properties, those of an associative array, or so many values in order
pub data Content : Type 0 where
  nothing named associative : Content
  ordered : (count : ℕ) → Content

abbrev pub content : Item → Content
content (number n) = nothing
content (boolean b) = nothing
content (string t) = nothing
content object = named
content null = nothing
content undefined = nothing
content (reference n) = nothing
content (ecma_array n) = associative
content (strict_array n) = ordered n
content (date n z) = nothing
content unsupported = nothing
content (xml_document t) = nothing
content (typed_object t) = named

abbrev pub sort_of : Content → Sort
sort_of nothing = values 0
sort_of named = properties
sort_of associative = properties
sort_of (ordered n) = values n

abbrev pub follows : Item → Sort
follows i = sort_of (content i)

pub data Tree : Sort → Type 0 where
  node : (i : Item) → Tree (follows i) → Tree value
  none : Tree properties
  property : (name : List ℕ) → Tree value → Tree properties → Tree properties
  nil : Tree (values zero)
  cons : {n : ℕ} → Tree value → Tree (values n) → Tree (values (suc n))

-- how many values stand in one another
abbrev pub depth : {k : Sort} → Tree k → ℕ
depth (node i t) = suc (depth t)
depth none = 0
depth (property k v ps) = max (depth v) (depth ps)
depth nil = 0
depth (cons v vs) = max (depth v) (depth vs)

-- the most bytes of a text with a U16 length
abbrev pub short_most : ℕ
short_most = 65535

-- UTF-8 is a U16 length and as many bytes, UTF-8-long has a U32 length
pub data UTF-8 : List ℕ → List ℕ → Type 0 where
  short : (t : List ℕ) → length t < 256 ^ 2 → utf8 t ≡ true → UTF-8 t (digits 2 (length t) ++ t)

pub data UTF-8-long : List ℕ → List ℕ → Type 0 where
  long : (t : List ℕ) → length t < 256 ^ 4 → utf8 t ≡ true → UTF-8-long t (digits 4 (length t) ++ t)

-- a marker and the fields of its own
pub data Row : Item → List ℕ → Type 0 where
  number : (n : ℕ) → n < 256 ^ 8 → Row (Item.number n) (0x00 ∷ digits 8 n)
  boolean_false : Row (Item.boolean false) (0x01 ∷ 0 ∷ [])
  boolean_true : Row (Item.boolean true) (0x01 ∷ 1 ∷ [])
  -- 0 is false and every other byte true
  boolean_above : (b : ℕ) → 2 ≤ b → b < 256 → Row (Item.boolean true) (0x01 ∷ b ∷ [])
  string : {t x : List ℕ} → UTF-8 t x → Row (Item.string t) (0x02 ∷ x)
  object : Row Item.object (0x03 ∷ [])
  null : Row Item.null (0x05 ∷ [])
  undefined : Row Item.undefined (0x06 ∷ [])
  -- the document has an index into the complex values sent so far; bytes alone do not tell whether it is one, so every index has this name
  departure_any_index : (n : ℕ) → n < 256 ^ 2 → Row (Item.reference n) (0x07 ∷ digits 2 n)
  -- the document has the count of the array's pairs; any count is kept
  departure_any_count : (n : ℕ) → n < 256 ^ 4 → Row (Item.ecma_array n) (0x08 ∷ digits 4 n)
  strict_array : (n : ℕ) → n < 256 ^ 4 → Row (Item.strict_array n) (0x0A ∷ digits 4 n)
  date : (n : ℕ) → n < 256 ^ 8 → Row (Item.date n 0) (0x0B ∷ digits 8 n ++ digits 2 0)
  -- the document reserves the time zone and has 0 for it; any zone is kept
  departure_any_zone : (n z : ℕ) → n < 256 ^ 8 → 0 < z → z < 256 ^ 2 → Row (Item.date n z) (0x0B ∷ digits 8 n ++ digits 2 z)
  long_string : {t x : List ℕ} → UTF-8-long t x → short_most < length t → Row (Item.string t) (0x0C ∷ x)
  -- the document has a text that fits a U16 length as a short string; a long one is taken too
  departure_long_string : {t x : List ℕ} → UTF-8-long t x → length t ≤ short_most → Row (Item.string t) (0x0C ∷ x)
  unsupported : Row Item.unsupported (0x0D ∷ [])
  xml_document : {t x : List ℕ} → UTF-8-long t x → Row (Item.xml_document t) (0x0F ∷ x)
  typed_object : {t x : List ℕ} → UTF-8 t x → Row (Item.typed_object t) (0x10 ∷ x)
  -- the document has an AMF 3 value behind the marker 11; it is taken for a value of the unsupported type, that marker alone
  departure_avmplus : Row Item.unsupported (0x11 ∷ [])
  -- a marker that the document does not have is taken for a value of the unsupported type
  departure_unknown : (m : ℕ) → 0x12 ≤ m → m < 256 → Row Item.unsupported (m ∷ [])

pub data Encodes : (k : Sort) → Tree k → List ℕ → Type 0 where
  node : {i : Item} {t : Tree (follows i)} {x y : List ℕ} → Row i x → Encodes (follows i) t y → Encodes value (Tree.node i t) (x ++ y)
  -- the empty UTF-8 and the object end marker
  end : Encodes properties Tree.none (0 ∷ 0 ∷ 0x09 ∷ [])
  -- a name before the object end marker is dropped
  departure_named_end : {k x : List ℕ} → UTF-8 k x → 1 ≤ length k → Encodes properties Tree.none (x ++ (0x09 ∷ []))
  property : {k x : List ℕ} {v : Tree value} {ps : Tree properties} {y z : List ℕ} → UTF-8 k x → Encodes value v y → Encodes properties ps z
      → Encodes properties (Tree.property k v ps) (x ++ (y ++ z))
  nil : Encodes (values zero) Tree.nil []
  cons : {n : ℕ} {v : Tree value} {vs : Tree (values n)} {x y : List ℕ} → Encodes value v x → Encodes (values n) vs y
      → Encodes (values (suc n)) (Tree.cons v vs) (x ++ y)
