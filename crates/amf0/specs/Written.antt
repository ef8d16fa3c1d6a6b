-- What the records of an image given to a writer mean, and the bytes that a tree is written as.
use Rattle.std.specs.Prelude.{ℕ, suc, ◌+◌, ◌<◌, ◌≤◌, ◌≡◌, List, [], ◌∷◌, ◌++◌, map, length, leb}
use Rattle.wire.specs.Choice.{pick}
use Rattle.wire.specs.Number.{digits}
use Rattle.wire.specs.Bytes.{decimal}
use Rattle.wire.specs.Limit as limit
use Rattle.image.specs.declared.record.Record.{Record}
use Rattle.image.specs.Record.{bit_of, unplaced}
use Rattle.image.specs.Out.{Written}
use Rattle.amf0.specs.Standard.{Item, Sort, Tree, depth, follows, short_most, Encodes, Content, content}
use Rattle.amf0.specs.Standard.Item.{number, boolean, string, object, null, undefined, reference, ecma_array, strict_array, date, unsupported, xml_document, typed_object}
use Rattle.amf0.specs.Standard.Sort.{value, properties, values}
use Rattle.amf0.specs.Shown.{Word, look, laid, Right}
use Rattle.amf0.specs.Reading.{read_of}
use Rattle.amf0.specs.Writing.{write_of}
use Rattle.amf0.specs.Standard.Content.{nothing, named, associative, ordered}

-- ---- the bytes of a tree

-- a string that fits a U16 length is a short one
abbrev pub write_string : List ℕ → List ℕ
write_string t = pick (leb (length t) short_most) (0x02 ∷ digits 2 (length t) ++ t) (0x0C ∷ digits 4 (length t) ++ t)

abbrev pub write_item : Item → List ℕ
write_item (number n) = 0x00 ∷ digits 8 n
write_item (boolean b) = 0x01 ∷ bit_of b ∷ []
write_item (string t) = write_string t
write_item object = 0x03 ∷ []
write_item null = 0x05 ∷ []
write_item undefined = 0x06 ∷ []
write_item (reference n) = 0x07 ∷ digits 2 n
write_item (ecma_array n) = 0x08 ∷ digits 4 n
write_item (strict_array n) = 0x0A ∷ digits 4 n
write_item (date n z) = 0x0B ∷ digits 8 n ++ digits 2 z
write_item unsupported = 0x0D ∷ []
write_item (xml_document t) = 0x0F ∷ digits 4 (length t) ++ t
write_item (typed_object t) = 0x10 ∷ digits 2 (length t) ++ t

-- what a tree is written as
abbrev pub write : {k : Sort} → Tree k → List ℕ
write (Tree.node i t) = write_item i ++ write t
write Tree.none = 0 ∷ 0 ∷ 0x09 ∷ []
write (Tree.property k v ps) = (digits 2 (length k) ++ k) ++ (write v ++ write ps)
write Tree.nil = []
write (Tree.cons v vs) = write v ++ write vs

-- an encoding of a tree, and none of its encodings is shorter
pub record Shortest (t : Tree value) (x : List ℕ) : Type 0 where
  pub encodes : Encodes value t x
  pub least : (y : List ℕ) → Encodes value t y → length x ≤ length y

-- ---- the tree of an image

-- whether values without a key may come before pairs, and then the number of the next one
pub data Lead : Type 0 where
  keyed : Lead
  keyless : (next : ℕ) → Lead

-- they may in an 08
abbrev pub lead_of : Content → Lead
lead_of nothing = keyed
lead_of named = keyed
lead_of associative = keyless 0
lead_of (ordered n) = keyed

abbrev pub lead : Item → Lead
lead i = lead_of (content i)

-- Records that spell a tree over a text, left to right. A value without a key is a property under its number in decimal.
pub data Spells (s : List ℕ) : Lead → (k : Sort) → Tree k → List Record → Type 0 where
  node : {r : Record} {i : Item} {t : Tree (follows i)} {rs : List Record} → look s r ≡ Word.item i → Spells s (lead i) (follows i) t rs
      → Spells s keyed value (Tree.node i t) (r ∷ rs)
  none : {r : Record} → look s r ≡ Word.close → Spells s keyed properties Tree.none (r ∷ [])
  property : {r : Record} {k : List ℕ} {v : Tree value} {ps : Tree properties} {rs qs : List Record} → look s r ≡ Word.name k
      → Spells s keyed value v rs → Spells s keyed properties ps qs → Spells s keyed properties (Tree.property k v ps) (r ∷ (rs ++ qs))
  nil : Spells s keyed (values 0) Tree.nil []
  cons : {n : ℕ} {v : Tree value} {vs : Tree (values n)} {rs qs : List Record} → Spells s keyed value v rs → Spells s keyed (values n) vs qs
      → Spells s keyed (values (suc n)) (Tree.cons v vs) (rs ++ qs)
  dense : {n : ℕ} {v : Tree value} {ps : Tree properties} {rs qs : List Record} → Spells s keyed value v rs → Spells s (keyless (n + 1)) properties ps qs
      → Spells s (keyless n) properties (Tree.property (decimal n) v ps) (rs ++ qs)
  pairs : {n : ℕ} {ps : Tree properties} {rs : List Record} → Spells s keyed properties ps rs → Spells s (keyless n) properties ps rs

-- image bytes that are records which, over the text s, spell the tree t
pub record Images (s : List ℕ) (t : Tree value) (image : List ℕ) : Type 0 where
  pub records : List Record
  pub right : Right s records
  pub spells : Spells s keyed value t records
  pub lies : image ≡ laid records

-- an image that can be written, but for the bytes that this takes: its size and that of the text are within the limits, and it is that of a tree, at most
-- as deep as the limit
pub record Writable (image text : List ℕ) (t : Tree value) : Type 0 where
  pub text_size : length text ≤ limit.bytes
  pub image_size : length image ≤ limit.image
  pub images : Images text t image
  pub deep : depth t ≤ limit.levels

-- the reasons for the answer 1
pub data Over (image text : List ℕ) : Type 0 where
  text_over : limit.bytes < length text → Over image text
  image_over : limit.image < length image → Over image text
  output_over : {t : Tree value} → Writable image text t → limit.bytes < length (write t) → Over image text

-- values without a key, from number k on, and then properties
abbrev pub numbered : {n : ℕ} → ℕ → Tree (values n) → Tree properties → Tree properties
numbered k Tree.nil ps = ps
numbered k (Tree.cons v vs) ps = Tree.property (decimal k) v (numbered (k + 1) vs ps)

-- two images, over two texts, that are alike, record by record, but for the places of texts
pub record Alike (s b i j : List ℕ) : Type 0 where
  pub first : List Record
  pub second : List Record
  pub right : Right s first
  pub right_too : Right b second
  pub lies : i ≡ laid first
  pub lies_too : j ≡ laid second
  pub same : map unplaced first ≡ map unplaced second

-- an input is read in one room, and what was read is written in another
abbrev pub rewrite_of : List ℕ → ℕ → ℕ → Written
rewrite_of s room out = write_of (read_of s room).bytes s out
