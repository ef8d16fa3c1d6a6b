-- Why a reading of a value is refused, with no word of a reader: which fields stand before one that is not whole or not right, and what is wrong with that
-- one: the rule "Fields" (docs/DEMANDS.md). The public call, last, adds the limit and the room.
use Rattle.std.specs.Prelude.{ℕ, suc, ◌+◌, ◌^◌, ◌<◌, ◌≤◌, ◌≡◌, ◌≢◌, List, [], ◌∷◌, ◌++◌, false, length, take, drop}
use Rattle.wire.specs.Number.{digits, number as number_of}
use Rattle.wire.specs.Utf8.{utf8}
use Rattle.wire.specs.Limit as limit
use Rattle.image.specs.Due.{Lacks}
use Rattle.image.specs.Whole.{Whole, bytes, accepted, refused}
use Rattle.amf0.specs.Reading as reading
use Rattle.amf0.specs.Standard.{Item, Sort, many, Tree, depth, follows, UTF-8, Row, Encodes}
use Rattle.amf0.specs.Standard.Sort.{value, properties, values}

-- ---- a field, and what is wrong with it

pub data Field : Type 0 where
  -- so many bytes, whatever they are
  some : (w : ℕ) → Field
  -- so many bytes of text
  text : (n : ℕ) → Field
  -- these bytes
  fixed : (x : List ℕ) → Field
  -- four bytes that say how much is to be left behind them: so many values of an array, or so many bytes of an entry
  count : Field
  -- the marker of a value, where so many levels are left
  marker : (left : ℕ) → Field

-- the bytes of a field
abbrev pub width : Field → ℕ
width (some w) = w
width (text n) = n
width (fixed x) = length x
width count = 4
width (marker left) = 1

-- the markers that mark no value
pub data Bars : ℕ → Type 0 where
  movie_clip : Bars 0x04
  object_end : Bars 0x09
  record_set : Bars 0x0E

-- A field is due, and r is all that is left of the input from there on: the answer that it refuses the input with.
pub data Refuses : Field → (r : List ℕ) → (answer : ℕ) → Type 0 where
  -- it is not whole
  short : {f : Field} {r : List ℕ} → length r < width f → Refuses f r 2
  -- it is whole, and less is left behind it than it says
  too_few : {r : List ℕ} → 4 ≤ length r → length r < 4 + number_of (take 4 r) → Refuses count r 2
  -- it is whole, and wrong
  not_utf8 : {n : ℕ} {r : List ℕ} → n ≤ length r → utf8 (take n r) ≡ false → Refuses (text n) r 3
  other_bytes : {x r : List ℕ} → length x ≤ length r → take (length x) r ≢ x → Refuses (fixed x) r 3
  no_value : {left m : ℕ} {r : List ℕ} → Bars m → Refuses (marker left) (m ∷ r) 3
  -- it marks a value, and no level is left
  too_deep : {m : ℕ} {r : List ℕ} → (Bars m → ⊥) → Refuses (marker 0) (m ∷ r) 5

-- ---- the fields of a value

-- a text behind its length in w bytes is two fields
pub data InText (w : ℕ) : List ℕ → Field → Type 0 where
  size : InText w [] (some w)
  letters : {n : ℕ} → n < 256 ^ w → InText w (digits w n) (text n)

-- The bytes x are a marker and the first of the fields behind it, and this field is due next.
pub data Own : (x : List ℕ) → Field → Type 0 where
  number : Own (0x00 ∷ []) (some 8)
  boolean : Own (0x01 ∷ []) (some 1)
  string : {x : List ℕ} {f : Field} → InText 2 x f → Own (0x02 ∷ x) f
  reference : Own (0x07 ∷ []) (some 2)
  ecma_array : Own (0x08 ∷ []) (some 4)
  strict_array : Own (0x0A ∷ []) count
  date : Own (0x0B ∷ []) (some 8)
  time_zone : {n : ℕ} → n < 256 ^ 8 → Own (0x0B ∷ digits 8 n) (some 2)
  long_string : {x : List ℕ} {f : Field} → InText 4 x f → Own (0x0C ∷ x) f
  xml_document : {x : List ℕ} {f : Field} → InText 4 x f → Own (0x0F ∷ x) f
  typed_object : {x : List ℕ} {f : Field} → InText 2 x f → Own (0x10 ∷ x) f

-- The bytes x begin a row of a sort, r is all that stands behind them, and this field is due there. `left` is how many levels are left.
pub data Leads (r : List ℕ) : (left : ℕ) → Sort → (x : List ℕ) → Field → Type 0 where
  -- a value: its marker, the fields of its own, and what follows them, one level deeper; an array's count does not exceed the bytes left after it
  marker : {left : ℕ} → Leads r left value [] (Field.marker left)
  own : {left : ℕ} {x : List ℕ} {f : Field} → Own x f → Leads r (suc left) value x f
  inside : {left : ℕ} {i : Item} {x y : List ℕ} {f : Field} → Row i x → many (follows i) ≤ length (y ++ r) → Leads r left (follows i) y f
      → Leads r (suc left) value (x ++ y) f
  -- properties: a name; its value, where no end marker stands behind the name; and the properties behind it
  name : {left : ℕ} {x : List ℕ} {f : Field} → InText 2 x f → Leads r left properties x f
  property : {left : ℕ} {k x y : List ℕ} {f : Field} → UTF-8 k x → ((z : List ℕ) → y ++ r ≢ 0x09 ∷ z) → Leads r left value y f
      → Leads r left properties (x ++ y) f
  next_property : {left : ℕ} {k x : List ℕ} {v : Tree value} {y z : List ℕ} {f : Field} → UTF-8 k x → Encodes value v y → depth v ≤ left
      → Leads r left properties z f → Leads r left properties (x ++ (y ++ z)) f
  -- values in a row: one of them, and those behind it
  first : {left n : ℕ} {x : List ℕ} {f : Field} → Leads r left value x f → Leads r left (values (suc n)) x f
  next : {left n : ℕ} {v : Tree value} {x y : List ℕ} {f : Field} → Encodes value v x → depth v ≤ left → Leads r left (values n) y f
      → Leads r left (values (suc n)) (x ++ y) f

-- Fields that lead on as L says refuse the input s, from the place `at` on, with an answer, and the field that does so is at `place`.
pub record Refused (L : List ℕ → List ℕ → Field → Type 0) (s : List ℕ) (at answer place : ℕ) : Type 0 where
  pub before : List ℕ
  pub rest : List ℕ
  pub field : Field
  pub stands : drop at s ≡ before ++ rest
  pub here : place ≡ at + length before
  pub leads : L rest before field
  pub refuses : Refuses field rest answer

-- an input is refused as a value from the place `at` on, where so many levels are left
abbrev pub RefusedValue : ℕ → List ℕ → ℕ → ℕ → ℕ → Type 0
RefusedValue left s at answer place = Refused (λ r x f. Leads r left value x f) s at answer place

-- ---- the public call

-- the bytes of the records that an input's reading finds
abbrev pub records : List ℕ → List ℕ
records s = bytes (reading.top_value s 0)

-- What the public call comes to in a room, and when: a room too small refuses before any other reason but the limit. A refusal has the place of the field, or of
-- the record, that is its reason.
pub data Comes (s : List ℕ) (room : ℕ) : Whole → Type 0 where
  over_limit : limit.bytes < length s → Comes s room (refused 1 0)
  no_room : {p : ℕ} → length s ≤ limit.bytes → Lacks (reading.top_value s 0) 0 room p → Comes s room (refused 4 p)
  -- a field refuses the input
  not_read : {a p : ℕ} → length s ≤ limit.bytes → length (records s) ≤ room → RefusedValue limit.levels s 0 a p → Comes s room (refused a p)
  -- the input begins with a value
  read : {t : Tree value} {x : List ℕ} (r : List ℕ) → length s ≤ limit.bytes → length (records s) ≤ room → Encodes value t x → depth t ≤ limit.levels
      → s ≡ x ++ r → Comes s room (accepted (length x) (records s))
