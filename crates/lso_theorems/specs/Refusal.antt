-- Why a reading of a file is refused, with no word of a reader: which fields of its header or of an element stand before one that is not whole or not
-- right. What the readings come to in a room, and when.
use Rattle.std.specs.Prelude.{ℕ, ◌^◌, ◌<◌, ◌≤◌, ◌≡◌, List, [], ◌∷◌, ◌++◌, length, take, replicate}
use Rattle.wire.specs.Number.{digits}
use Rattle.wire.specs.Limit as limit
use Rattle.image.specs.Due.{Lacks}
use Rattle.image.specs.Whole.{Whole, bytes, accepted, refused}
use Rattle.amf0.specs.Standard.{Sort, Tree, depth, UTF-8, Encodes}
use Rattle.amf0_theorems.specs.Refusal.{Field, InText, Leads, Refused}
use Rattle.amf0_theorems.specs.Refusal.Field.{some, fixed}
use Rattle.lso.specs.File as file
use Rattle.lso.specs.File.{Body, Lso, File, deepest}
use Rattle.lso.specs.Reading.{ever_due}
use Rattle.lso.specs.Shown.{Shows}

-- ---- the fields of a file

-- The bytes x begin a file's header, and this field is due behind them.
pub data LeadsHeader : (x : List ℕ) → Field → Type 0 where
  version : LeadsHeader [] (fixed file.version)
  stored : LeadsHeader file.version (some 4)
  signature : {n : ℕ} → n < 256 ^ 4 → LeadsHeader (file.version ++ digits 4 n) (fixed file.signature)
  name : {n : ℕ} {x : List ℕ} {f : Field} → n < 256 ^ 4 → InText 2 x f → LeadsHeader (file.version ++ (digits 4 n ++ (file.signature ++ x))) f
  -- three bytes of padding and the version of AMF, each a field
  zero : {n : ℕ} {t x : List ℕ} {k : ℕ} → n < 256 ^ 4 → UTF-8 t x → k < 4
      → LeadsHeader (file.version ++ (digits 4 n ++ (file.signature ++ (x ++ replicate k 0)))) (fixed (0 ∷ []))

-- The bytes x begin an element, r is all that stands behind them, and this field is due there.
pub data LeadsElement (r : List ℕ) : (x : List ℕ) → Field → Type 0 where
  key : {x : List ℕ} {f : Field} → InText 2 x f → LeadsElement r x f
  value : {k x y : List ℕ} {f : Field} → UTF-8 k x → Leads r limit.levels Sort.value y f → LeadsElement r (x ++ y) f
  zero : {k x y : List ℕ} {v : Tree Sort.value} → UTF-8 k x → Encodes Sort.value v y → depth v ≤ limit.levels
      → LeadsElement r (x ++ y) (fixed (0 ∷ []))

-- an input is refused for its header
abbrev pub RefusedHeader : List ℕ → ℕ → ℕ → Type 0
RefusedHeader s answer place = Refused (λ r x f. LeadsHeader x f) s 0 answer place

-- an input is refused as an element from the place `at` on
abbrev pub RefusedElement : List ℕ → ℕ → ℕ → ℕ → Type 0
RefusedElement s at answer place = Refused LeadsElement s at answer place

-- ---- what a reading comes to

-- no further element can be read at n: it is not whole, or not right
pub data Halts (s : List ℕ) (n : ℕ) : Type 0 where
  short : {place : ℕ} → RefusedElement s n 2 place → Halts s n
  wrong : {place : ℕ} → RefusedElement s n 3 place → Halts s n

-- at the front of s, up to n, stands a file whose values are within the levels
pub record Begins (s : List ℕ) (f : Lso) (n : ℕ) : Type 0 where
  pub file : File f (take n s)
  pub within : n ≤ length s
  pub deep : deepest f.body ≤ limit.levels

-- at the front of s, up to n, stands a header: a file of no elements
pub record Heads (s : List ℕ) (n : ℕ) : Type 0 where
  pub stored : ℕ
  pub name : List ℕ
  pub begins : Begins s (record { stored = stored; name = name; body = Body.none }) n

-- a header stands at the front, and all records that ever fall due, those of the element that is dropped too, have room
pub record Roomy (s : List ℕ) (room : ℕ) : Type 0 where
  pub header : ℕ
  pub heads : Heads s header
  pub enough : length (bytes (ever_due s header)) ≤ room

-- given room, the file f stands at the front up to n, and no further element can be read there
pub record Reaches (s : List ℕ) (room : ℕ) (f : Lso) (n : ℕ) : Type 0 where
  pub roomy : Roomy s room
  pub begins : Begins s f n
  pub halts : Halts s n

-- given room, a file stands at the front, and the element behind it has a value that is too deep, whose marker stands at a place
pub record TooDeep (s : List ℕ) (room place : ℕ) : Type 0 where
  pub lso : Lso
  pub used : ℕ
  pub roomy : Roomy s room
  pub begins : Begins s lso used
  pub refused : RefusedElement s used 5 place

-- What the incomplete reading can come to in a room, and when. A refusal has the place of the field, or of the record, that is its reason.
pub data Comes (s : List ℕ) (room : ℕ) : Whole → Type 0 where
  over_limit : limit.bytes < length s → Comes s room (refused 1 0)
  no_header : {a place : ℕ} → length s ≤ limit.bytes → RefusedHeader s a place → Comes s room (refused a place)
  no_room : {p place : ℕ} → length s ≤ limit.bytes → Heads s p → Lacks (ever_due s p) 0 room place → Comes s room (refused 4 place)
  too_deep : {place : ℕ} → length s ≤ limit.bytes → TooDeep s room place → Comes s room (refused 5 place)
  -- the file is used, and the image shows it
  read : {f : Lso} {n : ℕ} {image : List ℕ} → length s ≤ limit.bytes → Reaches s room f n → Shows s f image → Comes s room (accepted n image)

-- What the whole reading can come to: bytes that are left over are 3, at the first of them, after everything else.
pub data ComesWhole (s : List ℕ) (room : ℕ) : Whole → Type 0 where
  not_read : {a place : ℕ} → 1 ≤ a → Comes s room (refused a place) → ComesWhole s room (refused a place)
  left_over : {n : ℕ} {image : List ℕ} → Comes s room (accepted n image) → n < length s → ComesWhole s room (refused 3 n)
  read : {n : ℕ} {image : List ℕ} → Comes s room (accepted n image) → n ≡ length s → ComesWhole s room (accepted n image)

-- ---- beginnings of a file

-- x is a proper beginning of an element whose value is within the levels
pub record PartOfElement (x : List ℕ) : Type 0 where
  pub key : List ℕ
  pub text : List ℕ
  pub tree : Tree Sort.value
  pub row : List ℕ
  pub missing : List ℕ
  pub utf_8 : UTF-8 key text
  pub encodes : Encodes Sort.value tree row
  pub deep : depth tree ≤ limit.levels
  pub same : x ++ missing ≡ text ++ (row ++ (0x00 ∷ []))
  pub some : 1 ≤ length missing

-- the elements of a body are some, and then others
pub data Parts : (first later all : Body) → Type 0 where
  none : {b : Body} → Parts Body.none b b
  element : {k : List ℕ} {v : Tree Sort.value} {a b c : Body} → Parts a b c → Parts (Body.element k v a) b (Body.element k v c)

-- What is whole of a file f in its beginning x is the file g: the header and the first elements, behind which stands a proper beginning of the next.
pub record WholeIn (f g : Lso) (x : List ℕ) : Type 0 where
  pub stored : g.stored ≡ f.stored
  pub name : g.name ≡ f.name
  pub row : List ℕ
  pub part : List ℕ
  pub later : Body
  pub file : File g row
  pub next : PartOfElement part
  pub elements : Parts g.body (Body.element next.key next.tree later) f.body
  pub same : x ≡ row ++ part
