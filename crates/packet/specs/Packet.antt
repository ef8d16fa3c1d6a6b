-- The packet, as the Rust has it: which rows of bytes are a packet, with its values as AMF 0 has them, and the length that each entry declares.
use Rattle.std.specs.Prelude.{ℕ, ◌^◌, ◌≤◌, ◌<◌, List, [], ◌∷◌, ◌++◌, Bool, true, false, length}
use Rattle.wire.specs.Number.{digits}
use Rattle.amf0.specs.Standard.{Sort, Tree, UTF-8, Encodes}

-- an entry's fields of its own
pub data Label : Type 0 where
  header : (name : List ℕ) (must_understand : Bool) → Label
  message : (target response : List ℕ) → Label

-- an entry: its label, the length that it declares, and its value
pub record Item : Type 0 where
  pub label : Label
  pub declared : ℕ
  pub value : Tree Sort.value

pub record Packet : Type 0 where
  pub headers : List Item
  pub messages : List Item

pub data Head : Label → List ℕ → Type 0 where
  header_false : {name x : List ℕ} → UTF-8 name x → Head (Label.header name false) (x ++ (0 ∷ []))
  header_true : {name x : List ℕ} → UTF-8 name x → Head (Label.header name true) (x ++ (1 ∷ []))
  -- 0 is false and every other byte true
  header_above : {name x : List ℕ} (b : ℕ) → 2 ≤ b → b < 256 → UTF-8 name x → Head (Label.header name true) (x ++ (b ∷ []))
  message : {target response x y : List ℕ} → UTF-8 target x → UTF-8 response y → Head (Label.message target response) (x ++ y)

abbrev pub IsHeader : Label → Type 0
IsHeader (header n b) = Unit {0}
IsHeader (message t r) = ⊥

abbrev pub IsMessage : Label → Type 0
IsMessage (header n b) = ⊥
IsMessage (message t r) = Unit {0}

-- entries in a row, all of one kind
pub data Items (Kind : Label → Type 0) : List Item → List ℕ → Type 0 where
  none : Items Kind [] []
  more : {l : Label} {d : ℕ} {v : Tree Sort.value} {is : List Item} {x y z : List ℕ} → Kind l → Head l x → d < 256 ^ 4 → Encodes Sort.value v y
      → Items Kind is z → Items Kind (record { label = l; declared = d; value = v } ∷ is) (x ++ (digits 4 d ++ (y ++ z)))

pub data Encoded : Packet → List ℕ → Type 0 where
  packet : {hs ms : List Item} {x y : List ℕ} → length hs < 256 ^ 2 → length ms < 256 ^ 2 → Items IsHeader hs x → Items IsMessage ms y
      → Encoded (record { headers = hs; messages = ms }) (0x00 ∷ 0x00 ∷ digits 2 (length hs) ++ (x ++ (digits 2 (length ms) ++ y)))
