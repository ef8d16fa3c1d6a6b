-- Which rows of bytes a packet's lengths cut exactly, with no word of a walk: the grammar of a packet, whatever stands in its values of a known length.
use Rattle.std.specs.Prelude.{ℕ, ◌+◌, ◌^◌, ◌≤◌, ◌<◌, ◌≡◌, List, [], ◌∷◌, ◌++◌, length}
use Rattle.wire.specs.Number.{digits}
use Rattle.wire.specs.Limit as limit
use Rattle.image.specs.Record.{bit_of}
use Rattle.amf0.specs.Standard.{Sort, Tree, Encodes}
use Rattle.amf0_theorems.specs.Spans.{Value}
use Rattle.packet.specs.declared.head.Entry.{Entry}
use Rattle.packet.specs.Head.{unknown, entry}
use Rattle.packet.specs.Packet.{Label, Head, IsHeader, IsMessage}
use Rattle.packet.specs.Written.{Parts}

-- an entry: its label, and the bytes of its value, whatever they are
pub record Slice : Type 0 where
  pub label : Label
  pub value : List ℕ

-- what a length says of the bytes behind it: that they are so many, whatever they are; or that this is not known, and then they are a value that is not too deep
pub data Says : ℕ → List ℕ → Type 0 where
  known : {y : List ℕ} → length y < unknown → Says (length y) y
  measured : {y : List ℕ} → Value y → Says unknown y

-- entries in a row, all of one kind, each value behind its length
pub data Slices (Kind : Label → Type 0) : List Slice → List ℕ → Type 0 where
  none : Slices Kind [] []
  more : {l : Label} {d : ℕ} {is : List Slice} {x y z : List ℕ} → Kind l → Head l x → Says d y → Slices Kind is z
      → Slices Kind (record { label = l; value = y } ∷ is) (x ++ (digits 4 d ++ (y ++ z)))

-- a packet that its lengths cut exactly, into these headers and messages
pub data Cuts : List Slice → List Slice → List ℕ → Type 0 where
  packet : {hs ms : List Slice} {x y : List ℕ} → length hs < 256 ^ 2 → length ms < 256 ^ 2 → Slices IsHeader hs x → Slices IsMessage ms y
      → Cuts hs ms (0x00 ∷ 0x00 ∷ digits 2 (length hs) ++ (x ++ (digits 2 (length ms) ++ y)))

-- the entry with a label that begins at a place, and a value of some length: where its texts and its value stand
abbrev pub entry_of : ℕ → Label → ℕ → Entry
entry_of at (Label.header t f) d = entry 0x31 (bit_of f) (at + 2) (length t) 0 0 (at + 2 + length t + 1 + 4) d
entry_of at (Label.message t o) d = entry 0x32 0 (at + 2) (length t) (at + 2 + length t + 2) (length o) (at + 2 + length t + 2 + length o + 4) d

-- the place behind an entry
abbrev pub behind : Entry → ℕ
behind e = e.place + e.length

-- the entries of slices in a row, the first of which begins at a place
abbrev pub entries_from : ℕ → List Slice → List Entry
entries_from at [] = []
entries_from at (i ∷ is) = entry_of at i.label (length i.value) ∷ entries_from (behind (entry_of at i.label (length i.value))) is

-- the place behind the last of them
abbrev pub end_from : ℕ → List Slice → ℕ
end_from at [] = at
end_from at (i ∷ is) = end_from (behind (entry_of at i.label (length i.value))) is

-- the entries of a packet: its headers stand behind four bytes, its messages two bytes behind the headers
abbrev pub entries_of : List Slice → List Slice → List Entry
entries_of hs ms = entries_from 4 hs ++ entries_from (end_from 4 hs + 2) ms

-- entries of s are those of slices, one by one: their labels and the bytes of their values
abbrev pub Each : List ℕ → List Slice → List Entry → Type 0
Each s [] [] = Unit {0}
Each s [] (e ∷ es) = ⊥
Each s (i ∷ is) [] = ⊥
Each s (i ∷ is) (e ∷ es) = Parts s i.label i.value e × Each s is es

-- a packet within the limit, which its lengths cut exactly, into these entries: each stands where its bytes do
pub record CutInto (s : List ℕ) (es : List Entry) : Type 0 where
  pub headers : List Slice
  pub messages : List Slice
  pub small : length s ≤ limit.bytes
  pub cuts : Cuts headers messages s
  pub entries : es ≡ entries_of headers messages
  pub each : Each s (headers ++ messages) es

-- the bytes of each value encode a value
abbrev pub Valued : List Slice → Type 0
Valued [] = Unit {0}
Valued (i ∷ is) = ((t : Tree Sort.value) × Encodes Sort.value t i.value) × Valued is

-- a packet whose lengths are exact, or not known: they cut it exactly, and what they cut encodes values
pub record Exact (s : List ℕ) : Type 0 where
  pub headers : List Slice
  pub messages : List Slice
  pub cuts : Cuts headers messages s
  pub header_values : Valued headers
  pub message_values : Valued messages
