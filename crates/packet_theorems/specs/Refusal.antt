-- Why a whole reading of a packet and a cut by its lengths are refused, with no word of a reader: which fields stand before one that is not whole or
-- not right. Both go over the same fields round the values, and differ in how they go over a value.
use Rattle.std.specs.Prelude.{ℕ, suc, ◌^◌, ◌≤◌, ◌<◌, ◌≡◌, ◌≢◌, List, [], ◌∷◌, ◌++◌, true, length, take}
use Rattle.wire.specs.Number.{digits, number}
use Rattle.wire.specs.Limit as limit
use Rattle.amf0.specs.Standard.{Sort, UTF-8}
use Rattle.amf0_theorems.specs.Refusal.{Field, InText, Leads, Refused}
use Rattle.amf0_theorems.specs.Refusal.Field.{some, fixed, count}
use Rattle.amf0_theorems.specs.Spans.{Value, LeftOver}
use Rattle.packet.specs.Head.{unknown}
use Rattle.packet.specs.Packet.{Label, Head, IsHeader, IsMessage}
use Rattle.packet_theorems.specs.Cuts.{Says}

-- ---- how the values of a packet are gone over

pub record Way : Type 1 where
  -- the length that an entry declares is this field, where `rest` is all that is left from there on
  pub Size : (rest : List ℕ) → Field → Type 0
  -- these bytes are gone over as the value of an entry that declares that length
  pub Stands : (declared : ℕ) → List ℕ → Type 0
  -- behind a length, the bytes x begin a value, `rest` is all that stands behind them, and this field is due there
  pub Inside : (declared : ℕ) (rest x : List ℕ) → Field → Type 0

-- the whole reading: values of AMF 0, and the declared lengths are not looked at
abbrev pub whole : Way
whole = record { Size = λ r f. f ≡ some 4; Stands = λ d y. Value y; Inside = λ d r x f. Leads r limit.levels Sort.value x f }

-- a length that is looked at is four bytes, whatever they are; and where they say how long the value is, so many bytes are to be left behind them
pub data Sizes (rest : List ℕ) : Field → Type 0 where
  four : Sizes rest (some 4)
  known : 4 ≤ length rest → number (take 4 rest) ≢ unknown → Sizes rest count

-- the cut: as many bytes as are declared, whatever they are; or a value, where the length is not known
abbrev pub cut : Way
cut = record { Size = Sizes; Stands = Says; Inside = λ d r x f. (d ≡ unknown) × Leads r limit.levels Sort.value x f }

-- both of them, where no length is known: values of AMF 0
abbrev pub measuring : Way
measuring = record { Size = whole.Size; Stands = λ d y. (d ≡ unknown) × Value y; Inside = cut.Inside }

-- the fields that the cut comes to round the values: the only ones of four bytes, whatever these are, are lengths
abbrev pub lengths : Way
lengths = record { Size = whole.Size; Stands = cut.Stands; Inside = λ d r x f. ⊥ }

-- ---- entries

-- the fields of an entry's label: a header's name and flag, a message's target and response
pub data LeadsLabel (Kind : Label → Type 0) : List ℕ → Field → Type 0 where
  first : {x : List ℕ} {f : Field} → InText 2 x f → LeadsLabel Kind x f
  flag : {k x : List ℕ} → Kind (Label.header k true) → UTF-8 k x → LeadsLabel Kind x (some 1)
  response : {k x y : List ℕ} {f : Field} → Kind (Label.message k []) → UTF-8 k x → InText 2 y f → LeadsLabel Kind (x ++ y) f

-- n entries of a kind in a row, from the first to the last
pub data Entries (w : Way) (Kind : Label → Type 0) : ℕ → List ℕ → Type 0 where
  none : Entries w Kind 0 []
  more : {n d : ℕ} {l : Label} {x y z : List ℕ} → Kind l → Head l x → d < 256 ^ 4 → w.Stands d y → Entries w Kind n z
      → Entries w Kind (suc n) (x ++ (digits 4 d ++ (y ++ z)))

-- the bytes x begin n entries of a kind, r is all that stands behind them, and this field is due there
pub data LeadsEntries (w : Way) (Kind : Label → Type 0) (r : List ℕ) : ℕ → (x : List ℕ) → Field → Type 0 where
  -- an entry: its label, the length that it declares, and its value
  label : {n : ℕ} {x : List ℕ} {f : Field} → LeadsLabel Kind x f → LeadsEntries w Kind r (suc n) x f
  declared : {n : ℕ} {l : Label} {x : List ℕ} {f : Field} → Kind l → Head l x → w.Size r f → LeadsEntries w Kind r (suc n) x f
  inside : {n d : ℕ} {l : Label} {x y : List ℕ} {f : Field} → Kind l → Head l x → d < 256 ^ 4 → w.Inside d r y f
      → LeadsEntries w Kind r (suc n) (x ++ (digits 4 d ++ y)) f
  -- the entries behind it
  next : {n d : ℕ} {l : Label} {x y z : List ℕ} {f : Field} → Kind l → Head l x → d < 256 ^ 4 → w.Stands d y → LeadsEntries w Kind r n z f
      → LeadsEntries w Kind r (suc n) (x ++ (digits 4 d ++ (y ++ z))) f

-- ---- packets

-- these bytes are gone over as a packet, to the last
pub data IsPacket (w : Way) : List ℕ → Type 0 where
  packet : {h m : ℕ} {x y : List ℕ} → h < 256 ^ 2 → Entries w IsHeader h x → m < 256 ^ 2 → Entries w IsMessage m y
      → IsPacket w (0x00 ∷ 0x00 ∷ digits 2 h ++ (x ++ (digits 2 m ++ y)))

-- the bytes x begin a packet, r is all that stands behind them, and this field is due there
pub data LeadsPacket (w : Way) (r : List ℕ) : (x : List ℕ) → Field → Type 0 where
  zero : LeadsPacket w r [] (fixed (0x00 ∷ []))
  -- another version than 3, which is said apart
  version : ((z : List ℕ) → r ≢ 0x03 ∷ z) → LeadsPacket w r (0x00 ∷ []) (fixed (0x00 ∷ []))
  header_count : LeadsPacket w r (0x00 ∷ 0x00 ∷ []) (some 2)
  headers : {h : ℕ} {x : List ℕ} {f : Field} → h < 256 ^ 2 → LeadsEntries w IsHeader r h x f → LeadsPacket w r (0x00 ∷ 0x00 ∷ digits 2 h ++ x) f
  message_count : {h : ℕ} {x : List ℕ} → h < 256 ^ 2 → Entries w IsHeader h x → LeadsPacket w r (0x00 ∷ 0x00 ∷ digits 2 h ++ x) (some 2)
  messages : {h m : ℕ} {x y : List ℕ} {f : Field} → h < 256 ^ 2 → Entries w IsHeader h x → m < 256 ^ 2 → LeadsEntries w IsMessage r m y f
      → LeadsPacket w r (0x00 ∷ 0x00 ∷ digits 2 h ++ (x ++ (digits 2 m ++ y))) f

-- a packet of version 3
pub data Seven : List ℕ → Type 0 where
  begins : {r : List ℕ} → Seven (0x00 ∷ 0x03 ∷ r)

-- an input is refused as a packet, with an answer, by the field at a place
pub data RefusedPacket (w : Way) (s : List ℕ) : (answer place : ℕ) → Type 0 where
  version_3 : Seven s → RefusedPacket w s 7 1
  field : {a p : ℕ} → Refused (LeadsPacket w) s 0 a p → RefusedPacket w s a p

-- a cut is refused, with an answer, by the field at a place
pub data RefusedCut (s : List ℕ) : (answer place : ℕ) → Type 0 where
  over_limit : limit.bytes < length s → RefusedCut s 1 0
  not_cut : {a p : ℕ} → length s ≤ limit.bytes → RefusedPacket cut s a p → RefusedCut s a p
  left_over : {a p : ℕ} → length s ≤ limit.bytes → LeftOver (IsPacket cut) s a p → RefusedCut s a p

-- ---- lengths that are not known

-- every length that the cut of an input comes to, and that is whole, is not known
pub record NoneKnown (s : List ℕ) : Type 0 where
  pub each : (x r : List ℕ) → s ≡ x ++ r → LeadsPacket lengths r x (some 4) → 4 ≤ length r → number (take 4 r) ≡ unknown

-- an input is measured: no length in it is known, up to the field that refuses it as a packet, or in the packet that it begins with
pub data Measured (s : List ℕ) : Type 0 where
  refused : {a p : ℕ} → RefusedPacket measuring s a p → Measured s
  begins : {x : List ℕ} (r : List ℕ) → s ≡ x ++ r → IsPacket measuring x → Measured s
