-- Why the write of a packet is refused, and by which record: the rule "Writing checks first" (docs/DEMANDS.md). Records begin a packet, something is due behind
-- them, and what stands there is not it.
use Rattle.std.specs.Prelude.{ℕ, suc, ◌≤◌, List, [], ◌∷◌, ◌++◌, Bool, length}
use Rattle.wire.specs.Limit as limit
use Rattle.image.specs.declared.record.Record.{Record}
use Rattle.image.specs.declared.record.Record.TheVariants as R
use Rattle.image.specs.Out.{Written}
use Rattle.amf0.specs.Standard.{Sort, Tree, depth}
use Rattle.amf0.specs.Written as amf0
use Rattle.amf0.specs.Written.Lead.{keyed}
use Rattle.amf0_theorems.specs.Unwritten as value
use Rattle.amf0_theorems.specs.Unwritten.{Fronts}
use Rattle.packet.specs.Packet.{Label, Item, Packet, IsHeader, IsMessage}
use Rattle.packet.specs.Shown.{Names, counts, Shallow, Within}
use Rattle.packet.specs.Written.{write, Spells, Writable}

-- ---- what is due

-- what is due at a place of an image
pub data Slot : Type 0 where
  -- the packet's own record
  packet : Slot
  -- a header's record
  header : Slot
  -- a message's record
  message : Slot
  -- what is due in the value of an entry
  inside : value.Slot → Slot
  -- the image's end
  nothing : Slot

-- Records that begin so many entries of a kind, but are not all of them, and what is due behind them. A value has all the levels.
pub data Entries (s : List ℕ) (Kind : Label → Type 0) (own : Slot) : (count : ℕ) → List Record → Slot → Type 0 where
  due : {n : ℕ} → Entries s Kind own (suc n) [] own
  -- in the value behind an entry's own record
  entry : {n : ℕ} {l : Label} {r : Record} {rs : List Record} {d : value.Slot} → Kind l → Names s l r → value.Begins s limit.levels keyed Sort.value rs d
      → Entries s Kind own (suc n) (r ∷ rs) (Slot.inside d)
  -- behind a whole entry
  more : {n : ℕ} {l : Label} {r : Record} {v : Tree Sort.value} {rs qs : List Record} {d : Slot} → Kind l → Names s l r → amf0.Spells s keyed Sort.value v rs
      → depth v ≤ limit.levels → Entries s Kind own n qs d → Entries s Kind own (suc n) (r ∷ (rs ++ qs)) d

-- the same from the start of an image on
pub data Opens (s : List ℕ) : List Record → Slot → Type 0 where
  packet : Opens s [] Slot.packet
  -- in the headers
  headers : {h m : ℕ} {rs : List Record} {d : Slot} → Entries s IsHeader Slot.header h rs d → Opens s (R.Packet h m ∷ rs) d
  -- in the messages, behind all headers
  messages : {hs : List Item} {m : ℕ} {rs qs : List Record} {d : Slot} → Spells s IsHeader hs rs → Shallow limit.levels hs
      → Entries s IsMessage Slot.message m qs d → Opens s (R.Packet (length hs) m ∷ (rs ++ qs)) d
  -- behind a whole packet
  behind : {p : Packet} {rs qs : List Record} → Spells s IsHeader p.headers rs → Spells s IsMessage p.messages qs → Within limit.levels p
      → Opens s (counts p ∷ (rs ++ qs)) Slot.nothing

-- ---- what stands there

-- bytes that begin with no record of a packet that is whole
pub record NoPacket (s x : List ℕ) : Type 0 where
  pub none : (h m : ℕ) → Fronts s (R.Packet h m) x → ⊥

-- bytes that begin with no record of an entry of a kind, whole and right, with its texts inside the given one and UTF-8
pub record NoEntry (s : List ℕ) (Kind : Label → Type 0) (x : List ℕ) : Type 0 where
  pub none : (r : Record) (l : Label) → Fronts s r x → Kind l → Names s l r → ⊥

-- Bytes that are refused where something is due, and the answer.
pub data Refuses (s : List ℕ) : Slot → (rest : List ℕ) → (answer : ℕ) → Type 0 where
  packet : {x : List ℕ} → NoPacket s x → Refuses s Slot.packet x 6
  header : {x : List ℕ} → NoEntry s IsHeader x → Refuses s Slot.header x 6
  message : {x : List ℕ} → NoEntry s IsMessage x → Refuses s Slot.message x 6
  inside : {d : value.Slot} {x : List ℕ} {a : ℕ} → value.Refuses s d x a → Refuses s (Slot.inside d) x a
  past : {b : ℕ} {x : List ℕ} → Refuses s Slot.nothing (b ∷ x) 6

-- the image is refused as that of a packet
abbrev pub Refused : List ℕ → List ℕ → ℕ → ℕ → Type 0
Refused image text = value.RefusedBy (Opens text) (Refuses text) image text

-- what the public call can come to in a room, and when
abbrev pub Outcome : List ℕ → List ℕ → Bool → ℕ → Written → Type 0
Outcome image text exact = value.OutcomeOf (Writable image text) (write exact) (Refused image text) image text
