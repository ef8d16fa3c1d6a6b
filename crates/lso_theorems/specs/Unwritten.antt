-- Why the write of a file is refused, and by which record: the rule "Writing checks first" (docs/DEMANDS.md). Records begin a file, something is due behind
-- them, and what stands there is not it.
use Rattle.std.specs.Prelude.{ℕ, ◌≤◌, List, [], ◌∷◌, ◌++◌}
use Rattle.wire.specs.Limit as limit
use Rattle.image.specs.declared.record.Record.{Record}
use Rattle.image.specs.declared.record.Record.TheVariants as R
use Rattle.image.specs.Out.{Written}
use Rattle.amf0.specs.Standard.{Sort, Tree, depth}
use Rattle.amf0.specs.Shown.{Stands}
use Rattle.amf0.specs.Written as amf0
use Rattle.amf0.specs.Written.Lead.{keyed}
use Rattle.amf0_theorems.specs.Unwritten as value
use Rattle.amf0_theorems.specs.Unwritten.{Fronts}
use Rattle.lso.specs.Written.{write, Writable}

-- ---- what is due

-- what is due at a place of an image
pub data Slot : Type 0 where
  -- the file's own record
  file : Slot
  -- a key's record, or the image's end
  element : Slot
  -- what is due in the value behind a key
  inside : value.Slot → Slot

-- Records that begin a file's elements, and what is due behind them. A value has all the levels.
pub data Elements (s : List ℕ) : List Record → Slot → Type 0 where
  due : Elements s [] Slot.element
  -- in the value behind a key
  key : {p n : ℕ} {rs : List Record} {d : value.Slot} → value.Begins s limit.levels keyed Sort.value rs d → Elements s (R.Key p n ∷ rs) (Slot.inside d)
  -- behind a whole element
  element : {p n : ℕ} {v : Tree Sort.value} {rs qs : List Record} {d : Slot} → amf0.Spells s keyed Sort.value v rs → depth v ≤ limit.levels
      → Elements s qs d → Elements s (R.Key p n ∷ (rs ++ qs)) d

-- the same from the start of an image on
pub data Opens (s : List ℕ) : List Record → Slot → Type 0 where
  file : Opens s [] Slot.file
  -- behind the file's own record, whose name stands in the text
  behind : {stored p n : ℕ} {rs : List Record} {d : Slot} → Stands s p n → Elements s rs d → Opens s (R.Lso stored p n ∷ rs) d

-- ---- what stands there

-- bytes that begin with no record of a file, whole and right, with its name inside the text and UTF-8
pub record NoFile (s x : List ℕ) : Type 0 where
  pub none : (stored p n : ℕ) → Fronts s (R.Lso stored p n) x → ⊥

-- bytes that begin with no such record of a key
pub record NoKey (s x : List ℕ) : Type 0 where
  pub none : (p n : ℕ) → Fronts s (R.Key p n) x → ⊥

-- Bytes that are refused where something is due, and the answer.
pub data Refuses (s : List ℕ) : Slot → (rest : List ℕ) → (answer : ℕ) → Type 0 where
  file : {x : List ℕ} → NoFile s x → Refuses s Slot.file x 6
  element : {b : ℕ} {x : List ℕ} → NoKey s (b ∷ x) → Refuses s Slot.element (b ∷ x) 6
  inside : {d : value.Slot} {x : List ℕ} {a : ℕ} → value.Refuses s d x a → Refuses s (Slot.inside d) x a

-- the image is refused as that of a file
abbrev pub Refused : List ℕ → List ℕ → ℕ → ℕ → Type 0
Refused image text = value.RefusedBy (Opens text) (Refuses text) image text

-- what the public call can come to in a room, and when
abbrev pub Outcome : List ℕ → List ℕ → ℕ → Written → Type 0
Outcome image text = value.OutcomeOf (Writable image text) write (Refused image text) image text
