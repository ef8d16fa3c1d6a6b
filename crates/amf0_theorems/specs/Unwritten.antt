-- Why a write is refused, and by which record: the rule "Writing checks first" (docs/DEMANDS.md). Records begin a tree, something is due behind them, and what
-- stands there is not it. `left` is how many levels are left.
use Rattle.std.specs.Prelude.{ℕ, suc, ◌+◌, ◌≤◌, ◌<◌, ◌≡◌, List, [], ◌∷◌, ◌++◌, true, length}
use Rattle.wire.specs.Limit as limit
use Rattle.image.specs.declared.record.Record.{Record}
use Rattle.image.specs.Record.{bytes_of}
use Rattle.image.specs.Taking.{Fits}
use Rattle.image.specs.Out.{Out, end, stop, put, Written, written, unwritten}
use Rattle.amf0.specs.Standard.{Item, Sort, Tree, depth, follows}
use Rattle.amf0.specs.Shown.{Word, look, laid, Named, Right}
use Rattle.amf0.specs.Writing.{kinds, among}
use Rattle.amf0.specs.Written.{write, Lead, lead, Spells, Writable}
use Rattle.amf0.specs.Written.Lead.{keyed, keyless}

-- the writing is refused, with an answer, at a place of the image
abbrev pub Stops : Out → ℕ → ℕ → Type 0
Stops (end n) a p = ⊥
Stops (stop b q) a p = (a ≡ b) × (p ≡ q)
Stops (put b d) a p = Stops d a p

-- ---- what is due

-- what is due at a place of an image
pub data Slot : Type 0 where
  -- a value's record, where so many levels are left
  value : (left : ℕ) → Slot
  -- a key's record, or the end's
  pair : Slot
  -- in an 08, before its first key: a value's record, where so many levels are left, a key's, or the end's
  either : (left : ℕ) → Slot
  -- the image's end
  nothing : Slot

-- Records that begin a tree within the levels that are left, but are not all of it, and what is due behind them.
pub data Begins (s : List ℕ) : (left : ℕ) → Lead → Sort → List Record → Slot → Type 0 where
  value : {left : ℕ} → Begins s left keyed Sort.value [] (Slot.value left)
  -- in what follows a value's own record
  node : {left : ℕ} {r : Record} {i : Item} {rs : List Record} {d : Slot} → look s r ≡ Word.item i → Begins s left (lead i) (follows i) rs d
      → Begins s (suc left) keyed Sort.value (r ∷ rs) d
  pair : {left : ℕ} → Begins s left keyed Sort.properties [] Slot.pair
  -- in the value behind a key
  key : {left : ℕ} {r : Record} {k : List ℕ} {rs : List Record} {d : Slot} → look s r ≡ Word.name k → Begins s left keyed Sort.value rs d
      → Begins s left keyed Sort.properties (r ∷ rs) d
  -- behind a whole property
  property : {left : ℕ} {r : Record} {k : List ℕ} {v : Tree Sort.value} {rs qs : List Record} {d : Slot} → look s r ≡ Word.name k
      → Spells s keyed Sort.value v rs → depth v ≤ left → Begins s left keyed Sort.properties qs d
      → Begins s left keyed Sort.properties (r ∷ (rs ++ qs)) d
  -- in the first of so many values
  first : {left n : ℕ} {rs : List Record} {d : Slot} → Begins s left keyed Sort.value rs d → Begins s left keyed (Sort.values (suc n)) rs d
  -- behind the first of so many values
  cons : {left n : ℕ} {v : Tree Sort.value} {rs qs : List Record} {d : Slot} → Spells s keyed Sort.value v rs → depth v ≤ left
      → Begins s left keyed (Sort.values n) qs d → Begins s left keyed (Sort.values (suc n)) (rs ++ qs) d
  either : {left n : ℕ} → Begins s left (keyless n) Sort.properties [] (Slot.either left)
  -- in a value without a key
  lone : {left n : ℕ} {r : Record} {rs : List Record} {d : Slot} → Begins s left keyed Sort.value (r ∷ rs) d
      → Begins s left (keyless n) Sort.properties (r ∷ rs) d
  -- behind a value without a key
  dense : {left n : ℕ} {v : Tree Sort.value} {rs qs : List Record} {d : Slot} → Spells s keyed Sort.value v rs → depth v ≤ left
      → Begins s left (keyless (n + 1)) Sort.properties qs d → Begins s left (keyless n) Sort.properties (rs ++ qs) d
  -- behind the first key
  pairs : {left n : ℕ} {r : Record} {rs : List Record} {d : Slot} → Begins s left keyed Sort.properties (r ∷ rs) d
      → Begins s left (keyless n) Sort.properties (r ∷ rs) d

-- the same from the start of an image on
pub data Opens (s : List ℕ) : List Record → Slot → Type 0 where
  inside : {rs : List Record} {d : Slot} → Begins s limit.levels keyed Sort.value rs d → Opens s rs d
  -- behind a whole tree
  behind : {t : Tree Sort.value} {rs : List Record} → Spells s keyed Sort.value t rs → depth t ≤ limit.levels → Opens s rs Slot.nothing

-- ---- what stands there

-- bytes that begin with a record, whole and right, with its text inside the given one and UTF-8
pub record Fronts (s : List ℕ) (r : Record) (x : List ℕ) : Type 0 where
  pub rest : List ℕ
  pub same : x ≡ bytes_of r ++ rest
  pub fits : Fits r
  pub named : Named s r

-- bytes that begin with no such record of a value
pub record NoValue (s x : List ℕ) : Type 0 where
  pub none : (r : Record) (i : Item) → Fronts s r x → look s r ≡ Word.item i → ⊥

-- bytes that begin with no such record of a key, nor of the end of pairs
pub record NoPair (s x : List ℕ) : Type 0 where
  pub no_key : (r : Record) (k : List ℕ) → Fronts s r x → look s r ≡ Word.name k → ⊥
  pub no_end : (r : Record) → Fronts s r x → look s r ≡ Word.close → ⊥

-- bytes that begin with the kind of a value
pub data Valued : List ℕ → Type 0 where
  valued : {k : ℕ} {x : List ℕ} → among kinds k ≡ true → Valued (k ∷ x)

-- Bytes that are refused where something is due, and the answer.
pub data Refuses (s : List ℕ) : Slot → (rest : List ℕ) → (answer : ℕ) → Type 0 where
  -- a value's kind where no level is left, whatever its body
  deep : {x : List ℕ} → Valued x → Refuses s (Slot.value 0) x 5
  -- another kind there, or none
  kind : {x : List ℕ} → (Valued x → ⊥) → Refuses s (Slot.value 0) x 6
  value : {left : ℕ} {x : List ℕ} → NoValue s x → Refuses s (Slot.value (suc left)) x 6
  pair : {x : List ℕ} → NoPair s x → Refuses s Slot.pair x 6
  -- in an 08, where a value's kind makes it a value's place
  either_value : {left : ℕ} {x : List ℕ} {a : ℕ} → Valued x → Refuses s (Slot.value left) x a → Refuses s (Slot.either left) x a
  -- and any other that of a key or the end
  either_pair : {left : ℕ} {x : List ℕ} {a : ℕ} → (Valued x → ⊥) → Refuses s Slot.pair x a → Refuses s (Slot.either left) x a
  past : {b : ℕ} {x : List ℕ} → Refuses s Slot.nothing (b ∷ x) 6

-- The image is refused by what stands at a place: the records before it are right and begin what is asked for, and what is due behind them is not there.
pub record RefusedBy {S : Type 0} (Opens : List Record → S → Type 0) (Refuses : S → List ℕ → ℕ → Type 0) (image text : List ℕ) (answer place : ℕ) : Type 0 where
  pub records : List Record
  pub rest : List ℕ
  pub slot : S
  pub lies : image ≡ laid records ++ rest
  pub stands : place ≡ length (laid records)
  pub right : Right text records
  pub opens : Opens records slot
  pub refuses : Refuses slot rest answer

-- it is refused as that of a value
abbrev pub Refused : List ℕ → List ℕ → ℕ → ℕ → Type 0
Refused image text = RefusedBy (Opens text) (Refuses text) image text

-- ---- the call

-- What a public call can come to in a room, and when: an image can hold something of the kind that is asked for, which is put out as so many bytes.
pub data OutcomeOf {A : Type 0} (Holds : A → Type 0) (put : A → List ℕ) (Refused : (answer place : ℕ) → Type 0) (image text : List ℕ) (room : ℕ) : Written → Type 0 where
  text_over : limit.bytes < length text → OutcomeOf Holds put Refused image text room (unwritten 1)
  image_over : limit.image < length image → OutcomeOf Holds put Refused image text room (unwritten 1)
  -- at a place stands what is not due there, or it is not right
  wrong : {place : ℕ} → length text ≤ limit.bytes → length image ≤ limit.image → Refused 6 place → OutcomeOf Holds put Refused image text room (unwritten 6)
  -- at a place stands a value where no level is left
  too_deep : {place : ℕ} → length text ≤ limit.bytes → length image ≤ limit.image → Refused 5 place → OutcomeOf Holds put Refused image text room (unwritten 5)
  output_over : {x : A} → Holds x → limit.bytes < length (put x) → OutcomeOf Holds put Refused image text room (unwritten 1)
  no_room : {x : A} → Holds x → length (put x) ≤ limit.bytes → room < length (put x) → OutcomeOf Holds put Refused image text room (unwritten 4)
  put_out : {x : A} → Holds x → length (put x) ≤ limit.bytes → length (put x) ≤ room → OutcomeOf Holds put Refused image text room (written (put x))

-- of the writing of a value
abbrev pub Outcome : List ℕ → List ℕ → ℕ → Written → Type 0
Outcome image text = OutcomeOf {A = Tree Sort.value} (Writable image text) (λ t. write t) (Refused image text) image text
