-- The forms in which the demands are said of calls. A reader's call stands as a relation of the input, the image lent to it, the result and the image left; a
-- writer's as one of the image, its text, the output lent to it, the result and the output left.
use Rattle.std.specs.Prelude.{ℕ, ◌+◌, ◌-◌, ◌*◌, ◌≤◌, ◌<◌, ◌≡◌, ◌≢◌, ◌⊎◌, List, [], ◌∷◌, ◌++◌, length, take, drop, replicate, ◌↔◌}
use Rattle.wire.specs.Number.{Bytes}
use Rattle.wire.specs.Limit as limit
use Rattle.image.specs.declared.building.Laying.{Laying}
use Rattle.image.specs.declared.reading.Reading.{Reading}
use Rattle.image.specs.declared.record.Record.{Record}
use Rattle.image.specs.declared.writing.Writing.{Writing}
use Rattle.image.specs.Whole.{Whole}
use Rattle.image.specs.Out.{Written}
use Rattle.image.specs.Record.{size}
use Rattle.image.specs.Building.{Tells}
use Rattle.packet.specs.declared.head.Entry.{Entry}
use Rattle.packet.specs.declared.entry.Cutting.{Cutting}
use Rattle.packet.specs.Entry.{Listed}
use Rattle.demands.specs.Before.{unplaced}

-- a reader's call
abbrev pub Reader : Type 1
Reader = List ℕ → List ℕ → Reading → List ℕ → Type 0

-- a writer's call
abbrev pub Writer : Type 1
Writer = List ℕ → List ℕ → List ℕ → Writing → List ℕ → Type 0

-- a call that cuts a packet, as one of the packet, the list lent to it, the result and the list left
abbrev pub Cutter : Type 0 → Type 1
Cutter A = List ℕ → List A → Cutting → List A → Type 0

-- what a reading returned, with the image bytes that it made
abbrev pub made : Reading → List ℕ → Whole
made r left = record { reading = r; bytes = take r.made left }

-- the bytes that a writing put out
abbrev pub sent : Writing → List ℕ → List ℕ
sent w left = take w.count left

-- what a writing returned, with those bytes
abbrev pub put : Writing → List ℕ → Written
put w left = record { writing = w; bytes = sent w left }

-- what a cut returned, with the entries that it left
abbrev pub listed : Cutting → List Entry → Listed
listed c left = record { cutting = c; entries = take c.count left }

-- ---- demand 1

-- one of these numbers
abbrev pub OneOf : ℕ → List ℕ → ℕ → Type 0
OneOf x [] a = a ≡ x
OneOf x (y ∷ l) a = (a ≡ x) ⊎ OneOf y l a

-- every answer of a reader is one of those,
abbrev pub Answers : (ℕ → Type 0) → Reader → Type 0
Answers P Call = (s i : List ℕ) (r : Reading) (x : List ℕ) → Call s i r x → P r.answer

-- of a writer,
abbrev pub WriteAnswers : (ℕ → Type 0) → Writer → Type 0
WriteAnswers P Call = (i t o : List ℕ) (w : Writing) (y : List ℕ) → Call i t o w y → P w.answer

-- of a cut
abbrev pub CutAnswers : {A : Type 0} → (ℕ → Type 0) → Cutter A → Type 0
CutAnswers {A} P Call = (s : List ℕ) (list : List A) (c : Cutting) (left : List A) → Call s list c left → P c.answer

-- every outcome of a reader is one of those that can come, each with what holds there;
abbrev pub Reasons : (List ℕ → ℕ → Whole → Type 0) → Reader → Type 0
Reasons Comes Call = (s i : List ℕ) (r : Reading) (x : List ℕ) → Bytes s → Call s i r x → Comes s (length i) (made r x)

-- so is a writer's
abbrev pub WriteReasons : (List ℕ → List ℕ → ℕ → Written → Type 0) → Writer → Type 0
WriteReasons Comes Call = (i t o : List ℕ) (w : Writing) (y : List ℕ) → Bytes i → Call i t o w y → Comes i t (length o) (put w y)

-- 1 is given just where the input is over the limit
abbrev pub OverLimit : Reader → Type 0
OverLimit Call = (s i : List ℕ) (r : Reading) (x : List ℕ) → Call s i r x → r.answer ≡ 1 ↔ limit.bytes < length s

-- within the limit, an answer is given just where something holds of the input and the room;
abbrev pub Just : ℕ → (List ℕ → ℕ → Type 0) → Reader → Type 0
Just a Why Call = (s i : List ℕ) (r : Reading) (x : List ℕ) → Bytes s → length s ≤ limit.bytes → Call s i r x → r.answer ≡ a ↔ Why s (length i)

-- and it is given at a place just where something holds of that too,
abbrev pub JustAt : ℕ → (List ℕ → (room place : ℕ) → Type 0) → Reader → Type 0
JustAt a Why Call =
    (s i : List ℕ) (r : Reading) (x : List ℕ) (p : ℕ) → Bytes s → length s ≤ limit.bytes → Call s i r x → (r.answer ≡ a) × (r.used ≡ p) ↔ Why s (length i) p

-- or of the input and the place alone, where the call is not refused for room
abbrev pub JustAtInRoom : ℕ → (List ℕ → (place : ℕ) → Type 0) → Reader → Type 0
JustAtInRoom a Why Call =
    (s i : List ℕ) (r : Reading) (x : List ℕ) (p : ℕ) → Bytes s → length s ≤ limit.bytes → Call s i r x → r.answer ≢ 4
    → (r.answer ≡ a) × (r.used ≡ p) ↔ Why s p

-- the bytes used, or the place of a refusal, are inside the input
abbrev pub Inside : Reader → Type 0
Inside Call = (s i : List ℕ) (r : Reading) (x : List ℕ) → Bytes s → Call s i r x → r.used ≤ length s

-- or inside the packet that is cut
abbrev pub CutInside : {A : Type 0} → Cutter A → Type 0
CutInside {A} Call = (s : List ℕ) (list : List A) (c : Cutting) (left : List A) → Bytes s → Call s list c left → c.used ≤ length s

-- room for three times the input is enough
abbrev pub Roomy : Reader → Type 0
Roomy Call = (s i : List ℕ) (r : Reading) (x : List ℕ) → Call s i r x → 3 * length s ≤ length i → r.answer ≢ 4

-- within the limit, a proper beginning of something is refused with 2;
abbrev pub Short : (List ℕ → Type 0) → Reader → Type 0
Short Is Call = (s q i : List ℕ) (r : Reading) (x : List ℕ) → Is (s ++ q) → 1 ≤ length q → length s ≤ limit.bytes → Call s i r x → r.answer ≡ 2

-- or it is, where the call is not refused for room
abbrev pub ShortInRoom : (List ℕ → Type 0) → Reader → Type 0
ShortInRoom Is Call =
    (s q i : List ℕ) (r : Reading) (x : List ℕ) → Is (s ++ q) → 1 ≤ length q → length s ≤ limit.bytes → Call s i r x → r.answer ≢ 4 → r.answer ≡ 2

-- a cut gives an answer just where something holds of the packet;
abbrev pub CutJust : {A : Type 0} → ℕ → (List ℕ → Type 0) → Cutter A → Type 0
CutJust {A} a Why Call = (s : List ℕ) (list : List A) (c : Cutting) (left : List A) → Bytes s → Call s list c left → c.answer ≡ a ↔ Why s

-- at a place just where something holds of that too;
abbrev pub CutJustAt : {A : Type 0} → ℕ → (List ℕ → (place : ℕ) → Type 0) → Cutter A → Type 0
CutJustAt {A} a Why Call =
    (s : List ℕ) (list : List A) (c : Cutting) (left : List A) (p : ℕ) → Bytes s → Call s list c left → (c.answer ≡ a) × (c.used ≡ p) ↔ Why s p

-- and refuses a proper beginning of something with 2
abbrev pub CutShort : {A : Type 0} → (List ℕ → Type 0) → Cutter A → Type 0
CutShort {A} Is Call =
    (s q : List ℕ) (list : List A) (c : Cutting) (left : List A) → Is (s ++ q) → 1 ≤ length q → length s ≤ limit.bytes → Call s list c left → c.answer ≡ 2

-- within the limits, 5 and 6 are given just where a record of the image is refused so, at a place
abbrev pub WriteJust : (List ℕ → List ℕ → ℕ → ℕ → Type 0) → Writer → Type 0
WriteJust Refused Call =
    (a : ℕ) (i t o : List ℕ) (w : Writing) (y : List ℕ) → (a ≡ 5) ⊎ (a ≡ 6) → Bytes i → length t ≤ limit.bytes → length i ≤ limit.image → Call i t o w y
    → w.answer ≡ a ↔ (p : ℕ) × Refused i t a p

-- what a refused reading returns beside the place, and leaves: no image bytes, and an image of zeros
pub record Nothing (image : List ℕ) (r : Reading) (left : List ℕ) : Type 0 where
  pub made : r.made ≡ 0
  pub zeros : left ≡ replicate (length image) 0

-- a refused call of a reader does
abbrev pub Zeros : Reader → Type 0
Zeros Call = (s i : List ℕ) (r : Reading) (x : List ℕ) → Call s i r x → r.answer ≢ 0 → Nothing i r x

-- the image is zero past the image bytes
abbrev pub Past : Reader → Type 0
Past Call = (s i : List ℕ) (r : Reading) (x : List ℕ) → Call s i r x → drop r.made x ≡ replicate (length i - r.made) 0

-- what a refused cut returns beside the place, and leaves: no entries, and zeros alone
pub record Uncut {A : Type 0} (zero : A) (list : List A) (c : Cutting) (left : List A) : Type 0 where
  pub count : c.count ≡ 0
  pub zeros : left ≡ replicate (length list) zero

-- a refused call of a cut does
abbrev pub CutZeros : {A : Type 0} → A → Cutter A → Type 0
CutZeros {A} zero Call = (s : List ℕ) (list : List A) (c : Cutting) (left : List A) → Call s list c left → c.answer ≢ 0 → Uncut zero list c left

-- what a refused writing returns and leaves: 0, and the output as it was found
pub record Untouched (out : List ℕ) (w : Writing) (left : List ℕ) : Type 0 where
  pub count : w.count ≡ 0
  pub same : left ≡ out

-- a refused call of a writer does
abbrev pub Untouching : Writer → Type 0
Untouching Call = (i t o : List ℕ) (w : Writing) (y : List ℕ) → Call i t o w y → w.answer ≢ 0 → Untouched o w y

-- which bytes an accepted writing changes: as many as it counts, at the front of the output, and no other
pub record Behind (out : List ℕ) (w : Writing) (left : List ℕ) : Type 0 where
  pub fits : w.count ≤ length out
  pub long : length left ≡ length out
  pub same : drop w.count left ≡ drop w.count out

-- an accepted call of a writer does
abbrev pub Keeping : Writer → Type 0
Keeping Call = (i t o : List ℕ) (w : Writing) (y : List ℕ) → Call i t o w y → w.answer ≡ 0 → Behind o w y

-- all of this of one reader,
pub record ReaderRules (P : ℕ → Type 0) (Comes : List ℕ → ℕ → Whole → Type 0) (Call : Reader) : Type 0 where
  pub answers : Answers P Call
  pub reasons : Reasons Comes Call
  pub inside : Inside Call
  pub zeros : Zeros Call
  pub past : Past Call

-- and of one writer
pub record WriterRules (P : ℕ → Type 0) (Comes : List ℕ → List ℕ → ℕ → Written → Type 0) (Call : Writer) : Type 0 where
  pub answers : WriteAnswers P Call
  pub reasons : WriteReasons Comes Call
  pub untouched : Untouching Call
  pub kept : Keeping Call

-- ---- demand 2

-- what is accepted means something
abbrev pub Sound : (List ℕ → Whole → Type 0) → Reader → Type 0
Sound Means Call = (s i : List ℕ) (r : Reading) (x : List ℕ) → Bytes s → Call s i r x → r.answer ≡ 0 → Means s (made r x)

-- within the limit, and where the room is three times the input, just that is accepted
abbrev pub Exactly : (List ℕ → Type 0) → Reader → Type 0
Exactly Is Call = (s i : List ℕ) (r : Reading) (x : List ℕ) → Bytes s → length s ≤ limit.bytes → 3 * length s ≤ length i → Call s i r x → r.answer ≡ 0 ↔ Is s

-- just the images of something that has room are written
abbrev pub Writes : (List ℕ → List ℕ → ℕ → Type 0) → Writer → Type 0
Writes Has Call = (i t o : List ℕ) (w : Writing) (y : List ℕ) → Bytes i → Call i t o w y → w.answer ≡ 0 ↔ Has i t (length o)

-- more room changes nothing: two calls on an input, of which the one with less room is not refused for room
abbrev pub Wider : Reader → Type 0
Wider Call =
    (s i j x y : List ℕ) (r q : Reading) → Call s i r x → Call s j q y → length i ≤ length j → r.answer ≢ 4 → made q y ≡ made r x

-- What was read is written, where the output has as much room as the bytes used, in no more bytes.
abbrev pub Rewritten : Reader → Writer → Type 0
Rewritten Read Write = (s i o x y : List ℕ) (r : Reading) (w : Writing) → Bytes s → Read s i r x → r.answer ≡ 0 → Write (take r.made x) s o w y
    → r.used ≤ length o → (w.answer ≡ 0) × (w.count ≤ r.used)

-- What room is given to read back: `first` is that of the first reading, `back` that of the second, `count` is how many bytes were put out, and `answer` is the
-- second's.
abbrev pub Room : Type 1
Room = (first back count answer : ℕ) → Type 0

-- three times the bytes that were put out
abbrev pub Enough : Room
Enough first back count answer = 3 * count ≤ back

-- any that is not refused for room
abbrev pub Unrefused : Room
Unrefused first back count answer = answer ≢ 4

-- that of the first reading
abbrev pub SameRoom : Room
SameRoom first back count answer = back ≡ first

-- What was read and then written reads back, given room: what came first and what comes back make a round trip.
abbrev pub Trips : Room → Reader → Writer → Reader → (List ℕ → List ℕ → Whole → Whole → Type 0) → Type 0
Trips Given Read Write Back Trip = (s i o j x y z : List ℕ) (r q : Reading) (w : Writing) → Bytes s → Read s i r x → r.answer ≡ 0
    → Write (take r.made x) s o w y → w.answer ≡ 0 → Back (sent w y) j q z → Given (length i) (length j) w.count q.answer
    → Trip s (sent w y) (made r x) (made q z)

-- an accepted write, which put out b
pub record Sent (b : List ℕ) (w : Writing) (left : List ℕ) : Type 0 where
  pub answer : w.answer ≡ 0
  pub count : w.count ≡ length b
  pub same : sent w left ≡ b

-- To read that and write it once more changes nothing more.
abbrev pub Again : Room → Reader → Writer → Reader → Type 0
Again Given Read Write Back = (s i o j k x y z u : List ℕ) (r q : Reading) (w v : Writing) → Bytes s → Read s i r x → r.answer ≡ 0
    → Write (take r.made x) s o w y → w.answer ≡ 0 → Back (sent w y) j q z → Given (length i) (length j) w.count q.answer
    → Write (take q.made z) (sent w y) k v u → w.count ≤ length k → Sent (sent w y) v u

-- All of this of what one reader reads, a writer writes, and a reader reads back: it is written, in no more bytes; it reads back where the room is three times
-- what was written, in any room that is not refused for room, and in that of the first reading; and to write it once more changes nothing more.
pub record Returns (Read : Reader) (Write : Writer) (Back : Reader) (Trip : List ℕ → List ℕ → Whole → Whole → Type 0) : Type 0 where
  pub rewritten : Rewritten Read Write
  pub enough : Trips Enough Read Write Back Trip
  pub any_room : Trips Unrefused Read Write Back Trip
  pub same_room : Trips SameRoom Read Write Back Trip
  pub again : Again Unrefused Read Write Back

-- but for the place of a refusal, what a call comes to is as it was before a refusal had one
abbrev pub AsBefore : (List ℕ → ℕ → Whole) → Reader → Type 0
AsBefore of Call = (s i : List ℕ) (r : Reading) (x : List ℕ) → Call s i r x → unplaced (made r x) ≡ of s (length i)

-- ---- demand 3

-- where its list is not too short, a cut accepts just what Is says
abbrev pub CutExactly : {A : Type 0} → (List ℕ → Type 0) → Cutter A → Type 0
CutExactly {A} Is Call =
    (s : List ℕ) (list : List A) (c : Cutting) (left : List A) → Bytes s → Call s list c left → c.answer ≢ 4 → c.answer ≡ 0 ↔ Is s

-- two readings in the same room return and leave the same
abbrev pub Same : (List ℕ → Reading → List ℕ → Type 0) → (List ℕ → Reading → List ℕ → Type 0) → Type 0
Same Before After = (i j x y : List ℕ) (r q : Reading) → Before i r x → After j q y → length j ≡ length i → (q ≡ r) × (y ≡ x)

-- ---- a record by its numbers

-- a call that lays a record, as one of the image, what is made of it, the numbers, the result and the image left
abbrev pub Putter : Type 1
Putter = List ℕ → ℕ → List ℕ → Laying → List ℕ → Type 0

-- a call that takes one, as one of the image, the place, the answer, the numbers and the place behind it
abbrev pub Taker : Type 1
Taker = List ℕ → ℕ → ℕ → List ℕ → ℕ → Type 0

pub record PutRules (Put : Putter) (Take : Taker) : Type 0 where
  -- The answers: 6 just where the numbers tell no record, 4 just where they tell one that has no room, and else 0.
  pub answers : (i : List ℕ) (m : ℕ) (fs : List ℕ) (r : Laying) (x : List ℕ) → Put i m fs r x → OneOf 0 (4 ∷ 6 ∷ []) r.answer
  pub untold : (i : List ℕ) (m : ℕ) (fs : List ℕ) (r : Laying) (x : List ℕ) → Put i m fs r x → r.answer ≡ 6 ↔ ((t : Record) → Tells fs t → ⊥)
  pub tight : (i : List ℕ) (m : ℕ) (fs : List ℕ) (r : Laying) (x : List ℕ) → Put i m fs r x
      → r.answer ≡ 4 ↔ ((t : Record) × Tells fs t × (length i < m + size t))
  -- One that is refused changes neither the image nor what is made,
  pub untouched : (i : List ℕ) (m : ℕ) (fs : List ℕ) (r : Laying) (x : List ℕ) → Put i m fs r x → r.answer ≢ 0 → (r.made ≡ m) × (x ≡ i)
  -- and none changes a byte before what was made or behind what is made.
  pub kept : (i : List ℕ) (m : ℕ) (fs : List ℕ) (r : Laying) (x : List ℕ) → Put i m fs r x
      → (take m x ≡ take m i) × (drop r.made x ≡ drop r.made i) × (length x ≡ length i)
  -- What was laid is taken where it was laid, up to what is made.
  pub taken : (i : List ℕ) (m : ℕ) (fs : List ℕ) (r : Laying) (x : List ℕ) → Put i m fs r x → r.answer ≡ 0
      → (a : ℕ) (gs : List ℕ) (n : ℕ) → Take x m a gs n → (a ≡ 0) × (gs ≡ fs) × (n ≡ r.made)
  -- What was taken, laid where it was taken, leaves the image, and what is made is the place behind it.
  pub again : (i : List ℕ) → Bytes i → (m : ℕ) (fs : List ℕ) (n : ℕ) → Take i m 0 fs n
      → (r : Laying) (x : List ℕ) → Put i m fs r x → (r.answer ≡ 0) × (r.made ≡ n) × (x ≡ i)
