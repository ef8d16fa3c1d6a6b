-- Values in spans of an input, whatever holds them: what a span answers by a reader of its bytes alone, and an input with other bytes inside its spans. Demand 3
-- speaks of these.
use Rattle.std.specs.Prelude.{ℕ, ◌+◌, ◌≤◌, ◌<◌, ◌≡◌, ◌≢◌, ◌⊎◌, List, [], ◌∷◌, map, length, get_or, leb, eqb}
use Rattle.wire.specs.Choice.{pick}
use Rattle.wire.specs.Field.{bytes_at}
use Rattle.image.specs.declared.record.Record.{Record}
use Rattle.image.specs.Record.{moved}
use Rattle.image.specs.Due.{Due, based, Ends, Stops}
use Rattle.image.specs.Whole.{Whole, settled, refused}
use Rattle.amf0.specs.Reading.{top_value}
use Rattle.amf0.specs.Shown.{laid}

-- a part of an input
pub record Span : Type 0 where
  pub place : ℕ
  pub length : ℕ

abbrev pub span_at : ℕ → ℕ → Span
span_at p n = record { place = p; length = n }

-- its bytes
abbrev pub held : List ℕ → Span → List ℕ
held s p = bytes_at p.length s p.place

-- ---- what a span answers

-- an answer that refuses a value: 2, 3 or 5
pub data Fault : ℕ → Type 0 where
  short : Fault 2
  malformed : Fault 3
  too_deep : Fault 5

-- a reading of the bytes x that goes no further than they do, and is refused for a fault alone
pub record Sober (x : List ℕ) (d : Due) : Type 0 where
  pub within : (n : ℕ) → Ends d n → n ≤ length x
  pub faults : (a p : ℕ) → Stops d a p → Fault a

-- 2, 3 and unused bytes are damage, at the place of the fault or of the first unused byte; 4 and 5 stand. Places count from the input's start, and the bytes
-- used of a span from its own.
abbrev pub judge : Span → Whole → Whole
judge p w =
    pick (eqb w.reading.answer 0)
    (pick (leb p.length w.reading.used) w (refused 9 (p.place + w.reading.used)))
    (pick (eqb w.reading.answer 2) (refused 9 w.reading.used) (pick (eqb w.reading.answer 3) (refused 9 w.reading.used) w))

-- a reading of a span's bytes alone, its places counted from the input's start
abbrev pub in_span : (List ℕ → Due) → List ℕ → Span → Due
in_span read s p = based p.place (read (held s p))

-- what the span answers by it, in a room
abbrev pub answer_of : (List ℕ → Due) → List ℕ → Span → ℕ → Whole
answer_of read s p room = judge p (settled (in_span read s p) room)

-- a span with one value
abbrev pub one_value : List ℕ → Due
one_value x = top_value x 0

-- image bytes with every place further on: the same records in a row, each moved
pub record Shifted (a : ℕ) (from to : List ℕ) : Type 0 where
  pub records : List Record
  pub before : from ≡ laid records
  pub after : to ≡ laid (map (moved a) records)

-- what a span answers, r, where the reader answers w on its bytes alone, which are x and begin at a place of the input
pub record Judged (place : ℕ) (x : List ℕ) (w r : Whole) : Type 0 where
  -- the reader's answer is one of 0, 2, 3, 4 and 5
  pub known : (w.reading.answer ≤ 5) × (w.reading.answer ≢ 1)
  -- what uses every byte is accepted, with the same counts, and the same image but for the places, which count from the input's start
  pub accepted : w.reading.answer ≡ 0 → w.reading.used ≡ length x → (r.reading ≡ w.reading) × Shifted place w.bytes r.bytes
  -- unused bytes, and what is short or malformed, are damage, at the reader's place, further on in the input; of unused bytes that is the first
  pub unused : w.reading.answer ≡ 0 → w.reading.used ≢ length x → r ≡ refused 9 (place + w.reading.used)
  pub short : w.reading.answer ≡ 2 → r ≡ refused 9 (place + w.reading.used)
  pub malformed : w.reading.answer ≡ 3 → r ≡ refused 9 (place + w.reading.used)
  -- refusals for room and depth stand, at the reader's place, further on in the input
  pub no_room : w.reading.answer ≡ 4 → r ≡ refused 4 (place + w.reading.used)
  pub too_deep : w.reading.answer ≡ 5 → r ≡ refused 5 (place + w.reading.used)

-- ---- a change inside spans

-- the byte at the place i is in none of the spans
abbrev pub Beside : ℕ → List Span → Type 0
Beside i [] = Unit {0}
Beside i (p ∷ ps) = ((i < p.place) ⊎ (p.place + p.length ≤ i)) × Beside i ps

-- t is s with other bytes inside spans of it, and nothing else: it is as long, and the same beside the spans
pub record Changed (ps : List Span) (s t : List ℕ) : Type 0 where
  pub long : length t ≡ length s
  pub same : (i : ℕ) → Beside i ps → get_or t i 0 ≡ get_or s i 0
