-- A reading, with no word of room: the records in the order in which they fall due, each with the place that a refusal for room would name, what is seen
-- besides, and how the reading ends.
use Rattle.std.specs.Prelude.{ℕ, ◌+◌, ◌≤◌, ◌<◌, ◌≡◌, ◌⊎◌, List, length, leb, Result, Ok}
use Rattle.std.proofs.lemmas.List.Edits.{sets}
use Rattle.wire.specs.Answer.{Verdict, denied}
use Rattle.wire.specs.Choice.{pick}
use Rattle.wire.specs.Field.{to}
use Rattle.wire.specs.declared.cursor.Cursor.{Cursor}
use Rattle.image.specs.declared.record.Record.{Record}
use Rattle.image.specs.Record.{bytes_of, size, moved, bytes_in, size_in}
use Rattle.image.specs.declared.record.Layout.{Layout}

-- What a reading sees that no record keeps. There are no places in it: the same bytes are seen alike wherever they stand.
pub data Fact : Type 0 where
  -- a value, with so many levels left below it: its marker and the fields of its own, as they stand
  own : (left : ℕ) (row : List ℕ) → Fact
  -- a key of so many bytes before an end marker, which is dropped
  dropped : (size : ℕ) → Fact

pub data Due : Type 0 where
  -- read up to here
  end : (next : ℕ) → Due
  -- refused, by the field at this place
  stop : (answer place : ℕ) → Due
  -- something is seen, and then the rest
  seen : (fact : Fact) (rest : Due) → Due
  -- a record is due, and then the rest
  due : (r : Record) (place : ℕ) (rest : Due) → Due

-- one reading and then another, from where it ends
infixl 20 ◌>>=◌
abbrev pub ◌>>=◌ : Due → (ℕ → Due) → Due
end n >>= k = k n
stop a p >>= k = stop a p
seen fact d >>= k = seen fact (d >>= k)
due r p d >>= k = due r p (d >>= k)

-- the reading of a part that begins at the place a of a whole: every place, but for where it ends in the part, counts from the whole's start
abbrev pub based : ℕ → Due → Due
based a (end n) = end n
based a (stop w p) = stop w (a + p)
based a (seen fact d) = seen fact (based a d)
based a (due r p d) = due (moved a r) (a + p) (based a d)

-- the same reading further on in an input: every place is moved, also that where it ends
abbrev pub shifted : ℕ → Due → Due
shifted a (end n) = end (a + n)
shifted a (stop w p) = stop w (a + p)
shifted a (seen fact d) = seen fact (shifted a d)
shifted a (due r p d) = due (moved a r) (a + p) (shifted a d)

-- the reading is not refused, and ends at n
abbrev pub Ends : Due → ℕ → Type 0
Ends (end m) n = n ≡ m
Ends (stop a p) n = ⊥
Ends (seen fact d) n = Ends d n
Ends (due r p d) n = Ends d n

-- the reading is refused with the answer a, by the field at p
abbrev pub Stops : Due → ℕ → ℕ → Type 0
Stops (end n) a p = ⊥
Stops (stop b q) a p = (a ≡ b) × (p ≡ q)
Stops (seen fact d) a p = Stops d a p
Stops (due r q d) a p = Stops d a p

-- behind so many bytes, not all records of the reading have room, and the first that has none is due at p
abbrev pub Lacks : Due → (made room place : ℕ) → Type 0
Lacks (end n) made room p = ⊥
Lacks (stop a q) made room p = ⊥
Lacks (seen fact d) made room p = Lacks d made room p
Lacks (due r q d) made room p = ((room < made + size r) × (p ≡ q)) ⊎ ((made + size r ≤ room) × Lacks d (made + size r) room p)

-- what is made of how a reading ends: of where it ended, or of the answer that refused it and the place
abbrev pub on_end : {A : Type 0} → Due → (ℕ → A) → (ℕ → ℕ → A) → A
on_end (end n) f g = f n
on_end (stop a p) f g = g a p
on_end (seen fact d) f g = on_end d f g
on_end (due r p d) f g = on_end d f g

-- how a step of a reading ends
abbrev pub Step : Type 0
Step = Result (Cursor × ℕ) Verdict

-- it goes on at a cursor, with so many bytes made
abbrev pub went_to : Cursor → ℕ → Step
went_to c m = Ok (c, m)

-- how a reading that was carried out went, and the image then
pub record Ran : Type 0 where
  pub step : Step
  pub image : List ℕ

abbrev pub ran : Step → List ℕ → Ran
ran x i = record { step = x; image = i }

-- The reading carried out in a room: each record is laid behind what is made, and the first that does not fit refuses the whole with 4.
unfoldable pub run : Due → ℕ → List ℕ → Ran
run (end n) made image = ran (went_to (to n) made) image
run (stop a p) made image = ran (denied a p) image
run (seen fact d) made image = run d made image
run (due r p d) made image =
    pick (leb (made + size r) (length image))
    (run d (made + size r) (sets image made (bytes_of r)))
    (ran (denied 4 p) image)

-- what lies so is laid behind what is made, or refused at the place p with 4: so one record is carried out, and the reading goes on at n
unfoldable pub put : Layout → ℕ → ℕ → ℕ → List ℕ → Ran
put l p n made image =
    pick (leb (made + size_in l) (length image)) (ran (went_to (to n) (made + size_in l)) (sets image made (bytes_in l))) (ran (denied 4 p) image)

-- a step that goes on does so at a place from `low` to `high`, with no more made than there is room
pub record Within (x : Step) (low high room : ℕ) : Type 0 where
  pub bounds : (c : Cursor) (m : ℕ) → x ≡ went_to c m → (low ≤ c.at) × (c.at ≤ high) × (m ≤ room)
