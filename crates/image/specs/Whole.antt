-- What a reading in a room comes to: the answer, the counts or the place, and every byte of the image.
use Rattle.std.specs.Prelude.{ℕ, ◌+◌, ◌-◌, List, [], ◌++◌, length, take, replicate, leb, eqb, Result, Ok, Err}
use Rattle.wire.specs.Choice.{pick}
use Rattle.image.specs.declared.reading.Reading.{Reading}
use Rattle.image.specs.Record.{bytes_of, size}
use Rattle.wire.specs.declared.cursor.Cursor.{Cursor}
use Rattle.image.specs.Due.{Due, end, stop, seen, due, Step}

-- the bytes of a reading's records
unfoldable pub bytes : Due → List ℕ
bytes (end n) = []
bytes (stop a p) = []
bytes (seen fact d) = bytes d
bytes (due r p d) = bytes_of r ++ bytes d

-- a result, with the bytes that the image begins with
pub record Whole : Type 0 where
  pub reading : Reading
  pub bytes : List ℕ

abbrev pub accepted : ℕ → List ℕ → Whole
accepted n b = record { reading = record { answer = 0; used = n; made = length b }; bytes = b }

-- a refusal, by what stands at a place: that is returned in place of the bytes used
abbrev pub refused : (answer place : ℕ) → Whole
refused a p = record { reading = record { answer = a; used = p; made = 0 }; bytes = [] }

-- A reading in a room, behind records whose bytes are b: f says what it comes to where it ends, with the bytes of all records then, and g where a field refuses
-- it. The first record that does not fit refuses it with 4, at the place of that record.
unfoldable pub in_room : (room : ℕ) (b : List ℕ) → Due → (f : ℕ → List ℕ → Whole) (g : ℕ → ℕ → Whole) → Whole
in_room room b (end n) f g = f n b
in_room room b (stop a p) f g = g a p
in_room room b (seen fact d) f g = in_room room b d f g
in_room room b (due r p d) f g = pick (leb (length b + size r) room) (in_room room (b ++ bytes_of r) d f g) (refused 4 p)

-- a reading that is all there is
abbrev pub settled : Due → ℕ → Whole
settled d room = in_room room [] d accepted refused

-- the same of an input that has to be used to its end: bytes left over are 3, at the first of them, after everything else
abbrev pub all : List ℕ → Whole → Whole
all s w = pick (eqb w.reading.answer 0) (pick (leb (length s) w.reading.used) w (refused 3 w.reading.used)) w

-- the image: the result's bytes, and zeros to its end
abbrev pub padded : List ℕ → ℕ → List ℕ
padded b room = b ++ replicate (room - length b) 0

-- what the end of a step makes of an image that it left, where f tells what refused the step: an answer's number, and a place
abbrev pub finished_by : {R : Type 0} → (R → ℕ × ℕ) → Result (Cursor × ℕ) R → List ℕ → Whole
finished_by f (Ok x) image = record { reading = record { answer = 0; used = x.0.at; made = x.1 }; bytes = take x.1 image }
finished_by f (Err r) image = refused (f r).0 (f r).1

-- the same of a step of the readers
abbrev pub finished : Step → List ℕ → Whole
finished = finished_by (λ r. (r.answer, r.place))
