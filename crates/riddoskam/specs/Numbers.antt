-- What a call returns by value in Rattle, as the numbers that go out to C.
use Rattle.std.specs.Prelude.{ℕ, List, Bool, true, false, replicate, Ok, Err, Some, None, Option}
use Rattle.image.specs.Record.{layout_of}
use Rattle.image.specs.Building.{numbers_in}
use Rattle.packet.specs.Row.{entry_numbers}
use Rattle.image.specs.Taking.{Taken}
use Rattle.packet.specs.Entry.{Found}

-- ---- an entry

abbrev pub found_answer : Found → ℕ
found_answer (Ok e) = 0
found_answer (Err r) = r.answer

abbrev pub found_numbers : Found → List ℕ
found_numbers (Ok e) = entry_numbers e
found_numbers (Err r) = replicate 8 0

-- ---- a record

abbrev pub taken_answer : Taken → ℕ
taken_answer (Some x) = 0
taken_answer None = 6

abbrev pub taken_numbers : Taken → List ℕ
taken_numbers (Some x) = numbers_in (layout_of x.0)
taken_numbers None = replicate 5 0

abbrev pub taken_next : Taken → ℕ
taken_next (Some x) = x.1.at
taken_next None = 0

-- ---- a way down

abbrev pub way_found : (Option ℕ) → Bool
way_found (Some p) = true
way_found None = false

abbrev pub way_place : (Option ℕ) → ℕ
way_place (Some p) = p
way_place None = 0
