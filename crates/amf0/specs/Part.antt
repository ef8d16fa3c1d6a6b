-- Reading in a part of an input.
use Rattle.std.specs.Prelude.{ℕ, ◌+◌, Result, Ok, Err}
use Rattle.wire.specs.Answer.{Verdict, denied}

-- what was read in a part that begins at the place b of a whole: a place counts from the whole's start
abbrev pub of_whole : {A : Type 0} → ℕ → Result A Verdict → Result A Verdict
of_whole b (Ok x) = Ok x
of_whole b (Err r) = denied r.answer (b + r.place)
