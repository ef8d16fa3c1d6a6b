-- `measured` meets its contract: the value is read where it stands, and it is as long as from there to its end.
use Rattle.std.specs.Prelude.{◌-◌, ◌≡◌, Ok, Err}
use Rattle.std.proofs.lemmas.Result.{err_from_is_err_and}
use Rattle.wire.proofs.Kit.{ℕ, refl}
use Rattle.wire.specs.Answer.{denied}
use Rattle.wire.specs.Field.{to, got_to}
use Rattle.image.specs.Due.{Due, end, stop, seen, due, on_end}
use Rattle.amf0.specs.Reading.{value_in}
use Rattle.amf0.specs.Survey.{Ended, end_of}
use Rattle.packet.specs.declared.head.Entry.{Entry}
use Rattle.packet.specs.Head.{Head}
use Rattle.packet.specs.Entry.{measured}
use Rattle.packet.proofs.walk.measured.Goals as goal

-- an entry by how the reading of its value ended
abbrev by : Entry → ℕ → Ended → Head
by e v (Ok c) = got_to (measured e (c.at - v)) c
by e v (Err r) = Err r

ended : (e : Entry) (v : ℕ) (d : Due) → on_end d (λ n. got_to (measured e (n - v)) (to n)) denied ≡ by e v (end_of d)
ended e v (end n) = refl
ended e v (stop a p) = refl
ended e v (seen fact d) = ended e v d
ended e v (due r p d) = ended e v d

pub returns-in_err-d : goal.returns-in_err-d
returns-in_err-d c =
    let a = c.args in
    let p = err_from_is_err_and c.from_residual.result c.from_residual.ensures.1 in
    rw (p.1, p.2, ended a.e a.c.at (value_in 0 a.s.now a.c.at), ← c.in_err-d.ensures.value)

pub returns : goal.returns
returns c =
    let a = c.args in
    rw (ended a.e a.c.at (value_in 0 a.s.now a.c.at), ← c.in_ok-d.ensures.value)
