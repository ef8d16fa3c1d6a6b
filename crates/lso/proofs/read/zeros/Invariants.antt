use Rattle.std.specs.Prelude.{◌≡◌, ◌-◌}
use Rattle.lso.specs.Reading.{zeros_at}
use Rattle.lso.proofs.read.zeros.Given as goal

abbrev pub invariant-loop : goal.invariant-loop
invariant-loop l = zeros_at l.n l.s l.initial.c.at ≡ zeros_at (l.n - l.counter) l.s l.c.at
