use Rattle.std.specs.Prelude.{◌≤◌}
use Rattle.figures.proofs.big.Big.times.Given as goal

abbrev pub invariant-loop-w : goal.invariant-loop-w
invariant-loop-w l = l.carry ≤ 65536
