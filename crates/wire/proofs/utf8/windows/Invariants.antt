use Rattle.std.specs.Prelude.{◌-◌}
use Rattle.wire.proofs.Kit.{length}
use Rattle.wire.specs.Code.{Owed}
use Rattle.wire.proofs.utf8.windows.Given as goal

abbrev pub invariant-loop-i : goal.invariant-loop-i
invariant-loop-i l = Owed l.s l.from l.i

abbrev pub decreases-loop-i : goal.decreases-loop-i
decreases-loop-i l = length l.s - l.i
