use Rattle.std.specs.Prelude.{◌-◌}
use Rattle.wire.proofs.Kit.{length}
use Rattle.wire.specs.Code.{Run}
use Rattle.wire.proofs.utf8.blocks.Given as goal

abbrev pub invariant-loop-i : goal.invariant-loop-i
invariant-loop-i l = Run l.s l.from l.i

abbrev pub decreases-loop-i : goal.decreases-loop-i
decreases-loop-i l = length l.s - l.i
