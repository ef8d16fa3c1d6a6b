use Rattle.std.specs.Prelude.{◌-◌, ◌≤◌}
use Rattle.wire.proofs.Kit.{length}
use Rattle.wire.specs.Code.{Plain}
use Rattle.wire.proofs.utf8.eights.Given as goal

abbrev pub invariant-loop-i : goal.invariant-loop-i
invariant-loop-i l = (8 ≤ l.i) × Plain l.s 0 (l.i - 8)

abbrev pub decreases-loop-i : goal.decreases-loop-i
decreases-loop-i l = length l.s - l.i
