use Rattle.std.specs.Prelude.{◌-◌, ◌≤◌, ◌≡◌}
use Rattle.wire.proofs.Kit.{length, take, sets}
use Rattle.wire.proofs.bytes.copy_eights.Given as goal

abbrev pub invariant-loop-i : goal.invariant-loop-i
invariant-loop-i l = (l.i ≤ length l.row) × (length l.out ≡ length l.initial.out) × (l.out ≡ sets l.initial.out l.at (take l.i l.row))

abbrev pub decreases-loop-i : goal.decreases-loop-i
decreases-loop-i l = length l.row - l.i
