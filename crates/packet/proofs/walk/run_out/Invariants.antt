use Rattle.std.specs.Prelude.{◌≡◌}
use Rattle.packet.specs.Code.{rest_of, left_of}
use Rattle.packet.proofs.walk.run_out.Given as goal

abbrev pub invariant-loop-w : goal.invariant-loop-w
invariant-loop-w l = (rest_of l.s l.initial.w).ending ≡ (rest_of l.s l.w).ending

abbrev pub decreases-loop-w : goal.decreases-loop-w
decreases-loop-w l = left_of l.s l.w
