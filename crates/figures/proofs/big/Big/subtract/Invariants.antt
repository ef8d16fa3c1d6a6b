-- Two words and the carry fit 64 bits; the carry stays below 2.
use Rattle.std.specs.Prelude.{◌<◌}
use Rattle.figures.proofs.big.Big.subtract.Given as goal

abbrev pub invariant-loop-w : goal.invariant-loop-w
invariant-loop-w l =
    (goal.iterator-loop-w).can_next l.w-iterator
    × (goal.iterator-loop-w).is_finite l.w-iterator
    × (l.carry < 2)
