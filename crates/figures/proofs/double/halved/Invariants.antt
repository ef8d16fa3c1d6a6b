use Rattle.std.specs.Prelude.{◌-◌, ◌≡◌}
use Rattle.figures.specs.Double.{halved_of}
use Rattle.figures.proofs.double.halved.Given as goal

abbrev pub invariant-loop-halving : goal.invariant-loop-halving
invariant-loop-halving l = halved_of l.fraction l.halvings ≡ halved_of l.n (l.halvings - l._halving)
