-- What is left to halve gives what the whole gives.
use Rattle.wire.proofs.Kit.{◌∙◌}
use Rattle.figures.proofs.Halving.{halved_even}
use Rattle.figures.proofs.double.halved.Goals as goal

pub loop-halving-preserved : goal.loop-halving-preserved
loop-halving-preserved c = c.loop-halving.invariant ∙ halved_even _ _ _ c.loop-halving-test.true c.if-n-eq1.false
