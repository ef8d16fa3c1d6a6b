-- `singles` meets its contract. The loop's invariant: whole characters stand up to i.
use Rattle.wire.proofs.Kit.{refl}
use Rattle.wire.proofs.Steps.{run_on, run_one}
use Rattle.wire.proofs.utf8.singles.Goals as goal

pub loop-i-preserved : goal.loop-i-preserved
loop-i-preserved c = run_on c.loop-i.invariant (run_one _ _ _ c.loop-i-test.true c.if-s-i-ge128.false refl)
