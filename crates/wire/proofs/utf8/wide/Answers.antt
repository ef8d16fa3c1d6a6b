-- `wide` meets its contract. The loop's invariant: whole characters stand up to i.
use Rattle.wire.proofs.Kit.{arith}
use Rattle.wire.proofs.Steps.{run_on, plain_run}
use Rattle.wire.proofs.utf8.wide.Goals as goal

pub loop-i-preserved : goal.loop-i-preserved
loop-i-preserved c = run_on c.loop-i.invariant (plain_run (c.ascii64.ensures c.if-ascii64.true) (omega arith))
