-- `characters` meets its contract. The loop's invariant: whole characters stand up to i.
use Rattle.wire.proofs.Kit.{sym, arith}
use Rattle.wire.proofs.Steps.{run_end}
use Rattle.wire.proofs.utf8.characters.Goals as goal

pub returns : goal.returns
returns c = sym (run_end c.loop-i.invariant (omega arith))
