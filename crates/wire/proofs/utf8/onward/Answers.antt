-- `onward` meets its contract: nothing is due behind the two bytes before the place, and what is due behind them all is settled.
use Rattle.wire.proofs.Kit.{arith}
use Rattle.wire.proofs.Steps.{onward_paid}
use Rattle.wire.proofs.utf8.onward.Goals as goal

pub returns : goal.returns
returns c = onward_paid _ c.args.j _ (omega arith) c.if-s-j-ge192.false c.if-s-j-ge224.false c.windows.ensures c.settle.ensures
