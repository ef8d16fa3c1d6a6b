-- `store4` meets its contract: the four stores are a run.
use Rattle.wire.proofs.Kit.{towards_suc, arith, length-set}
use Rattle.wire.proofs.bytes.store4.Goals as goal

pub bounds-out-to-2 : goal.bounds-out-to-2
bounds-out-to-2 c = simp length-set (omega arith)

pub bounds-out-to-3 : goal.bounds-out-to-3
bounds-out-to-3 c = simp length-set (omega arith)

pub bounds-out-to-4 : goal.bounds-out-to-4
bounds-out-to-4 c = simp length-set (omega arith)

pub returns : goal.returns
returns c = simp towards_suc
