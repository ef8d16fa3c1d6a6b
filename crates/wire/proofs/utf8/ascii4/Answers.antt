-- `ascii4` meets its contract: no byte is above what they are or-ed together.
use Rattle.wire.proofs.Kit.{arith, ltb-true}
use Rattle.wire.proofs.Steps.{plain_ored}
use Rattle.wire.proofs.utf8.ascii4.Goals as goal

pub returns : goal.returns
returns c = λ t. plain_ored _ c.args.i 3 _ (omega arith) (omega arith) (ltb-true _ _ t)
