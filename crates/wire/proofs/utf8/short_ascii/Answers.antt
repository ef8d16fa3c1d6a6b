-- `short_ascii` meets its contract: four bytes at the front and four at the end are all of four to seven.
use Rattle.wire.proofs.Kit.{arith}
use Rattle.wire.proofs.Steps.{both_true, plain_join}
use Rattle.wire.proofs.utf8.short_ascii.Goals as goal

pub returns-then-n-lt8 : goal.returns-then-n-lt8
returns-then-n-lt8 c =
    λ t. let w = both_true _ _ t in
    plain_join _ (c.ascii4.ensures w.0) (c.ascii4-then-n-lt8.ensures w.1) (omega arith) (omega arith)
