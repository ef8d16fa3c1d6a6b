-- `number4_at` meets its contract: the sum is the number of the bytes that were loaded.
use Rattle.wire.proofs.Kit.{arith}
use Rattle.wire.proofs.Copies.{number_four}
use Rattle.wire.proofs.number.number4_at.Goals as goal

pub returns : goal.returns
returns c =
    let a = c.args in
    (omega (arith, number_four (a.s.now) a.at (omega arith)), omega arith)
