-- `number8_at` meets its contract: two halves.
use Rattle.wire.proofs.Kit.{arith}
use Rattle.wire.proofs.Copies.{number_eight}
use Rattle.wire.proofs.number.number8_at.Goals as goal

pub returns : goal.returns
returns c =
    let a = c.args in
    omega (arith, number_eight (a.s.now) a.at (omega arith))
