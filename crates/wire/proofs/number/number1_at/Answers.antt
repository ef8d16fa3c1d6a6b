-- `number1_at` meets its contract: a byte is below 256.
use Rattle.wire.proofs.Kit.{refl, arith}
use Rattle.wire.proofs.number.number1_at.Goals as goal

pub overflow_cast-result : goal.overflow_cast-result
overflow_cast-result c = omega (arith, c.type_inv.s c.args.at)

pub returns : goal.returns
returns c = (refl, omega (arith, c.type_inv.s c.args.at))
