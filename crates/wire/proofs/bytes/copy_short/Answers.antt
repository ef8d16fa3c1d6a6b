-- `copy_short` meets its contract. The four bytes at the end meet or overlap the first four.
use Rattle.std.specs.Prelude.{◌-◌}
use Rattle.wire.proofs.Kit.{add-zero, arith, length}
use Rattle.wire.proofs.Copies.{laid_last}
use Rattle.wire.proofs.bytes.copy_short.Goals as goal

pub returns-then-n-lt8 : goal.returns-then-n-lt8
returns-then-n-lt8 c =
    let a = c.args in
    let r = a.row.now in
    rw (c.copy4-then-n-lt8.ensures, c.copy4.ensures, add-zero)
    (laid_last r 4 4 (length r - 4) a.at (a.out.now) (omega arith) (omega arith) (omega arith))
