-- `copy4` meets its contract: the bytes that are stored are those of the row.
use Rattle.wire.proofs.Kit.{towards_suc, arith}
use Rattle.wire.proofs.Copies.{bytes_loads}
use Rattle.wire.proofs.bytes.copy4.Goals as goal

pub returns : goal.returns
returns c =
    let a = c.args in
    rw (c.store4.ensures, bytes_loads (a.row.now) 4 a.i (omega arith)) (simp towards_suc)
