-- `copy_tiny` meets its contract. Each byte stands behind those before it, or is stored over the last of them.
use Rattle.std.specs.Prelude.{◌+◌, ◌-◌, ◌/◌}
use Rattle.wire.proofs.Kit.{add-zero, arith, length, length-set, take_all}
use Rattle.wire.proofs.Copies.{laid_last, byte_on}
use Rattle.wire.proofs.bytes.copy_tiny.Goals as goal

pub returns-then-n-eq0 : goal.returns-then-n-eq0
returns-then-n-eq0 c =
    let a = c.args in
    laid_last (a.row.now) 0 0 0 a.at (a.out.now) (omega arith) (omega arith) (omega arith)

pub bounds-out-at-2 : goal.bounds-out-at-2
bounds-out-at-2 c = simp length-set (omega arith)

pub bounds-out-at-3 : goal.bounds-out-at-3
bounds-out-at-3 c = simp length-set (omega arith)

pub returns : goal.returns
returns c =
    let a = c.args in
    let r = a.row.now in
    let n = length r in
    let first = byte_on r 0 0 a.at (a.out.now) (omega arith) (omega arith) (omega arith) in
    let middle = byte_on r 1 (n / 2) a.at (a.out.now) (omega arith) (omega arith) (omega arith) in
    let last = byte_on r (n / 2 + 1) (n - 1) a.at (a.out.now) (omega arith) (omega arith) (omega arith) in
    rw (rw add-zero at first, middle, last, take_all (n - 1 + 1) r (omega arith))
