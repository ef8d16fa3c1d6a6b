-- `copy_eights` meets its contract. The loop's invariant: the row's first i bytes are laid.
use Rattle.std.specs.Prelude.{◌-◌}
use Rattle.wire.proofs.Kit.{refl, arith, length, length-sets}
use Rattle.wire.proofs.Copies.{laid_on, laid_last}
use Rattle.wire.proofs.bytes.copy_eights.Goals as goal

pub loop-i-init : goal.loop-i-init
loop-i-init c = (omega arith, refl, refl)

pub loop-i-preserved : goal.loop-i-preserved
loop-i-preserved c =
    let l = c.loop-i in
    let a = c.args in
    let e = c.copy8.ensures in
    let on = laid_on (a.row.now) 8 l.i l.i a.at (a.out.now) (omega arith) (omega arith) (omega arith) in
    (omega arith, rw e (simp length-sets l.invariant.1), rw (e, l.invariant.2) on)

pub shape_of-out : goal.shape_of-out
shape_of-out c = rw c.copy8-2.ensures (simp length-sets c.loop-i.invariant.1)

pub returns : goal.returns
returns c =
    let l = c.loop-i in
    let a = c.args in
    let r = a.row.now in
    rw (c.copy8-2.ensures, l.invariant.2)
    (laid_last r 8 l.i (length r - 8) a.at (a.out.now) (omega arith) (omega arith) (omega arith))
