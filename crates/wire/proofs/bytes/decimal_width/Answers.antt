-- `decimal_width` meets its contract. The loop's invariant: one digit less than `w` and the digits of the number that `rest` is the tenth of are those of `n`.
use Rattle.std.specs.Prelude.{◌-◌}
use Rattle.wire.proofs.Kit.{refl, arith, le_refl}
use Rattle.wire.proofs.Decimal.{one_place, more_places, some_place, ten_at_most}
use Rattle.std.proofs.Common.{rules}
use Rattle.wire.proofs.bytes.decimal_width.Goals as goal

pub loop-rest-init : goal.loop-rest-init
loop-rest-init c =
    let n = c.args.n in
    (n, n, le_refl n, refl, omega arith)

pub overflow_add-w : goal.overflow_add-w
overflow_add-w c =
    let i = c.loop-rest.invariant in
    omega (arith, some_place i.0 i.1, ten_at_most c.args.n c.ranges.n.fits)

pub loop-rest-smaller : goal.loop-rest-smaller
loop-rest-smaller c = search rules

pub loop-rest-preserved : goal.loop-rest-preserved
loop-rest-preserved c =
    let l = c.loop-rest in
    let i = c.loop-rest.invariant in
    let p = more_places i.0 i.1 l.rest i.3 (omega arith) i.2 in
    (i.0 - 1, l.rest, omega arith, refl, omega arith)

pub returns : goal.returns
returns c =
    let i = c.loop-rest.invariant in
    let p = one_place i.0 i.1 (omega arith) in
    omega (arith, ten_at_most c.args.n c.ranges.n.fits)
