-- `write_decimal` meets its contract. The loop's invariant: what is to be stored at first is what is to be stored yet, the k digits of `rest`.
use Rattle.std.specs.Prelude.{◌≡◌}
use Rattle.wire.proofs.Kit.{suc, sym, ◌∙◌, arith}
use Rattle.wire.specs.Bytes.{decimal}
use Rattle.wire.proofs.Laws.{laid_room}
use Rattle.wire.proofs.Decimal.{tens_last, places_tens}
use Rattle.wire.proofs.bytes.write_decimal.Goals as goal

pub loop-k-preserved : goal.loop-k-preserved
loop-k-preserved c =
    let l = c.loop-k in
    l.invariant ∙ tens_last l.out c.args.at l.k l.rest c.loop-k-test.true

pub returns-clause-out_after : goal.returns-clause-out_after
returns-clause-out_after c =
    let l = c.loop-k in
    let a = c.args in
    let w = c.decimal_width-w in
    let e : l.k ≡ 0 = omega arith in
    let t = places_tens (suc a.n) a.n in
    sym (laid_room (decimal a.n) a.at (a.out.now) (omega arith) ∙ rw (t, ← w.ensures.0) (l.invariant ∙ rw e))
