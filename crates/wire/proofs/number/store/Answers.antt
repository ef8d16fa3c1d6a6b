-- `store` meets its contract. The loop's invariant: what is to be stored at first is what is to be stored yet, the k bytes of `rest`.
use Rattle.wire.proofs.Kit.{◌∙◌}
use Rattle.wire.proofs.Laws.{sets_last}
use Rattle.wire.proofs.number.store.Goals as goal

pub loop-k-preserved : goal.loop-k-preserved
loop-k-preserved c =
    let l = c.loop-k in
    l.invariant ∙ sets_last l.out c.args.at l.k l.rest c.loop-k-test.true
