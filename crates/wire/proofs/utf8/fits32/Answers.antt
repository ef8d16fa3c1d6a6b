-- `fits32` meets its contract. The loop's invariant: if all is well so far, what was left to check at first is what is left behind the k-th byte.
use Rattle.std.specs.Prelude.{◌+◌, ◌≡◌}
use Rattle.wire.proofs.Kit.{arith}
use Rattle.wire.proofs.Steps.{both_true, owed_on}
use Rattle.wire.proofs.utf8.fits32.Goals as goal

pub loop-k-preserved : goal.loop-k-preserved
loop-k-preserved c =
    λ t. let w = both_true _ _ t in
    owed_on (c.args.i + (c.loop-k.k + 1)) (c.loop-k.invariant w.0) (omega arith) (c.fits-ok.ensures w.1) (omega arith)

pub returns : goal.returns
returns c =
    let e : c.loop-k.k ≡ 32 = omega arith in
    rw e at c.loop-k.invariant
