-- `ascii64` meets its contract. The loop's invariant: if what the bytes are or-ed to is ASCII, so are they all.
use Rattle.std.specs.Prelude.{◌+◌}
use Rattle.wire.proofs.Kit.{arith}
use Rattle.wire.proofs.Steps.{plain_or}
use Rattle.wire.proofs.utf8.ascii64.Goals as goal

pub loop-k-preserved : goal.loop-k-preserved
loop-k-preserved c = plain_or (c.args.i + (c.loop-k.k + 1)) c.loop-k.invariant (omega arith) (omega arith)
