use Rattle.std.specs.Prelude.{◌+◌, ◌<◌}
use Rattle.wire.specs.Code.{Plain}
use Rattle.wire.proofs.utf8.ascii64.Given as goal

abbrev pub invariant-loop-k : goal.invariant-loop-k
invariant-loop-k l = l.all < 0x80 → Plain l.s l.i (l.i + l.k)
