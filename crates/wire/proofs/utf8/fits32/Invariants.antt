use Rattle.std.specs.Prelude.{◌+◌, ◌≡◌}
use Rattle.wire.proofs.Kit.{true}
use Rattle.wire.specs.Code.{Owed}
use Rattle.wire.proofs.utf8.fits32.Given as goal

abbrev pub invariant-loop-k : goal.invariant-loop-k
invariant-loop-k l = l.ok ≡ true → Owed l.s l.i (l.i + l.k)
