use Rattle.std.specs.Prelude.{◌≡◌}
use Rattle.wire.proofs.Kit.{sets}
use Rattle.wire.proofs.Decimal.{tens}
use Rattle.wire.proofs.bytes.write_decimal.Given as goal

abbrev pub invariant-loop-k : goal.invariant-loop-k
invariant-loop-k l = sets l.initial.out l.at (tens l.w l.n) ≡ sets l.out l.at (tens l.k l.rest)
