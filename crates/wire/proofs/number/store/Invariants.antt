use Rattle.std.specs.Prelude.{◌≡◌}
use Rattle.wire.proofs.Kit.{sets}
use Rattle.wire.specs.Number.{digits}
use Rattle.wire.proofs.number.store.Given as goal

abbrev pub invariant-loop-k : goal.invariant-loop-k
invariant-loop-k l = sets l.initial.out l.at (digits l.w l.n) ≡ sets l.out l.at (digits l.k l.rest)
