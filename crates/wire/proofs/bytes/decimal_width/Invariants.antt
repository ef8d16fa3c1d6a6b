use Rattle.std.specs.Prelude.{◌+◌, ◌/◌, ◌≤◌, ◌≡◌}
use Rattle.wire.proofs.Kit.{ℕ, suc, length}
use Rattle.wire.specs.Bytes.{places, decimal}
use Rattle.wire.proofs.bytes.decimal_width.Given as goal

abbrev pub invariant-loop-rest : goal.invariant-loop-rest
invariant-loop-rest l = (f : ℕ) × (m : ℕ) × (m ≤ f) × (l.rest ≡ m / 10) × (length (decimal l.n) + 1 ≡ l.w + length (places (suc f) m))

abbrev pub decreases-loop-rest : goal.decreases-loop-rest
decreases-loop-rest l = l.rest
