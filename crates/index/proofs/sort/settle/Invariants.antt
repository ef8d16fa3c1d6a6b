use Rattle.index.specs.Code.{Mixed}
use Rattle.std.specs.Prelude.{◌*◌, ◌≤◌, ◌<◌}
use Rattle.wire.proofs.Kit.{length, ℕ}
use Rattle.index.proofs.sort.settle.Given as goal

abbrev pub invariant-loop-at : goal.invariant-loop-at
invariant-loop-at l = (l.at < l.n) × ((m : ℕ) → l.n ≤ m → 13 * m ≤ length l.initial.index → Mixed m l.initial.index l.index)

abbrev pub decreases-loop-at : goal.decreases-loop-at
decreases-loop-at l = l.at
