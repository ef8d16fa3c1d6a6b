use Rattle.index.specs.Find.{past_of, upper_of}
use Rattle.index.specs.Mark.{rows}
use Rattle.std.specs.Prelude.{◌≡◌, ◌+◌, ◌-◌, ◌≤◌}
use Rattle.wire.proofs.Kit.{ℕ}
use Rattle.index.proofs.find.upper.Given as goal

abbrev pub invariant-loop-low : goal.invariant-loop-low
invariant-loop-low l =
    (l.low ≤ l.high) × (l.high ≤ l.n) × (f : ℕ) × (l.high ≤ l.low + f)
    × (upper_of (past_of l.image l.text l.container l.key) (rows l.n l.index) l.n 0 l.n ≡ upper_of (past_of l.image l.text l.container l.key) (rows l.n l.index) f l.low l.high)

abbrev pub decreases-loop-low : goal.decreases-loop-low
decreases-loop-low l = l.high - l.low
