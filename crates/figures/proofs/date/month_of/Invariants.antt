-- The months before are taken off one by one.
use Rattle.std.specs.Prelude.{◌+◌, ◌≤◌, ◌≡◌}
use Rattle.figures.specs.Calendar.{months_days}
use Rattle.figures.proofs.date.month_of.Given as goal

abbrev pub invariant-loop-left : goal.invariant-loop-left
invariant-loop-left l = (l.day ≡ months_days l.year l.month + l.left) × (l.month + l.left ≤ l.day)

abbrev pub decreases-loop-left : goal.decreases-loop-left
decreases-loop-left l = l.left
