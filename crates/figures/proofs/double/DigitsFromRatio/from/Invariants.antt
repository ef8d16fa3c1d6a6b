-- Each turn finds a digit or a zero before the first; there are at most so many of both.
use Rattle.std.specs.Prelude.{◌+◌, ◌-◌, ◌≤◌}
use Rattle.figures.proofs.double.DigitsFromRatio.from.Given as goal

abbrev pub invariant-loop-count : goal.invariant-loop-count
invariant-loop-count l = (l.count ≤ 17) × (l.zeros ≤ 400)

abbrev pub decreases-loop-count : goal.decreases-loop-count
decreases-loop-count l = 17 - l.count + (400 - l.zeros)
