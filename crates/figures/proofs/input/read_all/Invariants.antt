-- Each read goes behind what was read, and reads something.
use Rattle.std.proofs.Common.{◌-◌, ◌≤◌, length}
use Rattle.figures.proofs.input.read_all.Given as goal

abbrev pub invariant-loop-done : goal.invariant-loop-done
invariant-loop-done g l = l.done ≤ length l.buffer

abbrev pub decreases-loop-done : goal.decreases-loop-done
decreases-loop-done g l = length l.initial.buffer - l.done
