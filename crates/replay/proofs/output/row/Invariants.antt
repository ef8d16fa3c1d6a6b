-- Printing a row stays within its text.
use Rattle.std.proofs.Common.{◌≤◌}
use Rattle.replay.proofs.output.row.Given as goal

abbrev pub invariant-loop-b : goal.invariant-loop-b
invariant-loop-b g l = l.used ≤ 8192
