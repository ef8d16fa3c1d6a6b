-- Skipping bytes ends: fewer are left with each turn.
use Rattle.replay.proofs.skip.Given as goal

abbrev pub decreases-loop-left : goal.decreases-loop-left
decreases-loop-left g l = l.left
