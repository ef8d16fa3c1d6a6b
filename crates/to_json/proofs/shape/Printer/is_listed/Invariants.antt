-- A mark less each turn.
use Rattle.std.proofs.Common.{length}
use Rattle.to_json.proofs.shape.Printer.is_listed.Given as goal

abbrev pub decreases-loop-mark : goal.decreases-loop-mark
decreases-loop-mark g l = length l.index
