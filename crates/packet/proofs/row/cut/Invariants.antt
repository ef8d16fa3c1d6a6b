use Rattle.std.specs.Prelude.{◌-◌, ◌≤◌}
use Rattle.packet.specs.Entry.{cut_of}
use Rattle.packet.specs.Code.{rest_of}
use Rattle.packet.proofs.Rows.{Rowed}
use Rattle.packet.proofs.row.cut.Given as goal

abbrev pub invariant-loop-n : goal.invariant-loop-n
invariant-loop-n l = (l.n ≤ l.room) × Rowed l.row l.n (rest_of l.packet l.w) (cut_of l.packet)

abbrev pub decreases-loop-n : goal.decreases-loop-n
decreases-loop-n l = l.room - l.n
