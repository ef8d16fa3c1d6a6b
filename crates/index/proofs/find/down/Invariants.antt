use Rattle.index.specs.Find.{down_of}
use Rattle.index.specs.Mark.{rows}
use Rattle.std.specs.Prelude.{◌≡◌, ◌+◌, ◌-◌, ◌/◌, ◌≤◌}
use Rattle.wire.proofs.Kit.{length, ℕ}
use Rattle.index.proofs.find.down.Given as goal

abbrev pub invariant-loop-i : goal.invariant-loop-i
invariant-loop-i l =
    (l.i ≤ length l.path) × (f : ℕ) × (length l.path ≤ l.i + f)
    × (down_of l.image l.text (rows (length l.index / 13) l.index) l.path (length l.path) 0 0 ≡ down_of l.image l.text (rows (length l.index / 13) l.index) l.path f l.i l.place)

abbrev pub decreases-loop-i : goal.decreases-loop-i
decreases-loop-i l = length l.path - l.i
