use Rattle.index.proofs.Ordering.{total}
use Rattle.index.proofs.Sorting.{Sinking}
use Rattle.index.specs.Order.{before}
use Rattle.index.specs.Mark.{rows}
use Rattle.std.specs.Prelude.{◌≡◌, ◌*◌}
use Rattle.wire.proofs.Kit.{drop}
use Rattle.index.proofs.sort.sink.Given as goal

abbrev pub invariant-loop-j : goal.invariant-loop-j
invariant-loop-j l =
    (drop (13 * l.n) l.index ≡ drop (13 * l.n) l.initial.index)
    × Sinking (before l.image l.text) (total l.image l.text) l.i l.j l.held (rows l.n l.initial.index) (rows l.n l.index)

abbrev pub decreases-loop-j : goal.decreases-loop-j
decreases-loop-j l = l.j
