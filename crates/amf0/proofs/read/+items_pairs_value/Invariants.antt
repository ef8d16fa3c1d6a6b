use Rattle.std.specs.Prelude.{◌+◌, ◌-◌, ◌*◌, ◌≤◌, ◌≡◌}
use Rattle.wire.proofs.Kit.{ℕ, length}
use Rattle.image.specs.Due.{run, based}
use Rattle.amf0.specs.Reading.{value as value_of, pairs as pairsOf, items as items_of}
use Rattle.amf0.proofs.read.+items_pairs_value.Given as goal

abbrev pub invariant-items-loop : goal.invariant-items-loop
invariant-items-loop l =
    (l.initial.c.at ≤ l.c.at) ×
    (l.c.at ≤ length l.s) ×
    (l.made ≤ length l.image) ×
    (length l.image ≡ length l.initial.image) ×
    (run (based l.base (items_of (value_of l.left l.s) l.n l.initial.c.at)) l.done l.initial.image
    ≡ run (based l.base (items_of (value_of l.left l.s) (l.n - l.counter) l.c.at)) l.made l.image)

abbrev pub invariant-pairs-loop-t : goal.invariant-pairs-loop-t
invariant-pairs-loop-t l =
    (l.initial.c.at ≤ l.c.at) ×
    (l.c.at ≤ length l.s) ×
    (l.made ≤ length l.image) ×
    (length l.image ≡ length l.initial.image) ×
    (f : ℕ) ×
    (length l.s ≤ f + l.c.at) ×
    (run (based l.base (pairsOf (value_of l.left l.s) l.s (length l.s) l.initial.c.at)) l.done l.initial.image ≡ run (based l.base (pairsOf (value_of l.left l.s) l.s f l.c.at)) l.made l.image)

abbrev pub decreases-pairs-loop-t : goal.decreases-pairs-loop-t
decreases-pairs-loop-t l = length l.s - l.c.at

abbrev pub decreases-items : goal.decreases-items
decreases-items l = 2 * l.left + 1

abbrev pub decreases-pairs : goal.decreases-pairs
decreases-pairs l = 2 * l.left + 1

abbrev pub decreases-value : goal.decreases-value
decreases-value l = 2 * l.left
