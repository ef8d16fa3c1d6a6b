use Rattle.std.specs.Prelude.{◌+◌, ◌-◌, ◌*◌, ◌≤◌, ◌≡◌}
use Rattle.wire.proofs.Kit.{ℕ, length}
use Rattle.image.specs.Due.{based}
use Rattle.amf0.specs.Reading.{value as value_of, pairs as pairsOf, items as items_of}
use Rattle.amf0.specs.Survey.{count}
use Rattle.amf0.proofs.survey.+items_pairs_value.Given as goal

abbrev pub invariant-items-loop : goal.invariant-items-loop
invariant-items-loop l =
    (l.fn.start.at ≤ l.c.at) ×
    (l.c.at ≤ length l.s) ×
    (count (based l.base (items_of (value_of l.left l.s) l.n l.fn.start.at)) l.initial.t ≡ count (based l.base (items_of (value_of l.left l.s) (l.n - l.counter) l.c.at)) l.t)

abbrev pub invariant-pairs-loop-key : goal.invariant-pairs-loop-key
invariant-pairs-loop-key l =
    (l.fn.start.at ≤ l.c.at) ×
    (l.c.at ≤ length l.s) ×
    (f : ℕ) ×
    (length l.s ≤ f + l.c.at) ×
    (count (based l.base (pairsOf (value_of l.left l.s) l.s (length l.s) l.fn.start.at)) l.initial.t ≡ count (based l.base (pairsOf (value_of l.left l.s) l.s f l.c.at)) l.t)

abbrev pub decreases-pairs-loop-key : goal.decreases-pairs-loop-key
decreases-pairs-loop-key l = length l.s - l.c.at

abbrev pub decreases-items : goal.decreases-items
decreases-items l = 2 * l.left + 1

abbrev pub decreases-pairs : goal.decreases-pairs
decreases-pairs l = 2 * l.left + 1

abbrev pub decreases-value : goal.decreases-value
decreases-value l = 2 * l.left
