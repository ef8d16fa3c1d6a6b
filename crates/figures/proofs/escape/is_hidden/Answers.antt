-- A range a turn: a number is in one of them if it is in one of those that are left.
use Rattle.wire.proofs.Kit.{sym, ◌∙◌}
use Rattle.figures.specs.Escape.{hidden}
use Rattle.figures.proofs.Escapes.{below, inside, above}
use Rattle.figures.proofs.escape.is_hidden.Goals as goal

pub returns-then-p-low : goal.returns-then-p-low
returns-then-p-low c = sym (c.loop-low.invariant ∙ below hidden c.loop-low.low-index _ c.loop-low-test.true c.if-p-low.true)

pub returns-then-p-high : goal.returns-then-p-high
returns-then-p-high c = sym (c.loop-low.invariant ∙ inside hidden c.loop-low.low-index _ c.loop-low-test.true c.if-p-low.false c.if-p-high.true)

pub loop-low-preserved : goal.loop-low-preserved
loop-low-preserved c = c.loop-low.invariant ∙ above hidden c.loop-low.low-index _ c.loop-low-test.true c.if-p-low.false c.if-p-high.false
