-- The half that is left gives what the whole gives.
use Rattle.index.proofs.Finding.{upper_left, upper_right, upper_done}
use Rattle.index.proofs.Rows.{rows_get}
use Rattle.index.specs.Find.{past_of}
use Rattle.index.specs.Mark.{rows}
use Rattle.std.specs.Prelude.{◌+◌, ◌-◌, ◌/◌}
use Rattle.wire.proofs.Kit.{arith, refl, sym, ◌∙◌}
use Rattle.index.proofs.find.upper.Goals as goal

pub loop-low-init : goal.loop-low-init
loop-low-init c = (omega arith, omega arith, c.args.n, omega arith, refl)

pub loop-low-preserved-then-past : goal.loop-low-preserved-then-past
loop-low-preserved-then-past c =
    let a = c.args in
    let l = c.loop-low in
    let m = c.mark_at.ensures.0 ∙ sym (rows_get a.n a.index.now ((l.low + l.high) / 2) (omega arith)) in (
      omega arith,
      omega arith,
      l.invariant.2 - 1,
      omega arith,
      l.invariant.4 ∙ upper_left (past_of a.image.now a.text.now a.container a.key.now) (rows a.n a.index.now) l.low l.high c.loop-low-test.true l.invariant.2 l.invariant.3 (rw m at (sym c.past.ensures ∙ c.if-past.true)),
    )

pub loop-low-preserved : goal.loop-low-preserved
loop-low-preserved c =
    let a = c.args in
    let l = c.loop-low in
    let m = c.mark_at.ensures.0 ∙ sym (rows_get a.n a.index.now ((l.low + l.high) / 2) (omega arith)) in (
      omega arith,
      omega arith,
      l.invariant.2 - 1,
      omega arith,
      l.invariant.4 ∙ upper_right (past_of a.image.now a.text.now a.container a.key.now) (rows a.n a.index.now) l.low l.high c.loop-low-test.true l.invariant.2 l.invariant.3 (rw m at (sym c.past.ensures ∙ c.if-past.false)),
    )

pub returns : goal.returns
returns c =
    let a = c.args in
    let l = c.loop-low in
    (sym (l.invariant.4 ∙ upper_done (past_of a.image.now a.text.now a.container a.key.now) (rows a.n a.index.now) l.invariant.2 l.low l.high (omega arith)), omega arith)
