-- What is left of the path gives what the whole gives.
use Rattle.index.proofs.Finding.{read_ok, read_err, down_done, down_short, down_over, down_goes}
use Rattle.index.specs.Mark.{rows}
use Rattle.wire.proofs.Laws.{u16_next}
use Rattle.std.specs.Prelude.{◌+◌, ◌-◌, ◌/◌}
use Rattle.wire.proofs.Kit.{leb-true, length, arith, refl, sym, ◌∙◌}
use Rattle.index.proofs.find.down.Goals as goal

pub loop-i-init : goal.loop-i-init
loop-i-init c = (omega arith, length c.args.path.now, omega arith, refl)

pub returns-in_err-n : goal.returns-in_err-n
returns-in_err-n c =
    let a = c.args in
    let l = c.loop-i in
    rw c.from_residual.ensures (sym (l.invariant.3 ∙ down_short a.image.now a.text.now (rows (length a.index.now / 13) a.index.now) a.path.now l.i l.place c.loop-i-test.true l.invariant.1 l.invariant.2 (read_err c.be_u16.ensures c.ok.ensures.value c.in_err-n.was)))

pub returns-then-not-inside : goal.returns-then-not-inside
returns-then-not-inside c =
    let a = c.args in
    let l = c.loop-i in
    sym (l.invariant.3 ∙ down_over a.image.now a.text.now (rows (length a.index.now / 13) a.index.now) a.path.now l.i l.place c.loop-i-test.true _ _ (read_ok c.be_u16.ensures c.ok.ensures.value c.in_ok-n.was) l.invariant.1 l.invariant.2 (sym c.inside.ensures ∙ c.if-not-inside.true))

pub returns-in_err-place : goal.returns-in_err-place
returns-in_err-place c =
    let a = c.args in
    let l = c.loop-i in
    rw c.from_residual-in_err-place.ensures (sym (l.invariant.3 ∙ down_goes a.image.now a.text.now (rows (length a.index.now / 13) a.index.now) a.path.now l.i l.place c.loop-i-test.true _ _ (read_ok c.be_u16.ensures c.ok.ensures.value c.in_ok-n.was) (sym c.inside.ensures ∙ c.if-not-inside.false) l.invariant.1 l.invariant.2 _ (sym (rw c.part.ensures.result_value at c.step.ensures) ∙ c.in_err-place.was)))

pub loop-i-smaller : goal.loop-i-smaller
loop-i-smaller c = omega (arith, leb-true (c.in_ok-n.d.at + c.in_ok-n.n) (length c.args.path.now) (sym c.inside.ensures ∙ c.if-not-inside.false), (u16_next c.args.path.now c.loop-i.i c.in_ok-n.n c.in_ok-n.d (read_ok c.be_u16.ensures c.ok.ensures.value c.in_ok-n.was)).next)

pub loop-i-preserved : goal.loop-i-preserved
loop-i-preserved c =
    let a = c.args in
    let l = c.loop-i in
    let b = leb-true (c.in_ok-n.d.at + c.in_ok-n.n) (length c.args.path.now) (sym c.inside.ensures ∙ c.if-not-inside.false) in
    let x = (u16_next c.args.path.now c.loop-i.i c.in_ok-n.n c.in_ok-n.d (read_ok c.be_u16.ensures c.ok.ensures.value c.in_ok-n.was)).next in (
      b,
      l.invariant.1 - 1,
      omega arith,
      l.invariant.3 ∙ down_goes a.image.now a.text.now (rows (length a.index.now / 13) a.index.now) a.path.now l.i l.place c.loop-i-test.true _ _ (read_ok c.be_u16.ensures c.ok.ensures.value c.in_ok-n.was) (sym c.inside.ensures ∙ c.if-not-inside.false) l.invariant.1 l.invariant.2 _ (sym (rw c.part.ensures.result_value at c.step.ensures) ∙ c.in_ok-place.was),
    )

pub returns : goal.returns
returns c =
    let a = c.args in
    let l = c.loop-i in
    sym (l.invariant.3 ∙ down_done a.image.now a.text.now (rows (length a.index.now / 13) a.index.now) a.path.now l.i l.place l.invariant.1 (omega arith))
