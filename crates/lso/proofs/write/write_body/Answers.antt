-- The whole from the start is what is left from here; each element takes bytes of the image.
use Rattle.std.proofs.lemmas.Result.{err_from_is_err_and}
use Rattle.std.specs.Prelude.{◌-◌}
use Rattle.wire.proofs.Kit.{refl, sym, ◌∙◌, arith, length}
use Rattle.image.proofs.Pouring.{pour_then, pour_halt, pour_end}
use Rattle.lso.specs.Writing.{element, body}
use Rattle.lso.proofs.Putting.{body_done, body_more}
use Rattle.lso.proofs.write.write_body.Goals as goal

pub loop-c-init : goal.loop-c-init
loop-c-init c = let p = c.requires in (p.2, p.3, refl, length c.args.image.now, omega arith, refl)

pub returns-in_err-d : goal.returns-in_err-d
returns-in_err-d c =
    let i = c.args.image.now in
    let x = c.args.text.now in
    let l = c.loop-c in
    let j = l.invariant in
    let p = err_from_is_err_and c.from_residual.result c.from_residual.ensures.1 in
    rw (p.1, p.2, j.5, body_more i x l.c.at j.3 (omega arith) c.loop-c-test.true)
    (sym (pour_halt (element i x l.c.at) (body i x (j.3 - 1)) _ _ c.in_err-d.ensures.out_after))

pub loop-c-preserved : goal.loop-c-preserved
loop-c-preserved c =
    let i = c.args.image.now in
    let x = c.args.text.now in
    let l = c.loop-c in
    let j = l.invariant in
    let b = c.in_ok-d.ensures.ahead.bounds c.in_ok-d.d c.in_ok-d.n refl in (
      b.1,
      omega arith,
      c.write_element.auto.out ∙ j.2,
      j.3 - 1,
      omega arith,
      rw (j.5, body_more i x l.c.at j.3 (omega arith) c.loop-c-test.true)
          (pour_then (element i x l.c.at) (body i x (j.3 - 1)) _ _ c.in_ok-d.ensures.out_after),
    )

pub returns : goal.returns
returns c =
    let l = c.loop-c in
    let j = l.invariant in
    rw (j.5, body_done c.args.image.now c.args.text.now l.c.at j.3 c.loop-c-test.false) (sym (pour_end _ _ _))
