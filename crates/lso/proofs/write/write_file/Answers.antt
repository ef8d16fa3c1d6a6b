-- The header, and then the elements, from the record behind its own on.
use Rattle.std.proofs.lemmas.Result.{err_from_is_err_and}
use Rattle.wire.proofs.Kit.{refl, sym, ◌∙◌, arith, length}
use Rattle.image.specs.Kind as kind
use Rattle.image.specs.Out.{end}
use Rattle.image.proofs.Pouring.{pour_then, pour_halt, pour_stop}
use Rattle.amf0.proofs.Putting.{Asked, asks, asked_bad}
use Rattle.lso.specs.Writing.{header, body}
use Rattle.lso.proofs.Putting.{filing, file_asked, header_bind}
use Rattle.lso.proofs.write.write_file.Goals.{After-layout_of-l}
use Rattle.lso.proofs.write.write_file.Goals as goal

-- how the record lies, and the file from there on
asked : (c : After-layout_of-l)
    → Asked c.args.image.now kind.lso 0 (filing (λ name body. c.args.stored) c.args.image.now c.args.text.now) c.layout_of-l.result c.in-Some.d.at
asked c =
    let a = c.args in
    asks a.image.now kind.lso 0 (filing (λ name body. a.stored) a.image.now a.text.now) (λ n. (c.type_inv.image n).fits) (sym c.in-Some.ensures) c.layout_of-l.ensures

pub returns-in_default : goal.returns-in_default
returns-in_default c =
    let a = c.args in
    let f = filing (λ name body. a.stored) a.image.now a.text.now in
    rw (c.refuse.ensures, file_asked (λ name body. a.stored) a.image.now a.text.now, asked_bad a.image.now kind.lso 0 f (sym c.in_default.ensures)) (sym (pour_stop _ _ _ _))

pub returns-then-l : goal.returns-then-l
returns-then-l c =
    let a = c.args in
    rw (c.refuse-then-l.ensures, file_asked (λ name body. a.stored) a.image.now a.text.now, (asked (goal.at.returns-then-l c).After-layout_of-l).other c.if-l.true) (sym (pour_stop _ _ _ _))

pub write_body-requires : goal.write_body-requires
write_body-requires c =
    let p = c.requires in
    let k = asked (goal.at.write_body-requires c).After-layout_of-l in
    let b = c.in_ok-e.ensures.grown.bounds c.in_ok-e.e c.in_ok-e.k refl in
    let t = p.0 in
    (t, p.1, omega arith, omega arith)

pub returns-in_err-e : goal.returns-in_err-e
returns-in_err-e c =
    let a = c.args in
    let i = a.image.now in
    let x = a.text.now in
    let l = c.layout_of-l.result in
    let q = c.in-Some.d.at in
    let p = err_from_is_err_and c.from_residual.result c.from_residual.ensures.1 in
    rw (p.1, p.2, file_asked (λ name body. a.stored) i x, (asked (goal.at.returns-in_err-e c).After-layout_of-l).same c.if-l.false, header_bind a.stored x l.b.number l.c.number q (body i x (length i)))
    (sym (pour_halt (header a.stored x l.b.number l.c.number (end q)) (body i x (length i)) 0 a.out.now c.in_err-e.ensures.out_after))

pub returns : goal.returns
returns c =
    let a = c.args in
    let i = a.image.now in
    let x = a.text.now in
    let l = c.layout_of-l.result in
    let q = c.in-Some.d.at in
    rw (file_asked (λ name body. a.stored) i x, (asked (goal.at.returns c).After-layout_of-l).same c.if-l.false, header_bind a.stored x l.b.number l.c.number q (body i x (length i)))
    (c.write_body.ensures ∙ sym (pour_then (header a.stored x l.b.number l.c.number (end q)) (body i x (length i)) 0 a.out.now c.in_ok-e.ensures.out_after))
