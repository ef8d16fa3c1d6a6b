-- The first pass, on no output, tells what the call comes to; the second puts it out.
use Rattle.wire.proofs.Kit.{ap, ◌∙◌, arith, length}
use Rattle.image.proofs.Pouring.{no_room, pour_onto}
use Rattle.amf0.specs.Writing.{value_in}
use Rattle.amf0.proofs.Putting.{write_halt, write_past, write_over, write_full, write_fits, write_size}
use Rattle.amf0.proofs.write.write_value.Goals as goal

pub returns-in-Err : goal.returns-in-Err
returns-in-Err c =
    let o = c.args.out.now in
    let e = write_halt c.args.image.now c.args.text.now (length o) _ c.in-Err.ensures.out_after in
    record { value = rw (c.refused_by.ensures, c.answer.ensures.number, e); out_after = rw (e, no_room c.pour_value.new.out o c.pour_value.auto.out) }

pub returns-in-Ok : goal.returns-in-Ok
returns-in-Ok c =
    let o = c.args.out.now in
    let e = write_past c.args.image.now c.args.text.now (length o) _ c.in-Ok.ensures.out_after (omega arith) in
    record { value = c.refused_by-in-Ok.ensures ∙ rw e; out_after = rw (e, no_room c.pour_value.new.out o c.pour_value.auto.out) }

pub returns-in-Ok-2 : goal.returns-in-Ok-2
returns-in-Ok-2 c =
    let o = c.args.out.now in
    let e = write_over c.args.image.now c.args.text.now (length o) _ c.in-Ok.ensures.out_after (omega arith) (omega arith) in
    record { value = c.refused_by-in-Ok-2.ensures ∙ rw e; out_after = rw (e, no_room c.pour_value.new.out o c.pour_value.auto.out) }

pub returns-in-Ok-3 : goal.returns-in-Ok-3
returns-in-Ok-3 c =
    let o = c.args.out.now in
    let e = write_full c.args.image.now c.args.text.now (length o) _ c.in-Ok.ensures.out_after (omega arith) (omega arith) (omega (arith, ap length (no_room c.pour_value.new.out o c.pour_value.auto.out))) in
    record { value = c.refused_by-in-Ok-3.ensures ∙ rw e; out_after = rw (e, no_room c.pour_value.new.out o c.pour_value.auto.out) }

pub returns-in-Ok-4 : goal.returns-in-Ok-4
returns-in-Ok-4 c =
    let i = c.args.image.now in
    let x = c.args.text.now in
    let o = c.args.out.now in
    let u = no_room c.pour_value.new.out o c.pour_value.auto.out in
    let f = c.in-Ok.ensures.out_after in
    let e = write_fits i x (length o) _ f (omega arith) (omega arith) (omega (arith, ap length u)) in
    let n = write_size i x (length o) _ f (omega arith) in
    record { value = rw (e, n); out_after = rw e (pour_onto (value_in i x 0 0) o (c.pour_value-in-Ok-4.ensures.out_after ∙ rw u) (omega (arith, ap length u))) }
