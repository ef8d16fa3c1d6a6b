-- The first pass, on no output, tells what the call comes to; the second puts it out.
use Rattle.wire.proofs.Kit.{ap, ◌∙◌, [], arith, length}
use Rattle.image.proofs.Pouring.{no_room, pour_onto}
use Rattle.packet.specs.Writing.{packet}
use Rattle.packet.proofs.Putting.{went_on, halted, again, write_text, write_image, write_halt, write_past, write_over, write_full, write_fits, write_size}
use Rattle.packet.proofs.write.write_to_bytes.Goals as goal

pub returns-then-text-gt-BYTES : goal.returns-then-text-gt-BYTES
returns-then-text-gt-BYTES c =
    let a = c.args in
    let e = write_text a.image.now a.text.now a.exact_lengths (length a.out.now) c.if-text-gt-BYTES.true in
    record { value = c.refused_by.ensures ∙ rw e; out_after = rw e }

pub returns-then-image-gt-IMAGE : goal.returns-then-image-gt-IMAGE
returns-then-image-gt-IMAGE c =
    let a = c.args in
    let e = write_image a.image.now a.text.now a.exact_lengths (length a.out.now) (omega arith) c.if-image-gt-IMAGE.true in
    record { value = c.refused_by-then-image-gt-IMAGE.ensures ∙ rw e; out_after = rw e }

pub returns-then-c-image : goal.returns-then-c-image
returns-then-c-image c =
    let a = c.args in
    let i = a.image.now in
    let x = a.text.now in
    let o = a.out.now in
    let u = no_room c.write_packet.new.out o c.write_packet.auto.out in
    let f = went_on c.in-Ok.ensures in
    let e = write_past i x a.exact_lengths (length o) (omega arith) (omega arith) [] f c.if-c-image.true in
    record { value = c.refused_by-then-c-image.ensures ∙ rw e; out_after = rw (e, u) }

pub returns-then-n-gt-BYTES : goal.returns-then-n-gt-BYTES
returns-then-n-gt-BYTES c =
    let a = c.args in
    let i = a.image.now in
    let x = a.text.now in
    let o = a.out.now in
    let u = no_room c.write_packet.new.out o c.write_packet.auto.out in
    let f = went_on c.in-Ok.ensures in
    let e = write_over i x a.exact_lengths (length o) (omega arith) (omega arith) [] f (omega arith) (omega arith) in
    record { value = c.refused_by-then-n-gt-BYTES.ensures ∙ rw e; out_after = rw (e, u) }

pub returns-then-out-n : goal.returns-then-out-n
returns-then-out-n c =
    let a = c.args in
    let i = a.image.now in
    let x = a.text.now in
    let o = a.out.now in
    let u = no_room c.write_packet.new.out o c.write_packet.auto.out in
    let f = went_on c.in-Ok.ensures in
    let e = write_full i x a.exact_lengths (length o) (omega arith) (omega arith) [] f (omega arith) (omega arith) (omega (arith, ap length u)) in
    record { value = c.refused_by-then-out-n.ensures ∙ rw e; out_after = rw (e, u) }

pub returns-in-Err : goal.returns-in-Err
returns-in-Err c =
    let a = c.args in
    let i = a.image.now in
    let x = a.text.now in
    let o = a.out.now in
    let u = no_room c.write_packet.new.out o c.write_packet.auto.out in
    let e = write_halt i x a.exact_lengths (length o) (omega arith) (omega arith) [] (halted c.in-Err.ensures) in
    record { value = rw (c.refused_by-in-Err.ensures, c.answer.ensures.number, e); out_after = rw (e, u) }

pub returns-else-out-n : goal.returns-else-out-n
returns-else-out-n c =
    let a = c.args in
    let i = a.image.now in
    let x = a.text.now in
    let o = a.out.now in
    let u = no_room c.write_packet.new.out o c.write_packet.auto.out in
    let f = went_on c.in-Ok.ensures in
    let e = write_fits i x a.exact_lengths (length o) (omega arith) (omega arith) [] f (omega arith) (omega arith) (omega (arith, ap length u)) in
    let n = write_size i x a.exact_lengths (length o) (omega arith) (omega arith) [] f (omega arith) in
    record { value = rw (e, n); out_after = rw e (pour_onto (packet a.exact_lengths i x) o (again [] (rw u at c.write_packet-in-Ok.ensures) f) (omega (arith, ap length u))) }
