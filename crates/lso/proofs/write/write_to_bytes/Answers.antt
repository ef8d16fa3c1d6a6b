-- The first pass, on no output, tells what the call comes to and the length; the second puts it out.
use Rattle.wire.proofs.Kit.{ap, ◌∙◌, arith, length}
use Rattle.image.proofs.Pouring.{no_room, pour_onto}
use Rattle.lso.specs.Writing.{file, length_of}
use Rattle.lso.proofs.Putting.{write_halt, write_over, write_full, write_fits, write_size, write_fixed}
use Rattle.lso.proofs.write.write_to_bytes.Goals as goal

pub returns-in-Err : goal.returns-in-Err
returns-in-Err c =
    let o = c.args.out.now in
    let e = write_halt c.args.image.now c.args.text.now (length o) (omega arith) (omega arith) c.in-Err.ensures in
    record { value = rw (c.refused_by-in-Err.ensures, c.answer.ensures.number, e); out_after = rw (e, no_room c.write_file.new.out o c.write_file.auto.out) }

pub returns-then-n-gt-BYTES : goal.returns-then-n-gt-BYTES
returns-then-n-gt-BYTES c =
    let o = c.args.out.now in
    let e = write_over c.args.image.now c.args.text.now (length o) (omega arith) (omega arith) c.in-Ok.ensures (omega arith) in
    record { value = rw (c.refused_by-then-n-gt-BYTES.ensures, e); out_after = rw (e, no_room c.write_file.new.out o c.write_file.auto.out) }

pub returns-then-out-n : goal.returns-then-out-n
returns-then-out-n c =
    let o = c.args.out.now in
    let u = no_room c.write_file.new.out o c.write_file.auto.out in
    let e = write_full c.args.image.now c.args.text.now (length o) (omega arith) (omega arith) c.in-Ok.ensures (omega arith) (omega (arith, ap length u)) in
    record { value = rw (c.refused_by-then-out-n.ensures, e); out_after = rw (e, u) }

pub overflow_sub-n : goal.overflow_sub-n
overflow_sub-n c = (write_fixed c.args.image.now c.args.text.now 0 (omega arith) (omega arith) c.in-Ok.ensures).enough

pub returns-else-out-n : goal.returns-else-out-n
returns-else-out-n c =
    let i = c.args.image.now in
    let x = c.args.text.now in
    let o = c.args.out.now in
    let u = no_room c.write_file.new.out o c.write_file.auto.out in
    let f = c.in-Ok.ensures in
    let e = write_fits i x (length o) (omega arith) (omega arith) f (omega arith) (omega (arith, ap length u)) in
    let n = write_size i x (length o) (omega arith) (omega arith) f in
    let k = write_fixed i x (length o) (omega arith) (omega arith) f in
    record { value = rw (e, n); out_after = rw e (pour_onto (file length_of i x) o (c.write_file-in-Ok.ensures ∙ rw (k.same, u)) (omega (arith, ap length u))) }
