-- `parse` meets its contract: bytes left over are refused after everything else.
use Rattle.wire.proofs.Kit.{sym}
use Rattle.packet.proofs.Packing.{whole_stop, whole_more, whole_all}
use Rattle.packet.proofs.read.parse.Goals as goal

pub returns-in-Err : goal.returns-in-Err
returns-in-Err c =
    let a = c.args in
    let e = whole_stop a.input.now a.image.now c.in-Err.ensures.packed in
    record { value = rw e c.finish.ensures.value; image_after = rw (e, sym c.parse_packet.auto.image) c.finish.ensures.image_after }

pub returns-then-c-input : goal.returns-then-c-input
returns-then-c-input c =
    let a = c.args in
    let f = rw c.refuse.ensures at c.finish-then-c-input.ensures in
    let e = whole_more a.input.now a.image.now c.in-Ok.ensures.packed c.if-c-input.true in
    record { value = rw e f.value; image_after = rw (e, sym c.parse_packet.auto.image) f.image_after }

pub returns-else-c-input : goal.returns-else-c-input
returns-else-c-input c =
    let a = c.args in
    let e = whole_all a.input.now a.image.now c.in-Ok.ensures.packed c.if-c-input.false in
    record { value = rw e c.finish-in-Ok.ensures.value; image_after = rw (e, sym c.parse_packet.auto.image) c.finish-in-Ok.ensures.image_after }
