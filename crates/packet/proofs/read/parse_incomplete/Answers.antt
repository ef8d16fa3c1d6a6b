-- `parse_incomplete` meets its contract: what the packet's reading comes to in the lent image.
use Rattle.wire.proofs.Kit.{sym}
use Rattle.packet.proofs.Packing.{packed_finished}
use Rattle.packet.proofs.read.parse_incomplete.Goals as goal

pub returns : goal.returns
returns c =
    let a = c.args in
    let e = packed_finished a.input.now a.image.now c.parse_packet-step.ensures.packed in
    record { value = rw (sym e) c.finish.ensures.value; image_after = rw (sym e, sym c.parse_packet-step.auto.image) c.finish.ensures.image_after }
