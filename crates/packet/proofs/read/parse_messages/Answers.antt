-- `parse_messages` meets its contract: the count is set in the record, and then the messages are read.
use Rattle.wire.proofs.Kit.{sym, ◌∙◌, arith}
use Rattle.wire.proofs.Laws.{u16_next, stored_room}
use Rattle.image.proofs.Laws.{within}
use Rattle.packet.proofs.read.parse_messages.Goals as goal

pub parse_entries-requires : goal.parse_entries-requires
parse_entries-requires c =
    let a = c.args in
    let r = u16_next a.s.now a.c.at _ _ (sym c.in_ok-m.ensures) in
    let n = c.write_number.auto.out in
    (c.requires.0, omega arith, omega arith)

pub returns : goal.returns
returns c =
    let a = c.args in
    let e = sym c.in_ok-m.ensures in
    let r = u16_next a.s.now a.c.at _ _ e in
    let w = c.write_number.ensures.out_after ∙ sym (stored_room 2 c.in_ok-m.m 3 a.image.now (omega arith)).1 in
    let n = c.write_number.auto.out in
    record { image_after = rw (e, sym w) c.parse_entries.ensures.image_after; within = within c.parse_entries.ensures.within (omega arith) (omega arith) (omega arith) }
