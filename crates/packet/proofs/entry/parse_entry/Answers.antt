-- `parse_entry` meets its contract: the span of the entry that was found is read.
use Rattle.wire.proofs.Kit.{sym, ◌∙◌, length}
use Rattle.packet.specs.Entry.{cut_of, span, read_entry}
use Rattle.packet.proofs.Laws.{cut_told, entry_none, entry_chosen, span_read}
use Rattle.packet.proofs.entry.parse_entry.Goals as goal

pub returns-in-Err : goal.returns-in-Err
unfolding read_entry
returns-in-Err c =
    let a = c.args in
    let e = entry_none a.packet.now a.number (length a.image.now) (cut_of a.packet.now) (sym c.in-Err.is ∙ c.nth.ensures) in
    record { value = rw e c.finish.ensures.value; image_after = rw e c.finish.ensures.image_after }

pub returns-in-Ok : goal.returns-in-Ok
unfolding read_entry
returns-in-Ok c =
    let a = c.args in
    let s = a.packet.now in
    let e = c.in-Ok.e in
    let k = entry_chosen s a.number (length a.image.now) (cut_of s) (cut_told s) (sym c.in-Ok.is ∙ c.nth.ensures) in
    let w = k.read ∙ sym (span_read s (span e) (length a.image.now) k.short k.inside) in
    record { value = rw w c.parse_span.ensures.value; image_after = rw w c.parse_span.ensures.image_after }
