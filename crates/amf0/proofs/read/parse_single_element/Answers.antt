-- One value at the front of an input: what its reading comes to in the lent image.
use Rattle.wire.proofs.Kit.{sym, ◌∙◌, length}
use Rattle.image.proofs.Settle.{finished_ran}
use Rattle.amf0.specs.Reading.{value_in}
use Rattle.amf0.proofs.Laws.{whole_read}
use Rattle.std.proofs.Common.{rules}
use Rattle.amf0.proofs.read.parse_single_element.Goals as goal

pub parse_value-step-requires : goal.parse_value-step-requires
parse_value-step-requires c = search rules

pub finish-requires : goal.finish-requires
finish-requires c = search rules

pub shape_of-image : goal.shape_of-image
shape_of-image c = search rules

pub returns : goal.returns
returns c =
    let a = c.args in
    let s = a.input.now in
    let i = a.image.now in
    let e = finished_ran (value_in 0 s 0) i c.parse_value-step.ensures.image_after ∙ whole_read s (length i) in record { value = rw (sym e) c.finish.ensures.value; image_after = rw (sym e, sym c.parse_value-step.auto.image) c.finish.ensures.image_after }
