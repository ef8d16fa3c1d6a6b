-- The field has room, so it is stored.
use Rattle.wire.proofs.Kit.{refl, ◌∙◌}
use Rattle.wire.proofs.Laws.{pick_yes}
use Rattle.std.proofs.Common.{rules}
use Rattle.image.proofs.reading.lay.Goals as goal

pub write_number-requires : goal.write_number-requires
write_number-requires c = search rules

pub overflow_add-result : goal.overflow_add-result
overflow_add-result c = search rules

pub shape_of-image : goal.shape_of-image
shape_of-image c = search rules

pub returns : goal.returns
returns c = record { value = refl; image_after = c.write_number.ensures.out_after ∙ pick_yes _ _ _ _ c.requires }
