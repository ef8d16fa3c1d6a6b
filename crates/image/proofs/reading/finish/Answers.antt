-- What is cleared is what is past the made part.
use Rattle.wire.proofs.Kit.{refl, ◌∙◌}
use Rattle.image.proofs.Laws.{padded_take}
use Rattle.image.proofs.reading.finish.Goals as goal

pub returns-in-Ok : goal.returns-in-Ok
returns-in-Ok g c = let image = c.args.image.now in rw c.in-Ok.is (record { value = refl; image_after = c.clear.ensures ∙ padded_take c.in-Ok.made image })

pub returns-in-Err : goal.returns-in-Err
returns-in-Err g c = rw (c.in-Err.is, ← c.told-answer.ensures) (record { value = c.refused.ensures.value; image_after = c.refused.ensures.image_after })
