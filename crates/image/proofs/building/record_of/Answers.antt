-- The five numbers are all there are.
use Rattle.wire.proofs.Kit.{ap, ◌∙◌}
use Rattle.image.specs.Building.{record_of}
use Rattle.image.proofs.Told.{five}
use Rattle.image.proofs.building.record_of.Goals as goal

pub returns : goal.returns
returns c = c.told_of.ensures ∙ ap record_of (five c.args.fields c.well_formed.0.1.0.1)
