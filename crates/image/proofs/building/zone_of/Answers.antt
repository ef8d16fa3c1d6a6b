-- A zone that is there, and one that is not.
use Rattle.image.proofs.building.zone_of.Goals as goal

pub returns-then-present : goal.returns-then-present
returns-then-present c = rw c.if-present.true c.low16.ensures

pub returns-else-present : goal.returns-else-present
returns-else-present c = rw c.if-present.false
