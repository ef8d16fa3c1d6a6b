-- One more in a counter, or none.
use Rattle.amf0.proofs.survey.count_if.Goals as goal

pub returns-then-yes : goal.returns-then-yes
returns-then-yes c = rw c.if-yes.true c.count_one.ensures
