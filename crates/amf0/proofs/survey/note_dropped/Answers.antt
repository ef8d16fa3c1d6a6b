-- A key that is dropped is counted where it isn't empty.
use Rattle.amf0.specs.Survey.{noted}
use Rattle.amf0.proofs.survey.note_dropped.Goals as goal

pub returns : goal.returns
unfolding noted
returns c = c.count_if.ensures
