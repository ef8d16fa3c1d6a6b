-- Measured is read without records, and the counters are not looked at.
use Rattle.wire.proofs.Kit.{ap, ◌∙◌}
use Rattle.amf0.specs.Survey.{Told}
use Rattle.amf0.proofs.Counting.{count_ended}
use Rattle.amf0.proofs.read.measure.Goals as goal

pub returns : goal.returns
returns c = record { value = ap (λ (x : Told). x.ended) c.survey_value.ensures.t_after ∙ count_ended _ _; onward = c.survey_value.ensures.onward }
