-- One more in a counter, which goes on at 0 behind its last number.
use Rattle.amf0.proofs.survey.count_one.Goals as goal

pub returns : goal.returns
returns c = rw c.wrapping_add_u32-k.ensures.value
