-- The deepest value so far.
use Rattle.wire.proofs.Kit.{sym, lt-ltb, le-ltb}
use Rattle.amf0.proofs.survey.deepen.Goals as goal

pub returns-then-n-d : goal.returns-then-n-d
returns-then-n-d c = sym (rw (lt-ltb _ _ c.if-n-d.true))

pub returns-else-n-d : goal.returns-else-n-d
returns-else-n-d c = sym (rw (le-ltb _ _ c.if-n-d.false))
