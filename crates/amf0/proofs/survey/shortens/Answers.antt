-- A long string that would fit a short one.
use Rattle.wire.proofs.Kit.{sym, eq-eqb, ne_eqb}
use Rattle.amf0.proofs.survey.shortens.Goals as goal

pub returns-then-m-eq12 : goal.returns-then-m-eq12
returns-then-m-eq12 c = sym (rw (eq-eqb _ 0x0C c.if-m-eq12.true))

pub returns-else-m-eq12 : goal.returns-else-m-eq12
returns-else-m-eq12 c = sym (rw (ne_eqb _ 0x0C c.if-m-eq12.false))
