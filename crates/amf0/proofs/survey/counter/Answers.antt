-- A marker's counter: its own up to 11 hex, else the one for all above.
use Rattle.wire.proofs.Kit.{sym, arith, le-leb, lt-leb}
use Rattle.amf0.proofs.survey.counter.Goals as goal

pub returns-then-m-le17 : goal.returns-then-m-le17
returns-then-m-le17 c = (sym (rw (le-leb _ 0x11 c.if-m-le17.true)), omega arith)

pub returns-else-m-le17 : goal.returns-else-m-le17
returns-else-m-le17 c = (sym (rw (lt-leb _ 0x11 c.if-m-le17.false)), omega arith)
