use Rattle.wire.specs.Code.{Run}
use Rattle.wire.proofs.utf8.singles.Given as goal

abbrev pub invariant-loop-i : goal.invariant-loop-i
invariant-loop-i l = Run l.s l.from l.i
