use Rattle.index.specs.Order.{before}
use Rattle.index.specs.Code.{Passed}
use Rattle.index.proofs.sort.pass.Given as goal

abbrev pub invariant-loop-i : goal.invariant-loop-i
invariant-loop-i l = Passed (before l.image l.text) l.n l.i l.initial.index l.index
