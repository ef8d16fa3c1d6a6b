-- Zeros, one field after another: the whole from the start is what is left from here.
use Rattle.wire.proofs.Kit.{sym, ◌∙◌}
use Rattle.lso.proofs.Laws.{zeros_next}
use Rattle.lso.proofs.read.zeros.Goals as goal

pub loop-preserved : goal.loop-preserved
loop-preserved c = let l = c.loop in l.invariant ∙ zeros_next _ c.args.n l.counter l.c.at c.loop-test.true (sym c.in_ok-c.ensures)
