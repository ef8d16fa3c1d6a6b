use Rattle.index.specs.Code.{Mixed}
use Rattle.index.proofs.sort.heap.Given as goal

abbrev pub invariant-loop-k : goal.invariant-loop-k
invariant-loop-k l = Mixed l.n l.initial.index l.index

abbrev pub invariant-loop-m : goal.invariant-loop-m
invariant-loop-m l = Mixed l.n l.initial.index l.index
