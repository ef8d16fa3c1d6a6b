use Rattle.std.specs.Prelude.{◌≡◌}
use Rattle.wire.proofs.Kit.{drop}
use Rattle.figures.specs.Escape.{hidden, within}
use Rattle.figures.proofs.escape.is_hidden.Given as goal

abbrev pub invariant-loop-low : goal.invariant-loop-low
invariant-loop-low l = within hidden l.p ≡ within (drop l.low-index hidden) l.p
