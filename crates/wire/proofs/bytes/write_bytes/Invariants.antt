use Rattle.std.specs.Prelude.{◌+◌, ◌≡◌}
use Rattle.wire.proofs.Kit.{drop, sets}
use Rattle.wire.proofs.bytes.write_bytes.Given as goal

abbrev pub invariant-loop-i : goal.invariant-loop-i
invariant-loop-i l = sets l.initial.out l.at l.row ≡ sets l.out (l.at + l.i) (drop l.i l.row)
