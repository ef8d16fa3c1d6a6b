use Rattle.std.specs.Prelude.{◌-◌, ◌≤◌, ◌≡◌}
use Rattle.wire.proofs.Kit.{length}
use Rattle.image.specs.Due.{run}
use Rattle.packet.specs.Reading.{entries_at}
use Rattle.packet.proofs.read.parse_entries.Given as goal

abbrev pub invariant-loop : goal.invariant-loop
invariant-loop l =
    (l.initial.c.at ≤ l.c.at) ×
    (l.c.at ≤ length l.s) ×
    (l.made ≤ length l.image) ×
    (run (entries_at l.kind l.s l.n l.initial.c.at) l.done l.initial.image ≡ run (entries_at l.kind l.s (l.n - l.counter) l.c.at) l.made l.image)
