use Rattle.std.specs.Prelude.{◌+◌, ◌-◌, ◌*◌, ◌≤◌, ◌≡◌}
use Rattle.wire.proofs.Kit.{length}
use Rattle.image.specs.Out.{pour}
use Rattle.amf0.specs.Code.{growth}
use Rattle.packet.specs.Writing.{entries}
use Rattle.packet.proofs.write.write_entries.Given as goal

abbrev pub invariant-loop : goal.invariant-loop
invariant-loop l =
    (l.initial.c.at ≤ l.c.at) ×
    (l.c.at ≤ length l.image) ×
    (l.count + growth * l.initial.c.at ≤ l.done + growth * l.c.at) ×
    (pour (entries l.kind l.exact l.image l.text l.n l.initial.c.at) l.done l.initial.out ≡ pour (entries l.kind l.exact l.image l.text (l.n - l.counter) l.c.at) l.count l.out)
