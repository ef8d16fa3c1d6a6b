use Rattle.std.specs.Prelude.{◌≡◌}
use Rattle.wire.proofs.Kit.{take}
use Rattle.packet.specs.Entry.{puts, strict, cut_of}
use Rattle.packet.specs.Code.{rest_of}
use Rattle.packet.proofs.entry.cut.Given as goal

abbrev pub invariant-loop-place : goal.invariant-loop-place
invariant-loop-place l = (l.n ≡ l.place-index) × (cut_of l.packet ≡ strict (puts (take l.n l.list) (rest_of l.packet l.w)))
