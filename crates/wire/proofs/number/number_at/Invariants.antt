use Rattle.std.specs.Prelude.{◌^◌, ◌<◌, ◌≡◌}
use Rattle.wire.specs.Number.{number}
use Rattle.wire.specs.Field.{bytes_at}
use Rattle.wire.proofs.number.number_at.Given as goal

abbrev pub invariant-loop-i : goal.invariant-loop-i
invariant-loop-i l = (l.n ≡ number (bytes_at l.i l.s l.at)) × (l.n < 256 ^ l.i)
