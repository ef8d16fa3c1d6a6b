use Rattle.std.specs.Prelude.{◌-◌, ◌≡◌}
use Rattle.packet.specs.Code.{rest_of, past}
use Rattle.packet.proofs.walk.skip.Given as goal

abbrev pub invariant-loop : goal.invariant-loop
invariant-loop l = past l.n (rest_of l.s l.initial.w) ≡ past (l.n - l.counter) (rest_of l.s l.w)
