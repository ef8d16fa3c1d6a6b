-- `skip` meets its contract. The invariant: what is to be left of the cut is what is to be left from here.
use Rattle.std.specs.Prelude.{◌+◌, ◌-◌, ◌≡◌}
use Rattle.wire.proofs.Kit.{◌∙◌, arith}
use Rattle.packet.specs.Code.{rest_of}
use Rattle.packet.proofs.Laws.{past_more}
use Rattle.packet.proofs.walk.skip.Goals as goal

pub loop-preserved : goal.loop-preserved
loop-preserved c =
    let a = c.args in
    let l = c.loop in
    let m : a.n - l.counter - 1 ≡ a.n - (l.counter + 1) = omega arith in
    l.invariant ∙ rw (c.next.ensures.walk_value, ← m) (past_more (a.n - l.counter) (rest_of a.s.now l.w) (omega arith))
