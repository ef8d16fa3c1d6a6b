-- The value is put out where what was asked for is within the limits.
use Rattle.wire.proofs.Kit.{sym, arith}
use Rattle.image.proofs.Pouring.{pour_stop}
use Rattle.amf0.specs.Writing.{top_value}
use Rattle.amf0.proofs.Putting.{in_over, in_value, rest_one}
use Rattle.amf0.proofs.write.pour_value.Goals as goal

pub returns-then-text-gt-BYTES-clause-out_after : goal.returns-then-text-gt-BYTES-clause-out_after
returns-then-text-gt-BYTES-clause-out_after c =
    let a = c.args in
    rw (in_over a.image.now a.text.now a.count a.c.at (λ t i p n. omega (arith, c.then-text-gt-BYTES.either)), c.refuse.ensures) (sym (pour_stop _ _ _ _))

pub returns-clause-out_after : goal.returns-clause-out_after
returns-clause-out_after c =
    let a = c.args in
    let i = a.image.now in
    let x = a.text.now in
    rw (in_value i x a.count a.c.at (omega arith) (omega arith) (omega arith) (omega arith), ← rest_one (top_value i x) i x a.c.at) c.values.ensures.out_after
