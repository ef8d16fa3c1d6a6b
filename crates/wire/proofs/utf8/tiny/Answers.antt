-- `tiny` meets its contract: no byte is above what the three are or-ed together, and of three bytes each is one of them.
use Rattle.std.specs.Prelude.{◌+◌, ◌-◌, ◌/◌}
use Rattle.wire.proofs.Kit.{refl, arith, length, ltb-true}
use Rattle.wire.proofs.Steps.{or_below, plain_one, plain_join}
use Rattle.wire.proofs.utf8.tiny.Goals as goal

pub returns : goal.returns
returns c =
    λ t. let s = c.args.s.now in
    let n = length s in
    let w = or_below _ _ (ltb-true _ _ t) in
    let v = or_below _ _ w.0 in
    let first = plain_one s 0 1 (omega arith) v.0 refl in
    let middle = plain_one s (n / 2) (n / 2 + 1) (omega arith) v.1 refl in
    let last = plain_one s (n - 1) n (omega arith) w.1 (omega arith) in
    plain_join n (plain_join (n / 2 + 1) first middle (omega arith) refl) last (omega arith) refl
