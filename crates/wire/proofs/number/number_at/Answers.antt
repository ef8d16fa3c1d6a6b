-- `number_at` meets its contract. The loop's invariant: n is the number of the first i bytes, and is below 256 ^ i.
use Rattle.std.specs.Prelude.{◌+◌, ◌^◌, ◌<◌}
use Rattle.wire.proofs.Kit.{ℕ, arith, pow-suc, add-one, lit<, get_or}
use native.Mathlib.Nat.{pow-le-pow_right, le_trans}
use lib.Arith.{digits_lt}
use Rattle.wire.proofs.Laws.{bytes_more, number_snoc}
use Rattle.wire.proofs.number.number_at.Goals as goal

small : (i n : ℕ) → i < 8 → n < 256 ^ i → n < 256 ^ 7
small i n h l = le_trans l (pow-le-pow_right (lit< tt) {j = 7} (omega arith))

pub overflow_mul-n : goal.overflow_mul-n
overflow_mul-n c = let l = c.loop-i in omega (arith, small l.i l.n (omega arith) l.invariant.1)

pub overflow_add-n-in-loop-i : goal.overflow_add-n-in-loop-i
overflow_add-n-in-loop-i c =
    let a = c.args in
    let l = c.loop-i in
    omega (arith, small l.i l.n (omega arith) l.invariant.1, c.type_inv.s (a.at + l.i))

pub loop-i-preserved : goal.loop-i-preserved
loop-i-preserved c =
    let a = c.args in
    let s = a.s.now in
    let l = c.loop-i in
    let b : get_or s (a.at + l.i) 0 < 256 = omega (arith, c.type_inv.s (a.at + l.i)) in
    (rw (bytes_more l.i s a.at (omega arith), number_snoc, ← l.invariant.0), rw (add-one, pow-suc) (digits_lt l.invariant.1 b))
