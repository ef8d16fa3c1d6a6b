-- A boolean that is neither 0 nor 1.
-- no second byte in a row of one or none
use Rattle.std.specs.Prelude.{◌≤◌, ◌≡◌}
use Rattle.wire.proofs.Kit.{ℕ, sym, arith, List, get_or, drop, length-take, List·getD-eq-default, eq-eqb, ne_eqb}
use Rattle.std.proofs.Common.{get_or-drop, get_or-take}
use Rattle.wire.specs.Field.{bytes_at}
use Rattle.amf0.proofs.survey.uneven.Goals as goal

none : (n : ℕ) (s : List ℕ) (p : ℕ) → n ≤ 1 → get_or (bytes_at n s p) 1 0 ≡ 0
none n s p h = List·getD-eq-default (bytes_at n s p) 0 (omega (arith, length-take n (drop p s)))

pub returns-then-n-gt1 : goal.returns-then-n-gt1
returns-then-n-gt1 c = sym (rw (eq-eqb _ 0x01 c.if-m-eq1.true, get_or-take _ _ _ _ c.if-n-gt1.true, get_or-drop))

pub returns-else-n-gt1 : goal.returns-else-n-gt1
returns-else-n-gt1 c = sym (rw (eq-eqb _ 0x01 c.if-m-eq1.true, none _ _ _ c.if-n-gt1.false))

pub returns-else-m-eq1 : goal.returns-else-m-eq1
returns-else-m-eq1 c = sym (rw (ne_eqb _ 0x01 c.if-m-eq1.false))
