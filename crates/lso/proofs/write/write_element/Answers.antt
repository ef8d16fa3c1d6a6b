-- A key, its value and a zero: what each puts out, and where the next goes on.
use Rattle.std.proofs.lemmas.Result.{err_from_is_err_and}
use Rattle.std.specs.Prelude.{◌+◌, ◌*◌, ◌≤◌, ◌≡◌}
use Rattle.wire.proofs.Kit.{ℕ, refl, sym, arith}
use Rattle.image.specs.Out.{Out, end, row, pour}
use Rattle.image.proofs.Pouring.{pour_then, pour_halt, row_in_lem}
use Rattle.amf0.specs.Code.{longest, growth}
use Rattle.amf0.specs.Writing.{top_value, value_in}
use Rattle.amf0.proofs.Putting.{in_value}
use Rattle.lso.specs.Code.{key_of}
use Rattle.lso.specs.Writing.{zero_byte, element}
use Rattle.lso.proofs.Putting.{padded, element_key}
use Rattle.lso.proofs.write.write_element.Goals.{In_ok-e}
use Rattle.lso.proofs.write.write_element.Goals as goal

-- the key is put out, and its value and the zero are left
record Keyed (c : In_ok-e) : Type 0 where
  from : c.args.c.at + 1 ≤ c.in_ok-e.e.at
  small : c.in_ok-e.k + growth * (c.args.c.at + 1) ≤ c.args.count + longest + growth * c.in_ok-e.e.at
  same : let a = c.args in
      let i = a.image.now in
      let x = a.text.now in
      pour (element i x a.c.at) a.count a.out.now ≡ pour (padded i x a.c.at c.in_ok-e.e.at) c.in_ok-e.k c.write_key.new.out
  inner : let i = c.args.image.now in
      let x = c.args.text.now in
      value_in i x c.in_ok-e.k c.in_ok-e.e.at ≡ top_value i x c.in_ok-e.e.at

keyed : (c : In_ok-e) → Keyed c
keyed c =
    let a = c.args in
    let p = c.requires in
    let i = a.image.now in
    let x = a.text.now in
    let k = c.in_ok-e in
    let b = k.ensures.ahead.bounds k.e k.k refl in
    record {
      from = b.0;
      small = b.2;
      same = rw (element_key i x a.c.at) (pour_then (key_of i x a.c.at) (padded i x a.c.at) a.count a.out.now k.ensures.out_after);
      inner = in_value i x k.k k.e.at p.0 p.1 b.1 (omega (arith, b, p));
    }

pub returns-in_err-e-clause-out_after : goal.returns-in_err-e-clause-out_after
returns-in_err-e-clause-out_after c =
    let a = c.args in
    let i = a.image.now in
    let x = a.text.now in
    let p = err_from_is_err_and c.from_residual.result c.from_residual.ensures.1 in
    rw (p.1, p.2, element_key i x a.c.at) (sym (pour_halt (key_of i x a.c.at) (padded i x a.c.at) a.count a.out.now c.in_err-e.ensures.out_after))

pub returns-in_err-f-clause-out_after : goal.returns-in_err-f-clause-out_after
returns-in_err-f-clause-out_after c =
    let a = c.args in
    let x = a.text.now in
    let q = c.in_ok-e.e.at in
    let k = keyed (goal.at.returns-in_err-f-clause-out_after c).In_ok-e in
    let more : ℕ → Out = λ e. row x zero_byte a.c.at (end e) in
    let p = err_from_is_err_and c.from_residual-in_err-f.result c.from_residual-in_err-f.ensures.1 in
    rw (p.1, p.2, k.same) (sym (pour_halt (top_value a.image.now x q) more _ _ (rw k.inner at c.in_err-f.ensures.out_after)))

pub returns-clause-out_after : goal.returns-clause-out_after
returns-clause-out_after c =
    let a = c.args in
    let p = c.requires in
    let x = a.text.now in
    let q = c.in_ok-e.e.at in
    let v = c.in_ok-f in
    let k = keyed (goal.at.returns-clause-out_after c).In_ok-e in
    let b = v.ensures.ahead.bounds v.f v.m refl in
    let more : ℕ → Out = λ e. row x zero_byte a.c.at (end e) in
    rw (k.same, pour_then (top_value a.image.now x q) more _ _ (rw k.inner at v.ensures.out_after), sym (row_in_lem x zero_byte a.c.at v.f.at v.m c.pour_value.new.out (omega arith) (omega (arith, b, k.small, p))))
    (c.emit_numbers.ensures.by_index x a.c.at)
