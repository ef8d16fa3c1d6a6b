-- The rows of the header, one behind the other.
use Rattle.std.proofs.lemmas.Result.{err_from_is_err_and}
use Rattle.std.specs.Prelude.{◌≡◌}
use Rattle.wire.proofs.Kit.{ℕ, refl, sym, arith}
use Rattle.image.specs.Out.{Out, end, row, pour}
use Rattle.image.proofs.Pouring.{row_in_lem, row_then, row_halt}
use Rattle.lso.specs.Writing.{opening, naming, closing, header}
use Rattle.lso.proofs.write.write_header.Goals.{In_ok-c}
use Rattle.lso.proofs.write.write_header.Goals as goal

-- the first row is put out, and the others are left
opened : (c : In_ok-c) → let a = c.args in
    let x = a.text.now in
    pour (header a.stored x a.p a.n (end a.next.at)) 0 a.out.now ≡ pour (row x (naming a.p a.n) 0 (row x closing 0 (end c.in_ok-c.c.at))) c.in_ok-c.k c.emit_numbers.new.out
opened c =
    let a = c.args in
    let x = a.text.now in
    let more : ℕ → Out = λ z. row x (naming a.p a.n) 0 (row x closing 0 (end z)) in
    row_then x (opening a.stored) 0 a.next.at 0 a.out.now (omega arith) (omega arith) more (c.in_ok-c.ensures.by_index x 0)

pub returns-in_err-c-clause-out_after : goal.returns-in_err-c-clause-out_after
returns-in_err-c-clause-out_after c =
    let a = c.args in
    let x = a.text.now in
    let more : ℕ → Out = λ z. row x (naming a.p a.n) 0 (row x closing 0 (end z)) in
    let p = err_from_is_err_and c.from_residual.result c.from_residual.ensures.1 in
    rw (p.1, p.2) (sym (row_halt x (opening a.stored) 0 a.next.at 0 a.out.now (omega arith) (omega arith) more (c.in_err-c.ensures.by_index x 0)))

pub returns-in_err-d-clause-out_after : goal.returns-in_err-d-clause-out_after
returns-in_err-d-clause-out_after c =
    let a = c.args in
    let x = a.text.now in
    let k = c.in_ok-c in
    let b = k.ensures.grown.bounds k.c k.k refl in
    let more : ℕ → Out = λ z. row x closing 0 (end z) in
    let p = err_from_is_err_and c.from_residual-in_err-d.result c.from_residual-in_err-d.ensures.1 in
    rw (p.1, p.2, opened (goal.at.returns-in_err-d-clause-out_after c).In_ok-c)
    (sym (row_halt x (naming a.p a.n) 0 k.c.at k.k c.emit_numbers.new.out (omega arith) (omega arith) more (rw c.named.ensures at c.in_err-d.ensures.out_after)))

pub returns-clause-out_after : goal.returns-clause-out_after
returns-clause-out_after c =
    let a = c.args in
    let x = a.text.now in
    let k = c.in_ok-c in
    let n = c.in_ok-d in
    let t = c.requires in
    let b = k.ensures.grown.bounds k.c k.k refl in
    let d = n.ensures.grown.bounds n.d n.m refl in
    let more : ℕ → Out = λ z. row x closing 0 (end z) in
    let s = row_then x (naming a.p a.n) 0 k.c.at k.k c.emit_numbers.new.out (omega arith) (omega arith) more (rw c.named.ensures at n.ensures.out_after) in
    rw (opened (goal.at.returns-clause-out_after c).In_ok-c, s, sym (row_in_lem x closing 0 n.d.at n.m c.emit.new.out (omega arith) (omega arith))) (c.emit_numbers-2.ensures.by_index x 0)
