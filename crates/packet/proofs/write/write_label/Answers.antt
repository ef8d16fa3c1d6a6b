-- The label that a record is, where its kind is due: its name or target, and what follows.
use Rattle.std.specs.Prelude.{◌+◌, ◌≤◌, ◌≡◌}
use Rattle.std.proofs.lemmas.Result.{err_from_is_err_and}
use Rattle.wire.proofs.Kit.{refl, sym, ap, ◌∙◌, arith, eq-eqb, ne_eqb}
use Rattle.image.specs.Kind as kind
use Rattle.image.specs.Record.{◌bytes◌, none}
use Rattle.image.specs.Out.{Out, row_of, pour}
use Rattle.image.proofs.Pouring.{pour_stop, row_in_lem, row_then, row_halt}
use Rattle.amf0.specs.Code.{longest}
use Rattle.amf0.proofs.Putting.{ahead_grown, Asked, asks, asked_bad}
use Rattle.packet.specs.Writing.{label}
use Rattle.packet.proofs.Putting.{naming, behind, labelling, label_asked}
use Rattle.packet.proofs.write.write_label.Goals.{After-layout_of-l, In_ok-e}
use Rattle.packet.proofs.write.write_label.Goals as goal

-- the name or the target is put out, and the rest is left
-- how the record lies, and the label from there on
shown : (c : After-layout_of-l) → let a = c.args in
    let i = a.image.now in
    Asked i a.kind a.c.at (labelling a.kind i a.text.now a.c.at) c.layout_of-l.result c.in-Some.d.at
shown c =
    let a = c.args in
    let i = a.image.now in
    asks i a.kind a.c.at (labelling a.kind i a.text.now a.c.at) (λ n. (c.type_inv.image n).fits) (sym c.record_at.ensures ∙ c.in-Some.is) c.layout_of-l.ensures

record Told (c : In_ok-e) : Type 0 where
  next : c.in_ok-e.e.at ≡ c.in-Some.d.at
  most : c.in_ok-e.k ≤ c.args.count + longest
  same : let a = c.args in
      let i = a.image.now in
      let x = a.text.now in
      pour (label a.kind i x a.c.at) a.count a.out.now
      ≡ pour (behind a.kind i x a.c.at c.layout_of-l.result c.in_ok-e.e.at) c.in_ok-e.k c.emit_text.new.out

told : (c : In_ok-e) → Told c
told c =
    let a = c.args in
    let i = a.image.now in
    let x = a.text.now in
    let l = c.layout_of-l.result in
    let t = c.requires.0 in
    let g = c.requires.1 in
    let h = c.requires.2 in
    let m = c.requires.3 in
    let b = c.in_ok-e.ensures.grown.bounds c.in_ok-e.e c.in_ok-e.k refl in
    record {
      next = b.0;
      most = omega arith;
      same = rw (label_asked a.kind i x a.c.at, (shown (goal.at.In_ok-e c).After-layout_of-l).same c.if-l-kind.false)
          (row_then x (naming l.a.number l.b.number) a.c.at c.in-Some.d.at a.count a.out.now (omega arith) (omega arith) (behind a.kind i x a.c.at l) c.in_ok-e.ensures.out_after);
    }

pub returns-then-l-kind-clause-out_after : goal.returns-then-l-kind-clause-out_after
returns-then-l-kind-clause-out_after c =
    let a = c.args in
    rw (c.refuse-then-l-kind.ensures, label_asked a.kind a.image.now a.text.now a.c.at, (shown (goal.at.returns-then-l-kind-clause-out_after c).After-layout_of-l).other c.if-l-kind.true)
    (sym (pour_stop _ _ _ _))

pub returns-in_default-clause-out_after : goal.returns-in_default-clause-out_after
returns-in_default-clause-out_after c =
    let a = c.args in
    let i = a.image.now in
    let x = a.text.now in
    rw (c.refuse.ensures, label_asked a.kind i x a.c.at, asked_bad i a.kind a.c.at (labelling a.kind i x a.c.at) (sym c.record_at.ensures ∙ c.in_default.is)) (sym (pour_stop _ _ _ _))

pub returns-in_err-e-clause-out_after : goal.returns-in_err-e-clause-out_after
returns-in_err-e-clause-out_after c =
    let a = c.args in
    let i = a.image.now in
    let x = a.text.now in
    let l = c.layout_of-l.result in
    let t = c.requires.1 in
    let g = c.requires.2 in
    let m = c.requires.3 in
    let p = err_from_is_err_and c.from_residual.result c.from_residual.ensures.1 in
    rw (p.1, p.2, label_asked a.kind i x a.c.at, (shown (goal.at.returns-in_err-e-clause-out_after c).After-layout_of-l).same c.if-l-kind.false)
    (sym (row_halt x (naming l.a.number l.b.number) a.c.at c.in-Some.d.at a.count a.out.now (omega arith) (omega arith) (behind a.kind i x a.c.at l) c.in_err-e.ensures.out_after))

pub returns-then-kind-eq-HEADER : goal.returns-then-kind-eq-HEADER
returns-then-kind-eq-HEADER c =
    let a = c.args in
    let x = a.text.now in
    let l = c.layout_of-l.result in
    let t = c.requires.0 in
    let h = c.requires.1 in
    let z = c.requires.2 in
    let k = told (goal.at.returns-then-kind-eq-HEADER c).In_ok-e in
    let s = shown (goal.at.returns-then-kind-eq-HEADER c).After-layout_of-l in
    let m = k.most in
    let g = c.requires.3 in
    let e = k.next in
    let f = s.from in
    let o = s.fits in
    record {
      out_after = rw (k.same, eq-eqb a.kind kind.header c.if-kind-eq-HEADER.true)
          (c.emit_numbers.ensures.by_index x a.c.at ∙ ap (λ (d : Out). pour d c.in_ok-e.k c.emit_text.new.out) (row_in_lem x (row_of (1 bytes l.c.number) none none 0 0) a.c.at c.in_ok-e.e.at c.in_ok-e.k c.emit_text.new.out (omega arith) (omega arith)));
      ahead = ahead_grown c.emit_numbers.ensures.grown (omega arith) (omega arith) (omega arith);
    }

pub returns-else-kind-eq-HEADER : goal.returns-else-kind-eq-HEADER
returns-else-kind-eq-HEADER c =
    let a = c.args in
    let x = a.text.now in
    let l = c.layout_of-l.result in
    let t = c.requires.0 in
    let h = c.requires.1 in
    let z = c.requires.2 in
    let k = told (goal.at.returns-else-kind-eq-HEADER c).In_ok-e in
    let s = shown (goal.at.returns-else-kind-eq-HEADER c).After-layout_of-l in
    let m = k.most in
    let g = c.requires.3 in
    let e = k.next in
    let f = s.from in
    let o = s.fits in
    record {
      out_after = rw (k.same, ne_eqb a.kind kind.header c.if-kind-eq-HEADER.false)
          (c.emit_text-else-kind-eq-HEADER.ensures.out_after ∙ ap (λ (d : Out). pour d c.in_ok-e.k c.emit_text.new.out) (row_in_lem x (naming l.c.number l.d.number) a.c.at c.in_ok-e.e.at c.in_ok-e.k c.emit_text.new.out (omega arith) (omega arith)));
      ahead = ahead_grown c.emit_text-else-kind-eq-HEADER.ensures.grown (omega arith) (omega arith) (omega arith);
    }
