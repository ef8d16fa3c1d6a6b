-- The label, a length and the value; where lengths are exact, the length is set behind the value.
use Rattle.std.specs.Prelude.{◌+◌, ◌-◌, ◌*◌, ◌≤◌, ◌≡◌}
use Rattle.std.proofs.lemmas.Result.{err_from_is_err_and}
use Rattle.wire.proofs.Kit.{refl, ℕ, sym, ap, ◌∙◌, List, arith, length}
use Rattle.image.specs.Due.{went_to}
use Rattle.image.specs.Out.{Out, row, Poured, poured, pour, bytes as bytes_out}
use Rattle.image.proofs.Pouring.{pour_then, pour_halt, row_then, row_halt, went}
use Rattle.amf0.specs.Code.{longest, growth}
use Rattle.amf0.specs.Writing.{top_value, value_in}
use Rattle.amf0.proofs.Putting.{ahead_next, in_value}
use Rattle.packet.specs.Writing.{label, entry}
use Rattle.packet.proofs.Putting.{carried, carried_stop, sizing, size_set, size_step, following, entry_labelled}
use Rattle.packet.proofs.write.write_entry.Goals.{In_ok-d, In_ok-e, In_ok-f}
use Rattle.packet.proofs.write.write_entry.Goals.{then-exact, else-exact}
use Rattle.packet.proofs.write.write_entry.Goals as goal

-- the label is put out, and the length and the value are left
record Told (c : In_ok-d) : Type 0 where
  from : c.args.c.at + 1 ≤ c.in_ok-d.d.at
  fits : c.in_ok-d.d.at ≤ length c.args.image.now
  most : let a = c.args in
      c.in_ok-d.k + growth * (a.c.at + 1) ≤ a.count + 2 * longest + growth * c.in_ok-d.d.at
  same : let a = c.args in
      let i = a.image.now in
      let x = a.text.now in
      pour (entry a.kind a.exact i x a.c.at) a.count a.out.now
      ≡ pour (following a.kind i x a.c.at a.exact c.in_ok-d.d.at) c.in_ok-d.k c.write_label.new.out
  -- whatever the length, it goes on or stops alike
  step : let a = c.args in
      let i = a.image.now in
      let x = a.text.now in
      (pour (entry a.kind a.exact i x a.c.at) a.count a.out.now).step
      ≡ (pour (row x (sizing 0xFFFFFFFF) a.c.at (top_value i x c.in_ok-d.d.at)) c.in_ok-d.k c.write_label.new.out).step

told : (c : In_ok-d) → Told c
told c =
    let a = c.args in
    let i = a.image.now in
    let x = a.text.now in
    let b = c.in_ok-d.ensures.ahead.bounds c.in_ok-d.d c.in_ok-d.k refl in
    let e : pour (entry a.kind a.exact i x a.c.at) a.count a.out.now
    ≡ pour (following a.kind i x a.c.at a.exact c.in_ok-d.d.at) c.in_ok-d.k c.write_label.new.out =
    rw (entry_labelled a.kind i x a.c.at a.exact)
    (pour_then (label a.kind i x a.c.at) (following a.kind i x a.c.at a.exact) a.count a.out.now c.in_ok-d.ensures.out_after)
    in
    record {
      from = b.0;
      fits = b.1;
      most = b.2;
      same = e;
      step = ap (λ (y : Poured). y.step) e ∙ size_step x (top_value i x c.in_ok-d.d.at) a.c.at _ 0xFFFFFFFF c.in_ok-d.k c.write_label.new.out;
    }

-- a length is put out, and the value is left
record Sized (c : In_ok-e) : Type 0 where
  place : c.in_ok-e.e.at ≡ c.in_ok-d.d.at
  most : c.in_ok-e.m ≤ c.in_ok-d.k + longest
  same : let a = c.args in
      let f = top_value a.image.now a.text.now in
      pour (row a.text.now (sizing 0xFFFFFFFF) a.c.at (f c.in_ok-d.d.at)) c.in_ok-d.k c.write_label.new.out ≡ pour (f c.in_ok-e.e.at) c.in_ok-e.m c.emit_numbers.new.out
  inner : let a = c.args in
      let i = a.image.now in
      let x = a.text.now in
      (o : List ℕ) → pour (value_in i x c.in_ok-e.m c.in_ok-e.e.at) c.in_ok-e.m o ≡ pour (top_value i x c.in_ok-e.e.at) c.in_ok-e.m o

sized : (c : In_ok-e) → Sized c
sized c =
    let a = c.args in
    let p = c.requires in
    let i = a.image.now in
    let x = a.text.now in
    let k = told (goal.at.In_ok-e c).In_ok-d in
    let b = c.in_ok-e.ensures.grown.bounds c.in_ok-e.e c.in_ok-e.m refl in
    let t = c.requires.0 in
    let s = c.requires.1 in
    let g = c.requires.3 in
    let m = k.most in
    let h = k.fits in
    record {
      place = b.0;
      most = omega arith;
      same = row_then x (sizing 0xFFFFFFFF) a.c.at c.in_ok-d.d.at c.in_ok-d.k c.write_label.new.out (omega arith) (omega arith) (top_value i x) (c.in_ok-e.ensures.by_index x a.c.at);
      inner = λ o. ap (λ (d : Out). pour d c.in_ok-e.m o) (in_value i x c.in_ok-e.m c.in_ok-e.e.at t s (omega arith) (omega arith));
    }

-- the value is put out behind the length
record Valued (c : In_ok-f) : Type 0 where
  from : c.args.c.at + 1 ≤ c.in_ok-f.f.at
  fits : c.in_ok-f.f.at ≤ length c.args.image.now
  most : let a = c.args in
      c.in_ok-f.total + growth * (a.c.at + 1) ≤ a.count + growth * c.in_ok-f.f.at
  size : let a = c.args in
      c.in_ok-f.total ≡ c.in_ok-e.m + length (bytes_out (top_value a.image.now a.text.now c.in_ok-d.d.at))
  same : let a = c.args in
      poured (went_to c.in_ok-f.f c.in_ok-f.total) c.pour_value.new.out
      ≡ pour (row a.text.now (sizing 0xFFFFFFFF) a.c.at (top_value a.image.now a.text.now c.in_ok-d.d.at)) c.in_ok-d.k c.write_label.new.out

valued : (c : In_ok-f) → Valued c
valued c =
    let a = c.args in
    let i = a.image.now in
    let x = a.text.now in
    let k = told (goal.at.In_ok-f c).In_ok-d in
    let l = sized (goal.at.In_ok-f c).In_ok-e in
    let b = c.in_ok-f.ensures.ahead.bounds c.in_ok-f.f c.in_ok-f.total refl in
    let e = c.in_ok-f.ensures.out_after ∙ l.inner _ in
    let f = k.from in
    let m = k.most in
    let n = l.most in
    let q = l.place in
    record {
      from = omega arith;
      fits = b.1;
      most = omega arith;
      size = rw (← q) (went (top_value i x c.in_ok-e.e.at) c.in_ok-e.m c.emit_numbers.new.out e).size;
      same = e ∙ sym l.same;
    }

pub overflow_sub-total : goal.overflow_sub-total
overflow_sub-total c = let k = (valued (goal.at.overflow_sub-total c).In_ok-f).size in omega arith

pub returns-in_err-d-clause-carried : goal.returns-in_err-d-clause-carried
returns-in_err-d-clause-carried c =
    let a = c.args in
    let i = a.image.now in
    let x = a.text.now in
    let p = err_from_is_err_and c.from_residual.result c.from_residual.ensures.1 in
    rw (p.1, p.2)
    (carried (rw (entry_labelled a.kind i x a.c.at a.exact)
    (sym (pour_halt (label a.kind i x a.c.at) (following a.kind i x a.c.at a.exact) a.count a.out.now c.in_err-d.ensures.out_after))))

pub returns-in_err-e-clause-carried : goal.returns-in_err-e-clause-carried
returns-in_err-e-clause-carried c =
    let a = c.args in
    let i = a.image.now in
    let x = a.text.now in
    let k = told (goal.at.returns-in_err-e-clause-carried c).In_ok-d in
    let h = k.fits in
    let m = k.most in
    let g = c.requires.3 in
    let s = c.requires.1 in
    let p = err_from_is_err_and c.from_residual-in_err-e.result c.from_residual-in_err-e.ensures.1 in
    rw (p.1, p.2)
    (carried_stop (k.step ∙ ap (λ (y : Poured). y.step)
    (row_halt x (sizing 0xFFFFFFFF) a.c.at c.in_ok-d.d.at c.in_ok-d.k c.write_label.new.out (omega arith) (omega arith) (top_value i x) (c.in_err-e.ensures.by_index x a.c.at))))

pub returns-in_err-f-clause-carried : goal.returns-in_err-f-clause-carried
returns-in_err-f-clause-carried c =
    let k = sized (goal.at.returns-in_err-f-clause-carried c).In_ok-e in
    let p = err_from_is_err_and c.from_residual-in_err-f.result c.from_residual-in_err-f.ensures.1 in
    rw (p.1, p.2)
    (carried_stop ((told (goal.at.returns-in_err-f-clause-carried c).In_ok-d).step ∙ ap (λ (y : Poured). y.step) (k.same ∙ sym (c.in_err-f.ensures.out_after ∙ k.inner _))))

pub returns : goal.returns
returns c =
    let a = c.args in
    let i = a.image.now in
    let x = a.text.now in
    let t = told (goal.at.returns c).In_ok-d in
    let k = valued (goal.at.returns c).In_ok-f in
    let n = k.size in
    let z : c.in_ok-f.total - c.in_ok-e.m ≡ length (bytes_out (top_value i x c.in_ok-d.d.at)) = omega arith in
    let e : poured (went_to c.in_ok-f.f c.in_ok-f.total) c.if-exact.out ≡ pour (entry a.kind a.exact i x a.c.at) a.count a.out.now =
    elim c.if-exact.branch [
      | then-exact b ↦
          ap (λ (l : List ℕ). poured (went_to c.in_ok-f.f c.in_ok-f.total) l) (b.out-is ∙ b.write_number.ensures.out_after)
          ∙ size_set x (top_value i x c.in_ok-d.d.at) a.c.at 0xFFFFFFFF (c.in_ok-f.total - c.in_ok-e.m) c.in_ok-d.k c.write_label.new.out k.same
          ∙ sym (t.same ∙ rw (b.if-exact.true, z))
      | else-exact b ↦ rw b.out-is (k.same ∙ sym (t.same ∙ rw b.if-exact.false))
    ]
    in record { carried = carried e; ahead = ahead_next k.from k.fits k.most }
