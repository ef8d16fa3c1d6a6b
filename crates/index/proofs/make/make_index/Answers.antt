-- The sizes, the walk, the room; and then the marks are sorted and what is behind them is cleared.
use Rattle.index.proofs.Making.{text_over, image_over, stopped, counted, full, fitted, held, nothing_held, made}
use Rattle.index.proofs.Rows.{length_rows_at}
use Rattle.index.specs.Index.{keys_of, indexing}
use Rattle.index.specs.declared.make.Indexing.{Indexing}
use Rattle.image.specs.Out.{bytes as bytes_out}
use Rattle.image.proofs.Pouring.{pour_onto}
use Rattle.std.specs.Prelude.{◌/◌}
use Rattle.wire.proofs.Kit.{length, arith, sym, ap, ◌∙◌, ℕ}
use Rattle.index.proofs.make.make_index.Goals as goal

pub returns-then-text-gt-BYTES-clause-holds : goal.returns-then-text-gt-BYTES-clause-holds
returns-then-text-gt-BYTES-clause-holds c =
    let a = c.args in
    nothing_held a.image.now a.text.now _ _ _ (text_over a.image.now a.text.now (length a.index.now) c.if-text-gt-BYTES.true) c.refused.auto.index c.refused.ensures.index_after

pub returns-then-image-gt-IMAGE-clause-holds : goal.returns-then-image-gt-IMAGE-clause-holds
returns-then-image-gt-IMAGE-clause-holds c =
    let a = c.args in
    nothing_held a.image.now a.text.now _ _ _ (image_over a.image.now a.text.now (length a.index.now) c.if-text-gt-BYTES.false c.if-image-gt-IMAGE.true) c.refused-then-image-gt-IMAGE.auto.index c.refused-then-image-gt-IMAGE.ensures.index_after

pub returns-then-index-n : goal.returns-then-index-n
returns-then-index-n c =
    let a = c.args in
    let e = full a.image.now a.text.now (length a.index.now) c.if-text-gt-BYTES.false c.if-image-gt-IMAGE.false a.index.now (rw c.in-Ok.is at c.gather.ensures) (rw c.gather.auto.index at c.if-index-n.true) in
    record {
      value = c.refused-then-index-n.ensures.value ∙ ap indexing (sym e);
      holds = nothing_held a.image.now a.text.now _ _ _ e c.refused-then-index-n.auto.index c.refused-then-index-n.ensures.index_after;
    }

pub returns-in-Err : goal.returns-in-Err
returns-in-Err c =
    let a = c.args in
    let of : ℕ → ℕ → Indexing = λ n x. record { answer = n; count = x } in
    let e = stopped a.image.now a.text.now (length a.index.now) c.if-text-gt-BYTES.false c.if-image-gt-IMAGE.false a.index.now (rw c.in-Err.is at c.gather.ensures) in
    record {
      value = c.refused-in-Err.ensures.value ∙ ap (λ (n : ℕ). of n 0) c.answer.ensures.number ∙ ap indexing (sym e);
      holds = nothing_held a.image.now a.text.now _ _ _ e c.refused-in-Err.auto.index c.refused-in-Err.ensures.index_after;
    }

pub returns-else-index-n : goal.returns-else-index-n
returns-else-index-n c =
    let a = c.args in
    let y = rw c.in-Ok.is at c.gather.ensures in
    let t = c.if-text-gt-BYTES.false in
    let i = c.if-image-gt-IMAGE.false in
    let m = c.gather.auto.index in
    let small = rw m at c.if-index-n.false in
    let e = fitted a.image.now a.text.now (length a.index.now) t i a.index.now y small in
    let b = bytes_out (keys_of a.image.now a.text.now) in
    let z = counted a.image.now a.text.now (length a.index.now) t i a.index.now y in
    let o = pour_onto (keys_of a.image.now a.text.now) a.index.now y (omega (arith, z, small)) in
    let s = c.sort.new.index in
    let l = c.sort.auto.index ∙ m in
    let k = ap (λ (x : ℕ). x / 13) z in
    let of : ℕ → Indexing = λ x. record { answer = 0; count = x } in record {
      value = ap of (k ∙ sym (length_rows_at (length b / 13) 0 b)) ∙ ap indexing (sym e);
      holds = held a.image.now a.text.now _ e
          (made a.image.now a.text.now b _ _ s _ _ k o (λ n. (c.type_inv.index n).fits) (omega (arith, l, small)) c.sort.ensures.sorted c.clear.auto.image c.clear.ensures);
    }
