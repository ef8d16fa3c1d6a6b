-- `parse_span` meets its contract: the value reader on the bytes of the span, its step judged.
use Rattle.std.specs.Prelude.{◌+◌, ◌≤◌}
use Rattle.wire.proofs.Kit.{sym, ap, ◌∙◌, add-sub_cancel_left, arith, length, leb-true}
use Rattle.wire.specs.Limit.{bytes}
use Rattle.image.specs.Due.{Step}
use Rattle.image.specs.Whole.{finished}
use Rattle.amf0.specs.Span.{span_at}
use Rattle.packet.proofs.Laws.{span_answer, span_read}
use Rattle.packet.proofs.entry.parse_span.Goals as goal

pub returns-then-inside : goal.returns-then-inside
returns-then-inside c =
    let a = c.args in
    let s = a.packet.now in
    let p = span_at a.place a.size in
    let h : a.place + a.size ≤ length s = leb-true _ _ (sym c.inside.ensures ∙ c.if-inside.true) in
    let v = c.parse_value-x in
    let l : length s ≤ bytes = omega arith in
    let j = rw add-sub_cancel_left at c.judged.ensures in
    let w =
    span_read s p (length a.image.now) l h
    ∙ sym (ap (λ (y : Step). finished y v.new.image) j ∙ span_answer s a.image.now v.new.image p v.result l h (rw add-sub_cancel_left at v.ensures.image_after))
    in record { value = rw w c.finish-then-inside.ensures.value; image_after = rw (w, sym v.auto.image) c.finish-then-inside.ensures.image_after }
