-- A key's record stands there, or it is not whole, or it is another's, or none.
use Rattle.index.proofs.Finding.{key_none, key_there, key_cut, key_other}
use Rattle.wire.proofs.Kit.{sym, ◌∙◌}
use Rattle.index.proofs.order.key_text.Goals as goal
use Rattle.index.proofs.order.key_text.Goals.{in-Ok+then-kind-eq-KEY+in_default-short_at, in-Ok+else-kind-eq-KEY, in_default}

pub returns-in-Ok-short_at : goal.returns-in-Ok-short_at
returns-in-Ok-short_at c =
    let a = c.args in
    c.part.ensures.result_value
    ∙ sym (key_there a.image.now a.text.now a.key _ _ (sym c.be_u8.ensures ∙ c.in-Ok.is) c.if-kind-eq-KEY.true _ _ (sym c.short_at.ensures ∙ c.in-Ok-short_at.is))

pub returns : goal.returns
returns c =
    let a = c.args in
    sym (elim c.match-be_u8.branch [
      | in-Ok+then-kind-eq-KEY+in_default-short_at w ↦ key_cut a.image.now a.text.now a.key _ _ (sym c.be_u8.ensures ∙ w.in-Ok.is) w.if-kind-eq-KEY.true _ (sym w.short_at.ensures ∙ w.in_default-short_at.is)
      | in-Ok+else-kind-eq-KEY w ↦ key_other a.image.now a.text.now a.key _ _ (sym c.be_u8.ensures ∙ w.in-Ok.is) (λ n. (c.type_inv.image n).fits) w.if-kind-eq-KEY.false
      | in_default w ↦ key_none a.image.now a.text.now a.key _ (sym c.be_u8.ensures ∙ w.in_default.is)
    ])
