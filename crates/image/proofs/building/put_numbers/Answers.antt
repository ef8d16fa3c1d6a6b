-- The record is laid, has no room, or is none.
use Rattle.wire.proofs.Kit.{sym, ap, ◌∙◌}
use Rattle.image.specs.Building.{Put}
use Rattle.image.proofs.Told.{put_next, put_stop, put_none}
use Rattle.image.proofs.building.put_numbers.Goals as goal

pub returns-in-Ok : goal.returns-in-Ok
returns-in-Ok c =
    let e = put_next _ _ _ _ (sym c.record_of.ensures ∙ c.in-Some.is) 0 0
    (rw c.in-Ok.is at c.put.ensures.image_after) in record { value = ap (λ (x : Put). x.laying) e; image_after = ap (λ (x : Put). x.image) e }

pub returns-in-Err : goal.returns-in-Err
returns-in-Err c =
    let e = put_stop _ _ _ _ (sym c.record_of.ensures ∙ c.in-Some.is) 0 0 (rw c.in-Err.is at c.put.ensures.image_after) in
    rw (c.from.ensures, c.answer.ensures.number) (record { value = ap (λ (x : Put). x.laying) e; image_after = ap (λ (x : Put). x.image) e })

pub returns-in-None : goal.returns-in-None
returns-in-None c =
    let e = put_none _ _ _ (sym c.record_of.ensures ∙ c.in-None.is) in
    rw c.from-in-None.ensures (record { value = ap (λ (x : Put). x.laying) e; image_after = ap (λ (x : Put). x.image) e })
