-- A kind that is no byte; else the kind's record, and whether the numbers are its own.
use Rattle.std.specs.Prelude.{◌∷◌}
use Rattle.wire.proofs.Kit.{[], sym, ◌∙◌, arith}
use Rattle.image.specs.Building.{holders, holder_of, record_of}
use Rattle.image.proofs.Told.{sure_yes, sure_no, no_kind}
use Rattle.image.proofs.building.told_of.Goals as goal

pub returns-then-kind-gt255 : goal.returns-then-kind-gt255
unfolding record_of holder_of
returns-then-kind-gt255 c =
    let x = c.args in
    rw (no_kind (holders x.a x.b x.c x.d) x.kind (omega arith))

pub returns-then-has : goal.returns-then-has
unfolding record_of
returns-then-has c =
    sure_yes (c.args.kind ∷ c.args.a ∷ c.args.b ∷ c.args.c ∷ c.args.d ∷ []) _ _ ((sym c.in_ok-r.ensures))
    c.layout_of.ensures (sym c.has.ensures ∙ c.if-has.true)

pub returns-else-has : goal.returns-else-has
unfolding record_of
returns-else-has c =
    sure_no (c.args.kind ∷ c.args.a ∷ c.args.b ∷ c.args.c ∷ c.args.d ∷ []) _ _ ((sym c.in_ok-r.ensures))
    c.layout_of.ensures (sym c.has.ensures ∙ c.if-has.false)
