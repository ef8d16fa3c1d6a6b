-- The kind, and then the own bytes of its values.
use Rattle.wire.proofs.Kit.{refl}
use Rattle.image.specs.declared.record.Record.TheVariants.{Object, Null, Undefined, Unsupported}
use Rattle.image.specs.Taking.{body_at, record_at}
use Rattle.amf0.proofs.Begun.{owned_other, owned_unread}
use Rattle.std.proofs.Common.{rules, tests}
use Rattle.amf0.proofs.write.own.Goals as goal

pub returns-in_err-kind : goal.returns-in_err-kind
unfolding record_at
returns-in_err-kind c = owned_unread _ _ _ _ _ c.from_residual.ensures.1 c.in_err-kind.ensures (λ e. search rules)

pub returns-in-3 : goal.returns-in-3
unfolding body_at record_at
returns-in-3 c = search (rules, c.bare.ensures c.args.text.now Object c.args.c.at refl)

pub returns-in-5 : goal.returns-in-5
unfolding body_at record_at
returns-in-5 c = search (rules, c.bare-in-5.ensures c.args.text.now Null c.args.c.at refl)

pub returns-in-6 : goal.returns-in-6
unfolding body_at record_at
returns-in-6 c = search (rules, c.bare-in-6.ensures c.args.text.now Undefined c.args.c.at refl)

pub returns-in-13 : goal.returns-in-13
unfolding body_at record_at
returns-in-13 c = search (rules, c.bare-in-13.ensures c.args.text.now Unsupported c.args.c.at refl)

pub returns-in_default : goal.returns-in_default
returns-in_default c =
    let k = c.in_ok-kind in
    owned_other _ _ _ _ _ (λ n. (c.type_inv.image n).fits) k.kind k.d (search rules) _ c.refuse.ensures (search (tests, rules))
