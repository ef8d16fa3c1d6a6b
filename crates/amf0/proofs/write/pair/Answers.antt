-- A key or the end, by the kind.
use Rattle.wire.specs.Field.{u8_at}
use Rattle.image.specs.Taking.{body_at, record_at}
use Rattle.amf0.proofs.Begun.{paired_other, paired_unread}
use Rattle.std.proofs.Common.{rules, tests}
use Rattle.amf0.proofs.write.pair.Goals as goal

pub returns-in_err-kind : goal.returns-in_err-kind
unfolding record_at
returns-in_err-kind c = paired_unread _ _ _ _ _ c.from_residual.ensures.1 c.in_err-kind.ensures (λ e. search rules)

pub returns-in-9 : goal.returns-in-9
unfolding body_at record_at u8_at
returns-in-9 c = search (rules, c.end.ensures c.args.text.now c.args.c.at)

pub returns-in_default : goal.returns-in_default
returns-in_default c =
    let k = c.in_ok-kind in
    paired_other _ _ _ _ _ (λ n. (c.type_inv.image n).fits) k.kind k.d (search rules) _ c.refuse.ensures (λ e. search (tests, rules)) (λ e. search (tests, rules))
