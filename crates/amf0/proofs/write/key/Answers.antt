-- The key behind its length.
use Rattle.wire.proofs.Kit.{refl, arith}
use Rattle.image.specs.declared.record.Record.TheVariants.{Key}
use Rattle.image.specs.Taking.{body_at, short}
use Rattle.amf0.proofs.Begun.{paired_key, paired_key_halt, paired_unread}
use Rattle.std.proofs.Common.{rules}
use Rattle.amf0.proofs.write.key.Goals as goal

pub returns-in_err-t : goal.returns-in_err-t
unfolding body_at short
returns-in_err-t c = paired_unread _ _ _ _ _ c.from_residual.ensures.1 c.in_err-t.ensures (λ e. search rules)

pub returns-in_err-g : goal.returns-in_err-g
unfolding body_at short
returns-in_err-g c =
    let t = c.in_ok-t.t in
    paired_key_halt _ _ _ _ (Key t.place t.length) _ _ c.from_residual-in_err-g.ensures.1 (search rules) refl c.requires.1 c.in_err-g.ensures.out_after

pub returns : goal.returns
unfolding body_at short
returns c =
    let t = c.in_ok-t.t in
    paired_key c.args.text.now c.args.at c.args.count c.args.out.now (Key t.place t.length) _ {t = body_at 0x20 c.args.image.now c.args.c.at} (search rules) refl c.requires.1 (omega arith) c.in_ok-g.ensures.out_after c.in_ok-g.ensures.grown
