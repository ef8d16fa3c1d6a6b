-- The text behind its length and the marker, which go by the length.
use Rattle.image.specs.declared.record.Record.TheVariants.{Text}
use Rattle.image.specs.Taking.{body_at, long}
use Rattle.amf0.specs.declared.write.Rest.TheVariants.{Nothing}
use Rattle.amf0.specs.Standard.{short_most}
use Rattle.amf0.proofs.Begun.{owned_text, owned_unread}
use Rattle.wire.proofs.Laws.{pick_yes, pick_no}
use Rattle.std.proofs.Common.{rules}
use Rattle.amf0.proofs.write.string.Goals as goal

pub returns-in_err-t : goal.returns-in_err-t
unfolding body_at long
returns-in_err-t c = owned_unread _ _ _ _ _ c.from_residual.ensures.1 c.in_err-t.ensures (λ e. search rules)

pub returns-then-t-le-SHORT : goal.returns-then-t-le-SHORT
unfolding body_at long
returns-then-t-le-SHORT c =
    let t = c.in_ok-t.t in
    owned_text _ _ _ _ (Text t.place t.length) Nothing c.then.ensures (search rules) (pick_yes t.length short_most _ _ c.if-t-le-SHORT.true) c.requires c.emit_text.ensures.out_after c.emit_text.ensures.grown

pub returns-else-t-le-SHORT : goal.returns-else-t-le-SHORT
unfolding body_at long
returns-else-t-le-SHORT c =
    let t = c.in_ok-t.t in
    owned_text _ _ _ _ (Text t.place t.length) Nothing c.then-else-t-le-SHORT.ensures (search rules) (pick_no t.length short_most _ _ c.if-t-le-SHORT.false) c.requires c.emit_text-else-t-le-SHORT.ensures.out_after c.emit_text-else-t-le-SHORT.ensures.grown
