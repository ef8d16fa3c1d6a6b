-- The name behind its length and the marker, and then pairs.
use Rattle.wire.proofs.Kit.{refl}
use Rattle.image.specs.declared.record.Record.TheVariants.{TypedObject}
use Rattle.image.specs.Taking.{body_at, short}
use Rattle.amf0.specs.declared.write.Rest.TheVariants.{Pairs}
use Rattle.amf0.proofs.Begun.{owned_text, owned_unread}
use Rattle.std.proofs.Common.{rules}
use Rattle.amf0.proofs.write.typed_object.Goals as goal

pub returns-in_err-t : goal.returns-in_err-t
unfolding body_at short
returns-in_err-t c = owned_unread _ _ _ _ _ c.from_residual.ensures.1 c.in_err-t.ensures (λ e. search rules)

pub returns : goal.returns
unfolding body_at short
returns c = let t = c.in_ok-t.t in owned_text _ _ _ _ (TypedObject t.place t.length) Pairs c.then.ensures (search rules) refl c.requires c.emit_text.ensures.out_after c.emit_text.ensures.grown
