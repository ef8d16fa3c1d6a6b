-- The number behind the marker.
use Rattle.wire.proofs.Kit.{refl}
use Rattle.image.specs.declared.record.Record.TheVariants.{Reference}
use Rattle.image.specs.Taking.{body_at, u16}
use Rattle.amf0.specs.declared.write.Rest.TheVariants.{Nothing}
use Rattle.amf0.proofs.Begun.{owned_numbers, owned_unread}
use Rattle.std.proofs.Common.{rules}
use Rattle.amf0.proofs.write.reference.Goals as goal

pub returns-in_err-n : goal.returns-in_err-n
unfolding body_at u16
returns-in_err-n c = λ text. owned_unread text _ _ _ _ c.from_residual.ensures.1 c.in_err-n.ensures (λ e. search rules)

pub returns : goal.returns
unfolding body_at u16
returns c = λ text. owned_numbers text _ _ _ (Reference c.in_ok-n.n) Nothing c.then.ensures (search rules) refl c.requires c.emit_numbers.ensures.by_index c.emit_numbers.ensures.grown
