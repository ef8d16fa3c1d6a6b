-- The byte behind the marker.
use Rattle.wire.proofs.Kit.{refl}
use Rattle.image.specs.declared.record.Record.TheVariants.{Boolean}
use Rattle.image.specs.Taking.{body_at, flag}
use Rattle.amf0.specs.declared.write.Rest.TheVariants.{Nothing}
use Rattle.amf0.proofs.Begun.{owned_numbers, owned_unread}
use Rattle.std.proofs.Common.{rules}
use Rattle.amf0.proofs.write.boolean.Goals as goal

pub returns-in_err-b : goal.returns-in_err-b
unfolding body_at flag
returns-in_err-b c = λ text. owned_unread text _ _ _ _ c.from_residual.ensures.1 c.in_err-b.ensures (λ e. search rules)

pub returns : goal.returns
unfolding body_at flag
returns c = λ text. owned_numbers text _ _ _ (Boolean c.in_ok-b.b) Nothing c.then.ensures (search rules) refl c.requires (rw c.bit.ensures at c.emit_numbers.ensures.by_index) c.emit_numbers.ensures.grown
