-- The eight bytes and the zone behind the marker.
use Rattle.wire.proofs.Kit.{refl}
use Rattle.image.specs.declared.record.Record.TheVariants.{Date}
use Rattle.image.specs.Taking.{body_at, u64, flag, u16, zoned}
use Rattle.amf0.specs.declared.write.Rest.TheVariants.{Nothing}
use Rattle.amf0.proofs.Begun.{owned_numbers, owned_bad, owned_unread}
use Rattle.std.proofs.Common.{rules}
use Rattle.amf0.proofs.write.date.Goals as goal

pub returns-in_err-n : goal.returns-in_err-n
unfolding body_at u64 flag u16
returns-in_err-n c = λ text. owned_unread text _ _ _ _ c.from_residual.ensures.1 c.in_err-n.ensures (λ e. search rules)

pub returns-in_err-present : goal.returns-in_err-present
unfolding body_at u64 flag u16
returns-in_err-present c = λ text. owned_unread text _ _ _ _ c.from_residual-in_err-present.ensures.1 c.in_err-present.ensures (λ e. search rules)

pub returns-in_err-zone : goal.returns-in_err-zone
unfolding body_at u64 flag u16
returns-in_err-zone c = λ text. owned_unread text _ _ _ _ c.from_residual-in_err-zone.ensures.1 c.in_err-zone.ensures (λ e. search rules)

pub returns-else-zone_fits : goal.returns-else-zone_fits
unfolding body_at u64 flag u16 zoned
returns-else-zone_fits c = λ text. owned_bad text _ _ _ _ c.refuse.ensures (search rules)

pub returns-then-zone_fits : goal.returns-then-zone_fits
unfolding body_at u64 flag u16 zoned
returns-then-zone_fits c = λ text. owned_numbers text _ _ _ (Date c.in_ok-n.n c.in_ok-present.present c.in_ok-zone.zone) Nothing c.then.ensures (search rules) refl c.requires c.emit_numbers.ensures.by_index c.emit_numbers.ensures.grown
