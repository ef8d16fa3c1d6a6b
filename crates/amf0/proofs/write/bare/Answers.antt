-- The marker alone.
use Rattle.wire.proofs.Kit.{refl}
use Rattle.amf0.proofs.Begun.{owned_numbers}
use Rattle.amf0.proofs.write.bare.Goals as goal

pub returns : goal.returns
returns c = λ text x at shaped. owned_numbers text _ _ _ x c.args.rest c.then.ensures refl shaped c.requires c.emit_numbers.ensures.by_index c.emit_numbers.ensures.grown
