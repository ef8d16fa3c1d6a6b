-- The end is put out.
use Rattle.wire.proofs.Kit.{refl, arith}
use Rattle.image.specs.declared.record.Record.TheVariants.{ObjectEnd}
use Rattle.amf0.proofs.Begun.{paired_end, paired_end_halt}
use Rattle.amf0.proofs.write.end.Goals as goal

pub returns-in_err-g : goal.returns-in_err-g
returns-in_err-g c = λ text at. paired_end_halt text at _ _ ObjectEnd _ _ c.from_residual.ensures.1 refl refl c.requires (c.in_err-g.ensures.by_index text at)

pub returns : goal.returns
returns c = λ text at. paired_end text at _ _ ObjectEnd _ refl refl c.requires (omega arith) (c.in_ok-g.ensures.by_index text at) c.in_ok-g.ensures.grown
