-- The record lies as its layout says.
use Rattle.wire.proofs.Kit.{refl}
use Rattle.image.proofs.Laws.{put_record}
use Rattle.image.proofs.reading.put_end.Goals as goal

pub returns : goal.returns
returns c = let both = put_record _ _ _ _ _ _ refl (c.put_bare.ensures.image_after, c.put_bare.ensures.within) in record { image_after = both.0; within = both.1 }
