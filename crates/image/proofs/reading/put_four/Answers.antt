-- The numbers are laid behind one another where they all have room.
use Rattle.wire.proofs.Kit.{append_assoc, arith}
use Rattle.image.proofs.Laws.{laid_kind, laid_number, put_laid, put_full, within_next, within_stop}
use Rattle.image.proofs.reading.put_four.Goals as goal

pub returns-then-image-made : goal.returns-then-image-made
returns-then-image-made c = rw c.refuse.ensures (record { image_after = put_full _ _ _ _ _ (omega arith); within = within_stop })

pub returns-then-image-made-2 : goal.returns-then-image-made-2
returns-then-image-made-2 c = rw c.refuse-then-image-made-2.ensures (record { image_after = put_full _ _ _ _ _ (omega arith); within = within_stop })

pub returns : goal.returns
returns c =
    let a = c.args in
    let i = a.image.now in
    let m = c.args.made in
    let x0 = laid_kind i m a.kind (omega arith) (omega arith) c.write_number.ensures.out_after in
    let x1 = laid_number i m a.v a.a x0 (omega arith) c.write_number-2.ensures.out_after in
    let x2 = laid_number i m a.w a.b x1 (omega arith) c.write_number-3.ensures.out_after in
    let x3 = laid_number i m a.x a.c x2 (omega arith) c.write_number-4.ensures.out_after in
    let x4 = laid_number i m a.y a.d x3 (omega arith) c.write_number-5.ensures.out_after in record { image_after = put_laid i m _ a.place a.next.at x4 (simp append_assoc) (omega arith); within = within_next (omega arith) (omega arith) (omega arith) }
