-- The fields and the text are laid behind one another where they all have room.
use Rattle.wire.proofs.Kit.{refl, sym, [], add-zero, arith}
use Rattle.wire.proofs.Laws.{laid_none}
use Rattle.image.specs.Out.{row_bytes}
use Rattle.image.proofs.Laws.{laid_field, Laid}
use Rattle.image.proofs.Pouring.{length_row, laid_row}
use Rattle.image.proofs.writing.lay_row.Goals as goal

pub lay-i-requires : goal.lay-i-requires
lay-i-requires c = omega (arith, length_row (c.args.text.now) c.args.r)

pub lay-j-requires : goal.lay-j-requires
lay-j-requires c = omega (arith, length_row (c.args.text.now) c.args.r)

pub lay-k-requires : goal.lay-k-requires
lay-k-requires c = omega (arith, length_row (c.args.text.now) c.args.r)

pub returns-then-size-out : goal.returns-then-size-out
returns-then-size-out c =
    let a = c.args in
    let t = a.text.now in
    let r = c.args.r in
    let o = a.out.now in
    let x0 : Laid o a.at [] a.at o = record { place = sym (add-zero a.at); stored = refl } in
    let x1 = laid_field o a.at r.mark x0 c.lay-i.ensures.value c.lay-i.ensures.image_after in
    let x2 = laid_field o a.at r.a x1 c.lay-j.ensures.value c.lay-j.ensures.image_after in
    let x3 = laid_field o a.at r.b x2 c.lay-k.ensures.value c.lay-k.ensures.image_after in
    laid_row t r a.at o x3 (rw (← c.part.ensures.result_value) c.write_bytes.ensures.out_after) (omega arith)

pub returns-else-size-out : goal.returns-else-size-out
returns-else-size-out c =
    let a = c.args in
    sym (laid_none (row_bytes (a.text.now) a.r) a.at (a.out.now) (omega arith))

pub returns-else-at-out : goal.returns-else-at-out
returns-else-at-out c =
    let a = c.args in
    sym (laid_none (row_bytes (a.text.now) a.r) a.at (a.out.now) (omega arith))
