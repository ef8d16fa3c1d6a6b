-- The numbers are laid behind one another where they all have room.
use Rattle.wire.proofs.Kit.{sym, append_assoc, arith}
use Rattle.wire.proofs.Laws.{laid_none}
use Rattle.image.specs.Record.{◌bytes◌, field_bytes}
use Rattle.image.specs.Out.{number_bytes}
use Rattle.image.proofs.Laws.{laid_number, laid_nothing, laid_same, laid_all}
use Rattle.image.proofs.Pouring.{length_numbers}
use Rattle.image.proofs.writing.lay_numbers.Goals as goal

pub returns-then-u-v : goal.returns-then-u-v
returns-then-u-v c =
    let a = c.args in
    let o = a.out.now in
    let f = a.u bytes a.l in
    let g = a.v bytes a.m in
    let h = a.w bytes a.n in
    let k = length_numbers f g h in
    let x = laid_number o a.at a.u a.l (laid_nothing o a.at) (omega arith) c.write_number.ensures.out_after in
    let y = laid_number o a.at a.v a.m x (omega arith) c.write_number-then-u-v.ensures.out_after in
    let z = laid_number o a.at a.w a.n y (omega arith) c.write_number-then-u-v-2.ensures.out_after in
    laid_all o a.at {x = number_bytes f g h} (laid_same o a.at (append_assoc (field_bytes f) (field_bytes g) (field_bytes h)) z) (omega arith)

pub returns-else-u-v : goal.returns-else-u-v
returns-else-u-v c =
    let a = c.args in
    let k = length_numbers (a.u bytes a.l) (a.v bytes a.m) (a.w bytes a.n) in
    sym (laid_none (number_bytes (a.u bytes a.l) (a.v bytes a.m) (a.w bytes a.n)) a.at (a.out.now) (omega arith))

pub returns-else-at-out : goal.returns-else-at-out
returns-else-at-out c =
    let a = c.args in
    sym (laid_none (number_bytes (a.u bytes a.l) (a.v bytes a.m) (a.w bytes a.n)) a.at (a.out.now) (omega arith))
