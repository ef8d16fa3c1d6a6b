-- The marker, the length and the text are laid behind one another where they all have room.
use Rattle.wire.proofs.Kit.{sym, append-nil, arith}
use Rattle.wire.proofs.Laws.{laid_none}
use Rattle.image.specs.Record.{◌bytes◌, none}
use Rattle.image.specs.Out.{row_bytes, row_of}
use Rattle.image.proofs.Laws.{laid_number, laid_nothing, laid_same}
use Rattle.image.proofs.Pouring.{length_text, laid_row}
use Rattle.image.proofs.writing.lay_text.Goals as goal

pub returns-then-v-w : goal.returns-then-v-w
returns-then-v-w c =
    let a = c.args in
    let o = a.out.now in
    let t = a.text.now in
    let r = row_of (a.v bytes a.mark) (a.w bytes a.n) none a.place a.n in
    let k = length_text t r c.requires.2 in
    let x = laid_number o a.at a.v a.mark (laid_nothing o a.at) (omega arith) c.write_number.ensures.out_after in
    let y = laid_number o a.at a.w a.n x (omega arith) c.write_number-then-v-w.ensures.out_after in
    laid_row t r a.at o (laid_same o a.at (sym (append-nil _)) y) (rw (← c.part.ensures.result_value) c.write_bytes.ensures.out_after) (omega arith)

pub returns-else-v-w : goal.returns-else-v-w
returns-else-v-w c =
    let a = c.args in
    let r = row_of (a.v bytes a.mark) (a.w bytes a.n) none a.place a.n in
    let k = length_text (a.text.now) r c.requires.2 in
    sym (laid_none (row_bytes (a.text.now) r) a.at (a.out.now) (omega arith))

pub returns-else-at-out : goal.returns-else-at-out
returns-else-at-out c =
    let a = c.args in
    sym (laid_none (row_bytes (a.text.now) (row_of (a.v bytes a.mark) (a.w bytes a.n) none a.place a.n)) a.at (a.out.now) (omega arith))
