-- The heap keeps the marks, and the pass puts them in order.
use Rattle.index.proofs.Sorting.{mixed_then}
use Rattle.index.proofs.Rows.{length_rows_at}
use Rattle.index.proofs.sort.sort.Goals as goal

pub returns : goal.returns
returns c =
    let a = c.args in
    let e = c.pass.ensures in
    let m = mixed_then c.heap.ensures e.mixed in record { sorted = record { same = m.same; rising = λ k h. e.rising k (rw (length_rows_at a.n 0 c.pass.new.index) at h) }; index_unchanged = m.behind }
