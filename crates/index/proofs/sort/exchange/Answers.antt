-- The two stores exchange the two marks.
use Rattle.index.proofs.Sorting.{mixed_exchange}
use Rattle.index.proofs.sort.exchange.Goals as goal

pub returns : goal.returns
returns c =
    λ n h g.
    let a = c.before.before.args in
    let p = c.before.before.requires in
    rw (c.put_mark-2.ensures, c.put_mark.ensures)
    (mixed_exchange n a.index.now a.i a.j _ _ p.0 h g c.mark_at-a.ensures.0 c.mark_at-b.ensures.0 c.mark_at-a.ensures.1 c.mark_at-b.ensures.1)
