-- No mark is before the first that is past; or one is, and it leads on or not.
use Rattle.index.proofs.Finding.{last_none, last_some}
use Rattle.index.proofs.Rows.{length_rows_at, rows_get}
use Rattle.index.specs.Mark.{rows}
use Rattle.std.specs.Prelude.{◌-◌, ◌/◌}
use Rattle.wire.proofs.Kit.{length, arith, sym, ◌∙◌}
use Rattle.index.proofs.find.last.Goals as goal

pub returns-then-n-eq0 : goal.returns-then-n-eq0
returns-then-n-eq0 c =
    let a = c.args in
    last_none a.image.now a.text.now (rows (length a.index.now / 13) a.index.now) a.container a.key.now (length a.index.now / 13) c.upper-n.result (length_rows_at (length a.index.now / 13) 0 a.index.now) c.upper-n.ensures.0 c.if-n-eq0.true

pub returns : goal.returns
returns c =
    let a = c.args in
    let m = c.mark_at-m.ensures.0 ∙ sym (rows_get (length a.index.now / 13) a.index.now (c.upper-n.result - 1) (omega arith)) in
    c.then_some.ensures
    ∙ last_some a.image.now a.text.now (rows (length a.index.now / 13) a.index.now) a.container a.key.now (length a.index.now / 13) c.upper-n.result (length_rows_at (length a.index.now / 13) 0 a.index.now) c.upper-n.ensures.0
    c.if-n-eq0.false c.mark_at-m.result m c.leads.result c.leads.ensures
