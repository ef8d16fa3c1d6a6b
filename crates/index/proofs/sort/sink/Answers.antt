-- The mark that is held sinks; where it is put back, those up to it are in order.
use Rattle.index.proofs.Ordering.{total}
use Rattle.index.proofs.Sorting.{sink_starts, sink_goes, sink_stays}
use Rattle.index.proofs.Rows.{length_rows_at, rows_get, rows_set, drop_past}
use Rattle.index.specs.Order.{before}
use Rattle.index.specs.Mark.{rows, mark_bytes, nothing}
use Rattle.std.specs.Prelude.{◌≡◌, ◌-◌, ◌*◌, ◌≤◌, ◌<◌}
use Rattle.wire.proofs.Kit.{arith, false, get_or, refl, sym, ◌∙◌}
use Rattle.index.proofs.sort.sink.Goals.{else-loop-j-test, then-loop-j-test+then-not-sooner}
use Rattle.index.proofs.sort.sink.Goals as goal

pub loop-j-init : goal.loop-j-init
loop-j-init c =
    let a = c.before.args in
    let p = c.before.requires in
    let s = a.index.now in
    (refl, rw (c.mark_at-held.ensures.0 ∙ sym (rows_get a.n s a.i p.1)) (sink_starts (before a.image.now a.text.now) (total a.image.now a.text.now) a.i (rows a.n s) p.2))

pub loop-j-preserved : goal.loop-j-preserved
loop-j-preserved c =
    let a = c.args in
    let p = c.requires in
    let l = c.loop-j in
    let s = c.loop-j.index in
    let m = c.mark_at-m in
    let low : l.j ≤ a.i = l.invariant.1.low in
    let at_m = m.ensures.0 ∙ sym (rows_get a.n s (l.j - 1) (omega arith)) in (
      rw c.put_mark.ensures (drop_past s (13 * l.j) (13 * a.n) (mark_bytes m.result) (omega arith) (omega arith) ∙ l.invariant.0),
      rw (c.put_mark.ensures, rows_set a.n s l.j m.result (omega arith) (omega arith) m.ensures.1, at_m)
          (sink_goes (before a.image.now a.text.now) (total a.image.now a.text.now) a.i l.j c.mark_at-held.result _ _ l.invariant.1 (rw (length_rows_at a.n 0 s) (omega arith)) c.loop-j-test.true
          (rw at_m at (sym c.sooner.ensures ∙ c.if-not-sooner.false))),
    )

pub returns : goal.returns
returns c =
    let a = c.args in
    let p = c.requires in
    let l = c.loop-j in
    let s = c.loop-j.index in
    let h = c.mark_at-held in
    let low : l.j ≤ a.i = l.invariant.1.low in
    let set = rows_set a.n s l.j h.result (omega arith) (omega arith) h.ensures.1 in
    let stays : 0 < l.j → before a.image.now a.text.now h.result (get_or (rows a.n s) (l.j - 1) nothing) ≡ false =
    elim c.loop-j-test.branch [
      | else-loop-j-test w ↦ λ q. absurd (omega (arith, w.loop-j-test.false))
      | then-loop-j-test+then-not-sooner w ↦ λ q. rw (w.mark_at-m.ensures.0 ∙ sym (rows_get a.n s (l.j - 1) (omega arith))) at (sym w.sooner.ensures ∙ w.if-not-sooner.true)
    ] in
    record {
      mixed = record {
        same = rw (c.put_mark-2.ensures, set) l.invariant.1.same;
        behind = rw c.put_mark-2.ensures (drop_past s (13 * l.j) (13 * a.n) (mark_bytes h.result) (omega arith) (omega arith) ∙ l.invariant.0);
      };
      rising = rw (c.put_mark-2.ensures, set) (sink_stays (before a.image.now a.text.now) (total a.image.now a.text.now) a.i l.j h.result _ _ l.invariant.1 (rw (length_rows_at a.n 0 s) (omega arith)) stays);
    }
