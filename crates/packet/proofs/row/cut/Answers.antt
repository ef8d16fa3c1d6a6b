-- `cut` meets its contract. The invariant: the whole cut is the entries whose numbers are in the row, and then what is left from here.
use Rattle.std.specs.Prelude.{◌+◌, ◌*◌, ◌/◌, ◌≤◌}
use Rattle.wire.proofs.Kit.{sym, ◌∙◌, arith, length}
use Rattle.packet.specs.Entry.{list_of}
use Rattle.packet.specs.Code.{rest_of}
use Rattle.packet.proofs.Laws.{Left, left_full, left_none}
use Rattle.packet.proofs.Rows.{rowed_none, rowed_more, rowing}
use Rattle.packet.proofs.row.cut.Goals.{else-loop-n-test, then-loop-n-test+in_default}
use Rattle.packet.proofs.row.cut.Goals as goal

pub loop-n-init : goal.loop-n-init
loop-n-init c =
    let a = c.args in
    (omega arith, rowed_none a.row.now (rest_of a.packet.now c.begin-w.result) c.begin-w.ensures)

pub loop-n-preserved : goal.loop-n-preserved
loop-n-preserved c =
    let l = c.loop-n in
    let h : 8 * l.n + 8 ≤ length l.row = omega (arith, c.loop-n-test.true, l.auto.row) in
    (omega arith, rw (c.put.ensures, c.next.ensures.walk_value) (rowed_more l.row l.n (rest_of c.args.packet.now l.w) h (sym c.next.ensures.result_value ∙ c.in-Some.is) l.invariant.1))

pub returns : goal.returns
unfolding list_of
returns c =
    let s = c.args.packet.now in
    let l = c.loop-n in
    let t = rest_of s c.loop-n-test.w in
    let room = length l.row / 8 in
    let k : Left l.n room (rest_of s l.w) t =
    elim c.loop-n-test.branch [
      | else-loop-n-test b ↦ rw b.w-is (left_full l.n room _ (omega (arith, l.auto.row)))
      | then-loop-n-test+in_default b ↦ rw b.w-is (left_none l.n room _ (sym b.next.ensures.result_value ∙ b.in_default.is) b.next.ensures.walk_value)
    ]
    in
    let g = rowing l.row l.n room t (omega (arith, l.auto.row, l.invariant.0)) k.1 (rw k.0 at l.invariant.1) in
    rw (sym l.auto.row) (record { value = c.counted-r.ensures ∙ g.cutting; row_after = c.clear.ensures ∙ rw c.counted-r.ensures g.left })
