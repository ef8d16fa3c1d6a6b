-- `cut` meets its contract. The invariant: the whole cut is the entries in the list, and then what is left from here.
use Rattle.std.specs.Prelude.{◌≡◌}
use Rattle.std.proofs.lemmas.List.{set-get_or}
use Rattle.wire.proofs.Kit.{sym, ◌∙◌, arith, length}
use Rattle.packet.specs.Entry.{list_of}
use Rattle.packet.specs.Code.{rest_of}
use Rattle.packet.proofs.Laws.{Left, left_full, left_none, listing}
use Rattle.packet.proofs.entry.cut.Goals.{else-loop-place-test, then-loop-place-test+in_default}
use Rattle.packet.proofs.entry.cut.Goals as goal

pub returns : goal.returns
unfolding list_of
returns c =
    let s = c.args.packet.now in
    let l = c.loop-place in
    let m = c.loop-place-test.list in
    let t = rest_of s c.loop-place-test.w in
    let k : (m ≡ l.list) × Left l.n (length l.list) (rest_of s l.w) t =
    elim c.loop-place-test.branch [
      | else-loop-place-test b ↦ (b.list-is, rw b.w-is (left_full l.n (length l.list) _ (omega (arith, l.invariant.0, l.auto, b.loop-place-test.false))))
      | then-loop-place-test+in_default b ↦ (b.list-is ∙ set-get_or _ _ _, rw b.w-is (left_none l.n (length l.list) _ (sym b.next.ensures.result_value ∙ b.in_default.is) b.next.ensures.walk_value))
    ]
    in
    let g = listing l.list l.n t (omega (arith, l.invariant.0, l.auto)) k.1.1 in
    rw (sym l.auto.list, l.invariant.1, k.1.0) (record { value = c.counted-r.ensures ∙ g.cutting; list_after = (rw k.0 at c.clear.ensures) ∙ rw c.counted-r.ensures g.left })
