-- `next` meets its contract: an entry is read, and what is left comes behind it.
use Rattle.wire.proofs.Kit.{sym, ap, ◌∙◌, arith}
use Rattle.packet.specs.Code.{rest_of}
use Rattle.packet.proofs.Laws.{entry_spanned, rest_stop, rest_more}
use Rattle.packet.proofs.walk.Walk.next.Goals as goal

pub returns-in-Err : goal.returns-in-Err
returns-in-Err c =
    let a = c.args in
    let e = ap (rest_of a.s.now) c.in-At.is ∙ rest_stop a.s.now c.in-At.kind c.in-At.more c.in-At.c (sym c.in-Err.ensures) in
    record { result_value = rw e; walk_value = rw e; walk_bound = λ g. rw c.in-At.is (omega arith) }

pub returns-in-Ok : goal.returns-in-Ok
returns-in-Ok c =
    let a = c.args in
    let e = sym c.in-Ok.ensures in
    let w = entry_spanned _ a.s.now _ e in
    let r = ap (rest_of a.s.now) c.in-At.is ∙ rest_more a.s.now c.in-At.kind c.in-At.more c.in-At.c e in
    record {
      result_value = rw r;
      walk_value = rw r c.onward.ensures.result_value;
      walk_bound = λ g. rw c.in-At.is (omega (arith, c.onward.ensures.result_bound, w.begun.from, w.ends, w.within));
    }
