-- `after` meets its contract: what the first byte leaves to check, the steps behind it check.
use Rattle.wire.proofs.Kit.{◌∙◌, arith}
use Rattle.wire.proofs.Steps.{ends_lead}
use Rattle.wire.proofs.utf8.after.Goals as goal

pub returns-in_ok-tail-in-Two : goal.returns-in_ok-tail-in-Two
returns-in_ok-tail-in-Two c =
    let t = c.in_ok-tail-in-Two.ensures in
    let a = t.ahead c.args.i (omega arith) in
    let o = c.onward.ensures in
    record {
      same = ends_lead _ _ c.requires (rw c.in-Two.is at c.in_ok-lead_of.ensures) ∙ t.same _ ∙ o.same;
      ahead = o.ahead _ a.0 a.1;
    }

pub returns-in_ok-tail-in-Three : goal.returns-in_ok-tail-in-Three
returns-in_ok-tail-in-Three c =
    let t = c.in_ok-over-in-Three.ensures in
    let a = t.ahead c.args.i (omega arith) in
    let u = c.in_ok-tail-in-Three.ensures in
    let b = u.ahead c.args.i (omega arith) in
    let o = c.onward-in-Three.ensures in
    record {
      same = ends_lead _ _ c.requires (rw c.in-Three.is at c.in_ok-lead_of.ensures) ∙ t.same _ ∙ u.same _ ∙ o.same;
      ahead = o.ahead _ b.0 b.1;
    }

pub returns-in_ok-tail-in-Four : goal.returns-in_ok-tail-in-Four
returns-in_ok-tail-in-Four c =
    let t = c.in_ok-over-in-Four.ensures in
    let a = t.ahead c.args.i (omega arith) in
    let u = c.in_ok-tail-in-Four.ensures in
    let b = u.ahead c.args.i (omega arith) in
    let v = c.tail-in-Four-2.ensures in
    record {
      same = ends_lead _ _ c.requires (rw c.in-Four.is at c.in_ok-lead_of.ensures) ∙ t.same _ ∙ u.same _ ∙ v.same _;
      ahead = v.ahead _ (omega arith);
    }
