-- What is read of a file is all of it, or it is refused.
use Rattle.std.proofs.lemmas.Result.{err_from_is_err_and}
use Rattle.wire.proofs.Kit.{refl, arith}
use Rattle.lso.proofs.Settle.{incomplete_ran}
use Rattle.lso.proofs.Outcome.{whole_refused, whole_left, whole_used}
use Rattle.lso.proofs.read.parse_whole.Goals as goal

pub returns-in_err-c : goal.returns-in_err-c
returns-in_err-c c =
    let p = err_from_is_err_and c.from_residual.result c.from_residual.ensures.1 in
    rw (p.1, p.2) (whole_refused _ _ _ _ (incomplete_ran _ _ c.in_err-c.ensures.image_after))

pub returns-then-c-s : goal.returns-then-c-s
returns-then-c-s c = rw c.refuse.ensures (whole_left _ _ _ (incomplete_ran _ _ c.in_ok-c.ensures.image_after) refl c.if-c-s.true)

pub returns : goal.returns
returns c = whole_used _ _ _ (incomplete_ran _ _ c.in_ok-c.ensures.image_after) refl (omega arith)
