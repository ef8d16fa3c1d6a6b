use Rattle.std.specs.Prelude.{◌+◌, ◌-◌, ◌≤◌, ◌≡◌}
use Rattle.wire.proofs.Kit.{ℕ, length}
use Rattle.lso.specs.Reading.{body_at}
use Rattle.lso.specs.Code.{run_body}
use Rattle.lso.proofs.read.parse_body.Given as goal

abbrev pub invariant-loop-d : goal.invariant-loop-d
invariant-loop-d l =
    (l.initial.c.at ≤ l.c.at) ×
    (l.c.at ≤ length l.s) ×
    (l.made ≤ length l.image) ×
    (length l.image ≡ length l.initial.image) ×
    (f : ℕ) ×
    (length l.s ≤ f + l.c.at) ×
    (run_body (body_at l.s (length l.s) l.initial.c.at) l.done l.initial.image ≡ run_body (body_at l.s f l.c.at) l.made l.image)

abbrev pub decreases-loop-d : goal.decreases-loop-d
decreases-loop-d l = length l.s - l.c.at
