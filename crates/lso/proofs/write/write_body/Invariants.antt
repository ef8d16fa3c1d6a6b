use Rattle.std.specs.Prelude.{◌+◌, ◌-◌, ◌*◌, ◌≤◌, ◌≡◌}
use Rattle.wire.proofs.Kit.{ℕ, length}
use Rattle.image.specs.Out.{pour}
use Rattle.amf0.specs.Code.{growth}
use Rattle.lso.specs.Writing.{body}
use Rattle.lso.proofs.write.write_body.Given as goal

abbrev pub invariant-loop-c : goal.invariant-loop-c
invariant-loop-c l =
    (l.c.at ≤ length l.image) ×
    (l.count ≤ growth * l.c.at) ×
    (length l.out ≡ length l.initial.out) ×
    (f : ℕ) ×
    (length l.image ≤ f + l.c.at) ×
    (pour (body l.image l.text (length l.image) l.initial.c.at) l.done l.initial.out ≡ pour (body l.image l.text f l.c.at) l.count l.out)

abbrev pub decreases-loop-c : goal.decreases-loop-c
decreases-loop-c l = length l.image - l.c.at
