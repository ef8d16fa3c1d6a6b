use Rattle.index.specs.Keys.{value, rest}
use Rattle.image.specs.Out.{pour}
use Rattle.std.specs.Prelude.{◌≡◌, ◌+◌, ◌-◌, ◌*◌, ◌≤◌, ◌<◌}
use Rattle.wire.proofs.Kit.{length, ℕ, suc}
use Rattle.index.proofs.walk.+follow.Given as goal

abbrev pub invariant-loop-ahead : goal.invariant-loop-ahead
invariant-loop-ahead l =
    (l.initial.c.at ≤ l.c.at) ×
    (l.c.at ≤ length l.image) ×
    (l.count + 13 * l.initial.c.at ≤ l.done + 13 * l.c.at) ×
    (f : ℕ) ×
    (length l.image < f + l.c.at) ×
    (pour (rest (value l.left l.image l.text) l.image l.text l.place (33 - l.left) (suc (length l.image)) l.initial.due l.initial.c.at) l.done l.initial.index ≡ pour (rest (value l.left l.image l.text) l.image l.text l.place (33 - l.left) f l.due l.c.at) l.count l.index)

abbrev pub decreases-loop-ahead : goal.decreases-loop-ahead
decreases-loop-ahead l = length l.image - l.c.at

abbrev pub decreases-follow : goal.decreases-follow
decreases-follow l = l.left
