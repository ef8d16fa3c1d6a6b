use Rattle.std.specs.Prelude.{◌+◌, ◌-◌, ◌*◌, ◌≤◌, ◌≡◌}
use Rattle.wire.proofs.Kit.{ℕ, length}
use Rattle.image.specs.Out.{pour}
use Rattle.amf0.specs.Code.{longest, growth, owed}
use Rattle.amf0.specs.Writing.{value as value_of, rest as rest_of}
use Rattle.amf0.proofs.Coming.{coming, Enough}
use Rattle.amf0.proofs.write.+value_values.Given as goal

abbrev pub invariant-values-loop-due : goal.invariant-values-loop-due
invariant-values-loop-due l = record {
  behind : ℕ;
  left : behind + owed l.due ≡ owed l.initial.due;
  from : l.initial.c.at + behind ≤ l.c.at;
  fits : l.c.at ≤ length l.image;
  grown : l.count + growth * (l.initial.c.at + behind) ≤ l.done + longest * behind + growth * l.c.at;
  kept : length l.out ≡ length l.initial.out;
  keys : l.k ≤ l.c.at;
  fuel : ℕ;
  enough : Enough (value_of l.left l.image l.text) l.image l.text l.due fuel l.c.at;
  same : pour (rest_of (value_of l.left l.image l.text) l.image l.text l.initial.due l.initial.c.at) l.done l.initial.out ≡ pour (coming (value_of l.left l.image l.text) l.image l.text l.due fuel l.k l.c.at) l.count l.out;
}

abbrev pub decreases-values-loop-due : goal.decreases-values-loop-due
decreases-values-loop-due l = length l.image - l.c.at

abbrev pub decreases-value : goal.decreases-value
decreases-value l = 2 * l.left

abbrev pub decreases-values : goal.decreases-values
decreases-values l = 2 * l.left + 1
