-- What comes next: nothing, a value, or a key, whose mark is put out.
use Rattle.index.proofs.Walking.{turn_reached, rest_stops, rest_ends, rest_value, rest_key, pour_mark}
use Rattle.index.specs.Keys.{turn_of}
use Rattle.index.specs.declared.walk.Coming.TheVariants as Coming
use Rattle.std.specs.Prelude.{◌≡◌, ◌-◌, Some}
use Rattle.wire.proofs.Kit.{arith, sym, ap, ◌∙◌}
use Rattle.index.proofs.walk.go_on.Goals as goal

pub returns-in_err-e : goal.returns-in_err-e
returns-in_err-e c =
    let a = c.args in
    rw c.from_residual.ensures record { by_index = (λ inner f h. rw (rest_stops inner a.image.now a.text.now a.place (33 - a.left) a.due a.c.at f (sym c.turn.ensures ∙ c.in_err-e.was))); ready = tt }

pub overflow_cast-at : goal.overflow_cast-at
overflow_cast-at c =
    let a = c.args in
    let e : turn_of a.image.now a.text.now a.due a.c.at ≡ Some (Coming.Key c.in-Key.e c.in-Key.f) = sym c.turn.ensures ∙ c.in_ok-e.was ∙ ap Some c.in-Key.is in
    let r = rw e at (turn_reached a.image.now a.text.now (λ n. (c.type_inv.image n).fits) a.c.at a.due c.requires.1) in
    omega (arith, r)

pub returns-in-Done : goal.returns-in-Done
returns-in-Done c =
    let a = c.args in
    let e : turn_of a.image.now a.text.now a.due a.c.at ≡ Some (Coming.Done c.in-Done.e) = sym c.turn.ensures ∙ c.in_ok-e.was ∙ ap Some c.in-Done.is in
    record {
      by_index = (λ inner f h. rw (rest_ends inner a.image.now a.text.now a.place (33 - a.left) a.due a.c.at f h _ e));
      ready = rw e at (turn_reached a.image.now a.text.now (λ n. (c.type_inv.image n).fits) a.c.at a.due c.requires.1);
    }

pub returns-in-Value : goal.returns-in-Value
returns-in-Value c =
    let a = c.args in
    let e : turn_of a.image.now a.text.now a.due a.c.at ≡ Some (Coming.Value c.in-Value.e c.in-Value.f) = sym c.turn.ensures ∙ c.in_ok-e.was ∙ ap Some c.in-Value.is in
    let r = rw e at (turn_reached a.image.now a.text.now (λ n. (c.type_inv.image n).fits) a.c.at a.due c.requires.1) in
    record {
      by_index = (λ inner f h. rw (rest_value inner a.image.now a.text.now a.place (33 - a.left) a.due a.c.at f h _ _ e));
      ready = (omega (arith, r), omega (arith, r), omega (arith, r));
    }

pub returns-in-Key : goal.returns-in-Key
returns-in-Key c =
    let a = c.args in
    let e : turn_of a.image.now a.text.now a.due a.c.at ≡ Some (Coming.Key c.in-Key.e c.in-Key.f) = sym c.turn.ensures ∙ c.in_ok-e.was ∙ ap Some c.in-Key.is in
    let r = rw e at (turn_reached a.image.now a.text.now (λ n. (c.type_inv.image n).fits) a.c.at a.due c.requires.1) in
    record {
      by_index = (λ inner f h. rw (rest_key inner a.image.now a.text.now a.place (33 - a.left) a.due a.c.at f h _ _ e, c.emit.ensures) (pour_mark _ _ _ _));
      ready = (omega (arith, r), omega (arith, r), omega (arith, r));
    }
