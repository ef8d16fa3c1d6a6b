-- The body's elements, one after another: the whole from the start is what is left from here, with some fuel that is enough.
use Rattle.std.specs.Prelude.{◌-◌}
use Rattle.wire.proofs.Kit.{refl, sym, ap, ◌∙◌, ⊎_elim, inl, inr, le_refl, arith, length}
use Rattle.image.proofs.Laws.{within_stop}
use Rattle.wire.specs.Answer.{number_of}
use Rattle.lso.proofs.Body.{body_next, body_ends, body_stops, other_answer}
use Rattle.lso.proofs.read.parse_body.Goals as goal

pub loop-d-init : goal.loop-d-init
loop-d-init c = let p = c.requires in (le_refl _, p.1, p.2, refl, length c.args.s.now, omega arith, refl)

pub loop-d-preserved : goal.loop-d-preserved
loop-d-preserved c =
    let l = c.loop-d in
    let b = c.in-Ok.ensures.within.bounds c.in-Ok.d c.in-Ok.total refl in
    let n = c.parse_element.auto.image in (
      omega arith,
      omega arith,
      omega arith,
      omega arith,
      l.invariant.4 - 1,
      omega arith,
      l.invariant.6 ∙ body_next c.args.s.now l.c.at l.invariant.4 l.invariant.5 _ _ c.in-Ok.ensures.image_after,
    )

pub returns-in-NotWhole-clause-image_after : goal.returns-in-NotWhole-clause-image_after
returns-in-NotWhole-clause-image_after c =
    let l = c.loop-d in
    let n = sym c.answer.ensures.number in
    sym (l.invariant.6 ∙ body_ends _ l.c.at l.invariant.4 l.invariant.5 _ _ c.in-Err.ensures.image_after (⊎_elim (λ e. inl (n ∙ ap number_of e)) (λ e. inr (n ∙ ap number_of e)) c.in-NotWhole.is))

pub returns-in_default : goal.returns-in_default
returns-in_default c =
    let l = c.loop-d in
    let d = c.in_default in
    let n = other_answer c.answer.ensures.number d.not-NotWhole d.not-NotRight in
    record { image_after = sym (l.invariant.6 ∙ body_stops _ l.c.at l.invariant.4 l.invariant.5 _ _ c.in-Err.ensures.image_after n.0 n.1); within = within_stop }
