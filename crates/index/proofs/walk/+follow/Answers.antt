use Rattle.index.proofs.Walking.{own_past, value_none, value_stops, value_goes, onward_stop, onward_next}
use Rattle.index.specs.Keys.{value}
use Rattle.index.specs.Code.{Ready}
use Rattle.index.specs.declared.walk.Ahead.TheVariants as Ahead
use Rattle.image.proofs.Pouring.{pour_then, pour_halt, pour_stop, pour_end}
use Rattle.std.proofs.lemmas.Result.{err_from_is_err_and}
use Rattle.std.specs.Prelude.{◌-◌, Some}
use Rattle.wire.proofs.Kit.{length, arith, true, false, refl, sym, ap, ◌∙◌, suc}
use Rattle.index.proofs.walk.+follow.Goals as goal

pub loop-ahead-init : goal.loop-ahead-init
loop-ahead-init t c = let p = c.requires in (omega arith, p.1, omega arith, suc (length c.args.image.now), omega arith, refl)

pub returns-in_default : goal.returns-in_default
returns-in_default t c =
    let a = c.args in
    let l = c.loop-ahead in
    let j = c.loop-ahead.invariant in
    let q = c.go_on in
    let on = j.5 ∙ q.ensures.by_index (value a.left a.image.now a.text.now) j.3 (omega (arith, j.4, j.1)) in rw c.refuse.ensures record { index_after = sym ((rw c.in_default.is at on) ∙ pour_stop _ _ _ _); onward = onward_stop }

pub returns-in-Done : goal.returns-in-Done
returns-in-Done t c =
    let a = c.args in
    let l = c.loop-ahead in
    let j = c.loop-ahead.invariant in
    let q = c.go_on in
    let on = j.5 ∙ q.ensures.by_index (value a.left a.image.now a.text.now) j.3 (omega (arith, j.4, j.1)) in
    let r : Ready (Some (Ahead.Done c.in-Done.e)) l.c.at (length a.image.now) l.count = rw (c.in-Some.is ∙ ap Some c.in-Done.is) at q.ensures.ready in record { index_after = sym ((rw (c.in-Some.is ∙ ap Some c.in-Done.is) at on) ∙ pour_end _ _ _); onward = onward_next (omega (arith, r, j.0)) r.1 (omega (arith, r, j.2)) }

pub returns-then-value_at : goal.returns-then-value_at
returns-then-value_at t c =
    let a = c.args in
    let l = c.loop-ahead in
    let j = c.loop-ahead.invariant in
    let q = c.go_on in
    let on = j.5 ∙ q.ensures.by_index (value a.left a.image.now a.text.now) j.3 (omega (arith, j.4, j.1)) in
    let at = c.in-Value.e.at in
    let to = rw (c.in-Some.is ∙ ap Some c.in-Value.is) at on in rw c.refuse-then-value_at.ensures record { index_after = sym (to ∙ rw (value_none a.image.now a.text.now at a.left c.if-left-eq0.true true (sym c.value_at.ensures ∙ c.if-value_at.true)) (pour_stop _ _ _ _)); onward = onward_stop }

pub returns-then-left-eq0 : goal.returns-then-left-eq0
returns-then-left-eq0 t c =
    let a = c.args in
    let l = c.loop-ahead in
    let j = c.loop-ahead.invariant in
    let q = c.go_on in
    let on = j.5 ∙ q.ensures.by_index (value a.left a.image.now a.text.now) j.3 (omega (arith, j.4, j.1)) in
    let at = c.in-Value.e.at in
    let to = rw (c.in-Some.is ∙ ap Some c.in-Value.is) at on in rw c.refuse-then-left-eq0.ensures record { index_after = sym (to ∙ rw (value_none a.image.now a.text.now at a.left c.if-left-eq0.true false (sym c.value_at.ensures ∙ c.if-value_at.false)) (pour_stop _ _ _ _)); onward = onward_stop }

pub returns-in_default-own : goal.returns-in_default-own
returns-in_default-own t c =
    let a = c.args in
    let l = c.loop-ahead in
    let j = c.loop-ahead.invariant in
    let q = c.go_on in
    let on = j.5 ∙ q.ensures.by_index (value a.left a.image.now a.text.now) j.3 (omega (arith, j.4, j.1)) in
    let at = c.in-Value.e.at in
    let to = rw (c.in-Some.is ∙ ap Some c.in-Value.is) at on in rw c.refuse-in_default-own.ensures record { index_after = sym (to ∙ rw (value_stops a.image.now a.text.now at a.left c.if-left-eq0.false (sym c.own.ensures ∙ c.in_default-own.is)) (pour_stop _ _ _ _)); onward = onward_stop }

pub follow-requires : goal.follow-requires
follow-requires t c =
    let a = c.args in
    let p = c.requires in
    let l = c.loop-ahead in
    let j = c.loop-ahead.invariant in
    let q = c.go_on in
    let at = c.in-Value.e.at in
    let r : Ready (Some (Ahead.Value c.in-Value.e c.in-Value.n c.in-Value.f)) l.c.at (length a.image.now) l.count = rw (c.in-Some.is ∙ ap Some c.in-Value.is) at q.ensures.ready in
    let o = sym c.own.ensures ∙ c.in-Some-own.is in
    let past = own_past a.image.now a.text.now (λ n. (c.type_inv.image n).fits) at o in
    (omega (arith, c.decreases, c.if-left-eq0.false), (p.0, past.fits, r.1, omega (arith, past.from, r, j.2, p.3), omega (arith, p.4)))

pub returns-in_err-b-in-Value : goal.returns-in_err-b-in-Value
returns-in_err-b-in-Value t c =
    let a = c.args in
    let l = c.loop-ahead in
    let j = c.loop-ahead.invariant in
    let q = c.go_on in
    let on = j.5 ∙ q.ensures.by_index (value a.left a.image.now a.text.now) j.3 (omega (arith, j.4, j.1)) in
    let at = c.in-Value.e.at in
    let to = rw (c.in-Some.is ∙ ap Some c.in-Value.is) at on in
    let o = sym c.own.ensures ∙ c.in-Some-own.is in
    let p = err_from_is_err_and c.from_residual.result c.from_residual.ensures.1 in
    let y = c.in_err-b-in-Value.ensures.index_after in rw (p.1, p.2) record { index_after = sym (to ∙ pour_halt (value a.left a.image.now a.text.now at) _ _ _ (y ∙ rw (value_goes a.image.now a.text.now at a.left c.if-left-eq0.false _ _ o))); onward = onward_stop }

pub loop-ahead-smaller : goal.loop-ahead-smaller
loop-ahead-smaller t c =
    let a = c.args in
    let l = c.loop-ahead in
    let q = c.go_on in
    let at = c.in-Value.e.at in
    let r : Ready (Some (Ahead.Value c.in-Value.e c.in-Value.n c.in-Value.f)) l.c.at (length a.image.now) l.count = rw (c.in-Some.is ∙ ap Some c.in-Value.is) at q.ensures.ready in
    let o = sym c.own.ensures ∙ c.in-Some-own.is in
    let past = own_past a.image.now a.text.now (λ n. (c.type_inv.image n).fits) at o in
    let b = c.follow.ensures.onward.bounds c.in_ok-b-in-Value.b c.in_ok-b-in-Value.m c.in_ok-b-in-Value.was in
    omega (arith, past.from, r, b)

pub loop-ahead-preserved : goal.loop-ahead-preserved
loop-ahead-preserved t c =
    let a = c.args in
    let l = c.loop-ahead in
    let j = c.loop-ahead.invariant in
    let q = c.go_on in
    let on = j.5 ∙ q.ensures.by_index (value a.left a.image.now a.text.now) j.3 (omega (arith, j.4, j.1)) in
    let at = c.in-Value.e.at in
    let r : Ready (Some (Ahead.Value c.in-Value.e c.in-Value.n c.in-Value.f)) l.c.at (length a.image.now) l.count = rw (c.in-Some.is ∙ ap Some c.in-Value.is) at q.ensures.ready in
    let to = rw (c.in-Some.is ∙ ap Some c.in-Value.is) at on in
    let o = sym c.own.ensures ∙ c.in-Some-own.is in
    let past = own_past a.image.now a.text.now (λ n. (c.type_inv.image n).fits) at o in
    let b = c.follow.ensures.onward.bounds c.in_ok-b-in-Value.b c.in_ok-b-in-Value.m c.in_ok-b-in-Value.was in
    let y = c.in_ok-b-in-Value.ensures.index_after in (
      omega (arith, j.0, past.from, r, b),
      b.1,
      omega (arith, j.2, past.from, r, b),
      j.3 - 1,
      omega (arith, j.4, past.from, r, b),
      to ∙ pour_then (value a.left a.image.now a.text.now at) _ _ _ (y ∙ rw (value_goes a.image.now a.text.now at a.left c.if-left-eq0.false _ _ o)),
    )
