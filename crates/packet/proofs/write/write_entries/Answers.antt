-- The whole from the start is what is left from here.
use Rattle.std.specs.Prelude.{◌+◌, ◌-◌, ◌≡◌}
use Rattle.std.proofs.lemmas.Result.{err_from_is_err_and}
use Rattle.wire.proofs.Kit.{refl, sym, ap, ◌∙◌, arith}
use Rattle.image.specs.Out.{Out, Poured, pour}
use Rattle.image.proofs.Pouring.{pour_then, pour_halt, pour_end}
use Rattle.amf0.proofs.Putting.{ahead_next}
use Rattle.packet.specs.Writing.{entry, entries}
use Rattle.packet.proofs.Putting.{carried, carried_stop, went_on, halted, entries_done, entries_entry}
use Rattle.packet.proofs.write.write_entries.Goals as goal

pub write_entry-requires : goal.write_entry-requires
write_entry-requires c =
    let p = c.requires in
    let j = c.loop.invariant in
    let m = c.requires.3 in
    (p.0, p.1, j.1, omega arith)

pub returns-in_err-d-clause-carried : goal.returns-in_err-d-clause-carried
returns-in_err-d-clause-carried c =
    let a = c.args in
    let i = a.image.now in
    let x = a.text.now in
    let l = c.loop in
    let n = a.n - l.counter in
    let d = entry a.kind a.exact i x l.c.at in
    let h = pour_halt d (entries a.kind a.exact i x (n - 1)) l.count l.out (halted c.in_err-d.ensures.carried) in
    let p = err_from_is_err_and c.from_residual.result c.from_residual.ensures.1 in
    rw (p.1, p.2)
    (carried_stop (ap (λ (y : Poured). y.step) (l.invariant.3 ∙ ap (λ (e : Out). pour e l.count l.out) (entries_entry a.kind a.exact i x n l.c.at (omega arith)) ∙ h)))

pub loop-preserved : goal.loop-preserved
loop-preserved c =
    let a = c.args in
    let i = a.image.now in
    let x = a.text.now in
    let l = c.loop in
    let j = c.loop.invariant in
    let n = a.n - l.counter in
    let b = c.in_ok-d.ensures.ahead.bounds c.in_ok-d.d c.in_ok-d.m refl in
    let d = entry a.kind a.exact i x l.c.at in
    let h = pour_then d (entries a.kind a.exact i x (n - 1)) l.count l.out (went_on c.in_ok-d.ensures.carried) in
    let e : n - 1 ≡ a.n - (l.counter + 1) = omega arith in
    (omega arith, b.1, omega arith, j.3 ∙ rw (entries_entry a.kind a.exact i x n l.c.at (omega arith), ← e) h)

pub returns : goal.returns
returns c =
    let a = c.args in
    let l = c.loop in
    let j = c.loop.invariant in
    record { carried = carried (rw (j.3, entries_done a.kind a.exact a.image.now a.text.now (a.n - l.counter) l.c.at (omega arith)) (sym (pour_end _ _ _))); ahead = ahead_next j.0 j.1 j.2 }
