-- An element carries out what its reading says: the key's record is laid, then the value's, and then a zero stands.
use Rattle.std.proofs.lemmas.Result.{err_from_is_err_and}
use Rattle.std.specs.Prelude.{◌+◌, ◌≤◌, ◌≡◌}
use Rattle.wire.proofs.Kit.{ℕ, refl, sym, ◌∙◌, arith, length}
use Rattle.wire.proofs.Laws.{tag_next}
use Rattle.image.specs.declared.record.Record.TheVariants.{Key}
use Rattle.image.specs.Due.{Due, due, end, ◌>>=◌, run}
use Rattle.image.proofs.Laws.{run_then, run_halt, run_stop, run_end, within_next}
use Rattle.amf0.specs.Reading.{top_value}
use Rattle.amf0.proofs.Parts.{ends_text}
use Rattle.lso.specs.Reading.{closing, element_at}
use Rattle.lso.proofs.Laws.{element_key, value_whole}
use Rattle.lso.proofs.read.parse_element.Goals.{In_ok-v, In_ok-e}
use Rattle.lso.proofs.read.parse_element.Goals as goal

-- the key's record is laid, and its value and a zero are left to read
record Laid (c : In_ok-v) : Type 0 where
  from : c.args.c.at + 2 ≤ c.in_ok-v.v.at
  fits : c.in_ok-v.v.at ≤ length c.args.s.now
  same : let a = c.args in
      let s = a.s.now in
      run (element_at s a.c.at) a.made a.image.now ≡ run (top_value s c.in_ok-v.v.at >>= closing s) c.in_ok-v.laid c.put.new.image

laid : (c : In_ok-v) → Laid c
laid c =
    let a = c.args in
    let s = a.s.now in
    let k = c.in_ok-key in
    let e = sym k.ensures in
    let r = ends_text s a.c.at 2 (k.key, k.q) e in
    let b = c.in_ok-v.ensures.within.bounds c.in_ok-v.v c.in_ok-v.laid refl in
    let d = due (Key k.key.place k.key.length) a.c.at (end k.q.at) in
    let more : ℕ → Due = λ n. top_value s n >>= closing s in
    record { from = omega arith; fits = omega arith; same = rw (element_key s a.c.at e) (run_then d more _ _ c.in_ok-v.ensures.image_after) }

-- the value is read, and a zero is left
closed : (c : In_ok-e)
    → run (element_at c.args.s.now c.args.c.at) c.args.made c.args.image.now ≡ run (closing c.args.s.now c.in_ok-e.e.at) c.in_ok-e.total c.parse_value.new.image
closed c =
    let s = c.args.s.now in
    let v = c.in_ok-v.v.at in
    let l = laid (goal.at.In_ok-e c).In_ok-v in
    l.same ∙ run_then (top_value s v) (closing s) _ _ (rw (value_whole s v c.requires.0 l.fits) at c.in_ok-e.ensures.image_after)

pub returns-in_err-e-clause-image_after : goal.returns-in_err-e-clause-image_after
returns-in_err-e-clause-image_after c =
    let s = c.args.s.now in
    let v = c.in_ok-v.v.at in
    let l = laid (goal.at.returns-in_err-e-clause-image_after c).In_ok-v in
    let p = err_from_is_err_and c.from_residual-in_err-e.result c.from_residual-in_err-e.ensures.1 in
    rw (p.1, p.2, l.same) (sym (run_halt (top_value s v) (closing s) _ _ (rw (value_whole s v c.requires.0 l.fits) at c.in_err-e.ensures.image_after)))

pub returns-in_err-f-clause-image_after : goal.returns-in_err-f-clause-image_after
returns-in_err-f-clause-image_after c =
    let p = err_from_is_err_and c.from_residual-in_err-f.result c.from_residual-in_err-f.ensures.1 in
    rw (p.1, p.2, closed (goal.at.returns-in_err-f-clause-image_after c).In_ok-e, sym c.in_err-f.ensures) (sym (run_stop _ _ _ _))

pub returns-clause-image_after : goal.returns-clause-image_after
returns-clause-image_after c = rw (closed (goal.at.returns-clause-image_after c).In_ok-e, sym c.in_ok-f.ensures) (sym (run_end _ _ _))

pub returns-clause-within : goal.returns-clause-within
returns-clause-within c =
    let l = laid (goal.at.returns-clause-within c).In_ok-v in
    let b = c.in_ok-e.ensures.within.bounds c.in_ok-e.e c.in_ok-e.total refl in
    let n = c.put.auto.image in
    let z = tag_next c.args.s.now c.in_ok-e.e.at _ c.in_ok-f.f (sym c.in_ok-f.ensures) in
    within_next (omega arith) (omega arith) (omega arith)
