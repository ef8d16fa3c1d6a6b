-- `parse_entries` meets its contract. The invariant: the whole reading from the start is what is left from here.
use Rattle.std.specs.Prelude.{◌+◌, ◌-◌, ◌≤◌, ◌≡◌}
use Rattle.std.proofs.lemmas.Result.{err_from_is_err_and}
use Rattle.wire.proofs.Kit.{ℕ, refl, sym, ◌∙◌, arith, length}
use Rattle.image.specs.Due.{Due, end, due, ◌>>=◌, run}
use Rattle.image.proofs.Laws.{run_then, run_halt, run_stop, run_end}
use Rattle.amf0.specs.Reading.{top_value}
use Rattle.packet.specs.Reading.{record_of, entries_at}
use Rattle.packet.proofs.Laws.{head_begun, value_read}
use Rattle.packet.proofs.Packing.{entries_done, entries_cut, entries_more}
use Rattle.packet.proofs.read.parse_entries.Goals.{In_ok-e, In_ok-v}
use Rattle.packet.proofs.read.parse_entries.Goals as goal

-- an entry's record, and what comes behind it: its value and the other entries
abbrev record_due : In_ok-e → Due
record_due c = due (record_of c.in_ok-e.e) c.loop.c.at (end c.in_ok-e.d.at)

abbrev behind : In_ok-e → ℕ → Due
behind c v = top_value c.args.s.now v >>= entries_at c.args.kind c.args.s.now (c.args.n - c.loop.counter - 1)

headed : (c : In_ok-e) → let a = c.args in
    run (entries_at a.kind a.s.now a.n a.start.at) a.done a.image.now ≡ run (record_due c >>= behind c) c.loop.made c.loop.image
headed c =
    let a = c.args in
    let l = c.loop in
    rw (l.invariant.3, entries_more a.kind a.s.now (a.n - l.counter) l.c.at (omega arith) (sym c.in_ok-e.ensures))

-- the record is laid, and the rest is left to read
record Laid (c : In_ok-v) : Type 0 where
  from : c.loop.c.at ≤ c.in_ok-v.v.at
  within : c.in_ok-v.v.at ≤ length c.args.s.now
  same : let a = c.args in
      run (entries_at a.kind a.s.now a.n a.start.at) a.done a.image.now ≡ run (behind (goal.at.In_ok-v c).In_ok-e c.in_ok-v.v.at) c.in_ok-v.laid c.put.new.image

laid : (c : In_ok-v) → Laid c
laid c =
    let a = c.args in
    let l = c.loop in
    let g = (goal.at.In_ok-v c).In_ok-e in
    let h = head_begun a.s.now l.c.at a.kind (sym c.in_ok-e.ensures) in
    let b = c.in_ok-v.ensures.within.bounds c.in_ok-v.v c.in_ok-v.laid refl in
    record {
      from = omega arith;
      within = omega arith;
      same = headed g ∙ run_then (record_due g) (behind g) _ _ (rw c.record_of.ensures at c.in_ok-v.ensures.image_after);
    }

pub returns-in_err-e-clause-image_after : goal.returns-in_err-e-clause-image_after
returns-in_err-e-clause-image_after c =
    let a = c.args in
    let l = c.loop in
    let p = err_from_is_err_and c.from_residual.result c.from_residual.ensures.1 in
    rw (p.1, p.2, l.invariant.3, entries_cut a.kind a.s.now (a.n - l.counter) l.c.at (omega arith) (sym c.in_err-e.ensures)) (sym (run_stop _ _ _ _))

pub returns-in_err-v-clause-image_after : goal.returns-in_err-v-clause-image_after
returns-in_err-v-clause-image_after c =
    let g = (goal.at.returns-in_err-v-clause-image_after c).In_ok-e in
    let p = err_from_is_err_and c.from_residual-in_err-v.result c.from_residual-in_err-v.ensures.1 in
    rw (p.1, p.2, headed g) (sym (run_halt (record_due g) (behind g) _ _ (rw c.record_of.ensures at c.in_err-v.ensures.image_after)))

pub returns-in_err-f-clause-image_after : goal.returns-in_err-f-clause-image_after
returns-in_err-f-clause-image_after c =
    let a = c.args in
    let s = a.s.now in
    let k = laid (goal.at.returns-in_err-f-clause-image_after c).In_ok-v in
    let v = c.in_ok-v.v.at in
    let p = err_from_is_err_and c.from_residual-in_err-f.result c.from_residual-in_err-f.ensures.1 in
    rw (p.1, p.2, k.same)
    (sym (run_halt (top_value s v) (entries_at a.kind s (a.n - c.loop.counter - 1)) _ _ (rw (value_read s v c.requires.0 k.within) at c.in_err-f.ensures.image_after)))

pub loop-preserved : goal.loop-preserved
loop-preserved c =
    let a = c.args in
    let s = a.s.now in
    let k = laid (goal.at.loop-preserved c).In_ok-v in
    let v = c.in_ok-v.v.at in
    let b = c.in_ok-f.ensures.within.bounds c.in_ok-f.f c.in_ok-f.total refl in
    let n = c.parse_value.auto.image in
    let m = c.put.auto.image in
    let e : a.n - c.loop.counter - 1 ≡ a.n - (c.loop.counter + 1) = omega arith in (
      omega arith,
      omega arith,
      omega arith,
      rw (k.same, ← e) (run_then (top_value s v) (entries_at a.kind s (a.n - c.loop.counter - 1)) _ _ (rw (value_read s v c.requires.0 k.within) at c.in_ok-f.ensures.image_after)),
    )

pub returns-clause-image_after : goal.returns-clause-image_after
returns-clause-image_after c =
    let a = c.args in
    let l = c.loop in
    rw (l.invariant.3, entries_done a.kind a.s.now (a.n - l.counter) l.c.at (omega arith)) (sym (run_end _ _ _))
