-- A key's record is put out as a short text; any other is refused.
use Rattle.std.proofs.Common.{rules}
use Rattle.std.specs.Prelude.{◌≡◌}
use Rattle.wire.proofs.Kit.{sym, arith}
use Rattle.image.specs.declared.record.Record.TheVariants.{Key}
use Rattle.image.specs.Taking.{record_at, body_at, short, taken_to}
use Rattle.image.proofs.Pouring.{pour_stop, row_in_lem}
use Rattle.amf0.proofs.Putting.{ahead_grown, past}
use Rattle.lso.specs.Writing.{keying}
use Rattle.lso.proofs.Putting.{key_other}
use Rattle.lso.proofs.write.write_key.Goals.{In-Ok-short_at}
use Rattle.lso.proofs.write.write_key.Goals as goal

found : (c : In-Ok-short_at) → record_at c.args.image.now c.args.c.at ≡ taken_to (Key c.in-Ok-short_at.t.place c.in-Ok-short_at.t.length) c.in-Ok-short_at.e
unfolding record_at body_at short
found c = search rules

pub returns-then-kind-ne-KEY-clause-out_after : goal.returns-then-kind-ne-KEY-clause-out_after
returns-then-kind-ne-KEY-clause-out_after c =
    let a = c.args in
    let k = c.in-Ok in
    rw (c.refuse-then-kind-ne-KEY.ensures, key_other a.image.now a.text.now a.c.at (λ n. (c.type_inv.image n).fits) k.kind k.d (sym k.ensures) c.if-kind-ne-KEY.true) (sym (pour_stop _ _ _ _))

pub returns-in-Ok-short_at-clause-out_after : goal.returns-in-Ok-short_at-clause-out_after
returns-in-Ok-short_at-clause-out_after c =
    let a = c.args in
    let k = c.in-Ok-short_at in
    rw (found (goal.at.returns-in-Ok-short_at-clause-out_after c).In-Ok-short_at, sym (row_in_lem a.text.now (keying k.t.place k.t.length) a.c.at k.e.at a.count a.out.now (omega arith) c.requires.1)) c.emit_text.ensures.out_after

pub returns-in-Ok-short_at-clause-ahead : goal.returns-in-Ok-short_at-clause-ahead
returns-in-Ok-short_at-clause-ahead c =
    let w = past c.args.image.now (λ n. (c.type_inv.image n).fits) c.args.c.at (found (goal.at.returns-in-Ok-short_at-clause-ahead c).In-Ok-short_at) in
    ahead_grown c.emit_text.ensures.grown w.from w.fits (omega (arith, c.requires.0))
