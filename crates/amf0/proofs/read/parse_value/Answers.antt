-- A value at a cursor of a part of an input, with the part's limits looked at first.
use Rattle.std.proofs.lemmas.Result.{err_from_is_err_and}
use Rattle.wire.proofs.Kit.{sym, ◌∙◌, arith}
use Rattle.wire.specs.Limit.{levels}
use Rattle.image.proofs.Laws.{run_stop}
use Rattle.amf0.proofs.Laws.{u8_whole, part_over, part_past, part_read}
use Rattle.amf0.proofs.Parts.{part_ok}
use Rattle.amf0.proofs.Halted.{value_halted}
use Rattle.amf0.proofs.read.parse_value.Goals as goal

pub returns-then-input-gt-BYTES-clause-image_after : goal.returns-then-input-gt-BYTES-clause-image_after
returns-then-input-gt-BYTES-clause-image_after c = let a = c.args in rw (c.refuse.ensures, part_over a.base (a.input.now) a.c.at (omega arith)) (sym (run_stop _ _ _ _))

pub returns-then-input-base-clause-image_after : goal.returns-then-input-base-clause-image_after
returns-then-input-base-clause-image_after c = let a = c.args in rw (c.refuse-then-input-base.ensures, part_over a.base (a.input.now) a.c.at (omega arith)) (sym (run_stop _ _ _ _))

pub returns-then-input-at-clause-image_after : goal.returns-then-input-at-clause-image_after
returns-then-input-at-clause-image_after c = let a = c.args in rw (c.refuse-then-input-at.ensures, part_past a.base (a.input.now) a.c.at (omega arith) (omega arith)) (sym (run_stop _ _ _ _))

pub value-requires : goal.value-requires
value-requires c = (omega arith, u8_whole _ _ (sym c.be_u8.ensures ∙ part_ok c.args.base c.be_u8.result c.in_ok-m.ensures))

pub returns-in_err-m-clause-image_after : goal.returns-in_err-m-clause-image_after
returns-in_err-m-clause-image_after c =
    let a = c.args in
    let s = a.input.now in
    let p = err_from_is_err_and c.from_residual.result c.from_residual.ensures.1 in
    rw (p.1, p.2, part_read a.base s a.c.at (omega arith) (omega arith), value_halted a.base s a.c.at c.in_err-m.ensures c.be_u8.ensures levels) (sym (run_stop _ _ _ _))

pub returns-clause-image_after : goal.returns-clause-image_after
returns-clause-image_after c = let a = c.args in rw (part_read a.base (a.input.now) a.c.at (omega arith) (omega arith)) c.value.ensures.image_after
