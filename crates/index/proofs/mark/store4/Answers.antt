-- The bytes of the number are its digits.
use Rattle.index.proofs.Rows.{put_sets}
use Rattle.wire.specs.Number.{digits}
use Rattle.std.specs.Prelude.{◌≡◌, ◌+◌, ◌-◌}
use Rattle.wire.proofs.Kit.{div-one, arith, ◌∙◌}
use Rattle.index.proofs.mark.store4.Goals as goal

pub returns : goal.returns
returns c =
    let a = c.args in
    let e : c.copy_from_slice.new.self ≡ digits 4 a.n = c.copy_from_slice.ensures.after ∙ c.to_be_bytes.ensures ∙ simp div-one in
    rw e (put_sets a.out.now a.at (a.at + 4 - a.at) (digits 4 a.n) (omega arith) (omega arith))
