-- The header ends within the file.
use Rattle.wire.proofs.Kit.{sym, le_refl, arith}
use Rattle.image.proofs.Laws.{within}
use Rattle.amf0.proofs.Parts.{ends_text}
use Rattle.lso.proofs.Laws.{zeros_past}
use Rattle.lso.proofs.read.parse_header.Goals as goal

pub returns-clause-within : goal.returns-clause-within
returns-clause-within c =
    let n = ends_text _ _ 2 (c.in_ok-name.name, c.in_ok-name.g) (sym c.in_ok-name.ensures) in
    let z = zeros_past 4 _ _ _ (sym c.in_ok-h.ensures) in
    let w = z.within n.1 in
    within c.put.ensures.within (omega arith) (omega arith) (le_refl _)
