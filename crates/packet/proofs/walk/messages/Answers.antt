-- `messages` meets its contract: where there are none, the packet's end is looked for.
use Rattle.wire.proofs.Kit.{sym, ◌∙◌, arith}
use Rattle.packet.proofs.Laws.{walk_none}
use Rattle.packet.proofs.walk.messages.Goals as goal

pub returns-else-m-gt0-clause-result_value : goal.returns-else-m-gt0-clause-result_value
returns-else-m-gt0-clause-result_value c =
    let e = sym c.be_u16.ensures ∙ c.in-Ok.is in
    c.end.ensures.result_value ∙ rw e (sym (walk_none 0x32 c.args.s.now _ _ (omega arith)))
