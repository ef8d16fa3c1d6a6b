-- `Cursor::parse_string` meets its contract: a text goes on from its length, or stops where that does.
use Rattle.std.proofs.lemmas.Result.{err_from_is_err_and}
use Rattle.wire.proofs.Kit.{sym, ◌∙◌}
use Rattle.wire.proofs.Laws.{text_of, text_cut, u16_next, u16_stop}
use Rattle.wire.proofs.cursor.Cursor.parse_string.Goals as goal

pub returns : goal.returns
returns c = c.take_str.ensures ∙ sym (text_of _ _ _ _ _ (u16_next _ _ _ _ (sym c.in_ok-n.ensures)))

pub returns-in_err-n : goal.returns-in_err-n
returns-in_err-n c =
    let p = err_from_is_err_and c.from_residual.result c.from_residual.ensures.1 in
    rw (p.1, p.2) (sym (text_cut _ _ _ _ _ (u16_stop _ _ _ _ (sym c.in_err-n.ensures))))
