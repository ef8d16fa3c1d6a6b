-- `is_utf8` meets its contract: ASCII is UTF-8, and what is left behind the ASCII at the front of a long text is what there is to check.
use Rattle.wire.proofs.Kit.{sym, ◌∙◌, arith}
use Rattle.wire.proofs.Steps.{plain_run, run_end}
use Rattle.wire.proofs.utf8.is_utf8.Goals as goal

pub returns-then-short_ascii : goal.returns-then-short_ascii
returns-then-short_ascii c = c.if-short_ascii.true ∙ sym (run_end (plain_run (c.short_ascii.ensures c.if-short_ascii.true) (omega arith)) (omega arith))
