-- No text is UTF-8.
use Rattle.wire.proofs.Kit.{sym, ◌∙◌}
use Rattle.wire.specs.Utf8.{ends}
use Rattle.image.proofs.writing.named.Goals as goal

pub returns-then-n-eq0 : goal.returns-then-n-eq0
unfolding ends
returns-then-n-eq0 c = rw (sym c.inside.ensures ∙ c.if-inside.true, c.if-n-eq0.true)
