-- `Cursor::tag` meets its contract: the fixed bytes where they stand there.
use Rattle.wire.proofs.Kit.{add-sub_cancel_left}
use Rattle.wire.specs.Field.{tag_at}
use Rattle.wire.proofs.Steps.{equal_not, equal_so}
use Rattle.wire.proofs.cursor.Cursor.tag.Goals as goal

pub returns-then-ne : goal.returns-then-ne
unfolding tag_at
returns-then-ne c = rw (← c.if-not-whole.ensures, equal_not _ _ (rw add-sub_cancel_left at c.if-ne.ensures), c.refuse-then-ne.ensures)

pub returns : goal.returns
unfolding tag_at
returns c = rw (← c.if-not-whole.ensures, equal_so _ _ (rw add-sub_cancel_left at c.if-ne.ensures))
