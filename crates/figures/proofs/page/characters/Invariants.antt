-- A character a turn, of one byte at least.
use Rattle.wire.proofs.Kit.{length}
use Rattle.figures.proofs.page.characters.Given as goal

abbrev pub decreases-loop-first : goal.decreases-loop-first
decreases-loop-first g l = length l.rest
