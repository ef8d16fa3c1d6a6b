-- `ascii_run` meets its contract: one run and then another.
use Rattle.wire.proofs.Steps.{run_on}
use Rattle.wire.proofs.utf8.ascii_run.Goals as goal

pub returns : goal.returns
returns c = run_on (run_on c.wide.ensures c.blocks-2.ensures) c.singles.ensures
