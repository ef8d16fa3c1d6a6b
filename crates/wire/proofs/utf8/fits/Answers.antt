-- `fits` meets its contract: its test is the law's.
use Rattle.wire.proofs.Steps.{fits_test}
use Rattle.wire.proofs.utf8.fits.Goals as goal

pub returns : goal.returns
returns c = fits_test c.args.q c.args.p c.args.b
