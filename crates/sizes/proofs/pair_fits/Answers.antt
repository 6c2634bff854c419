-- `sizes::pair_fits` meets its contract: the tests stand as they are. Assumes nothing.
use Rattle.format.specs.Fetch.{pair_fits}
use Rattle.sizes.proofs.pair_fits.Goals as goal

pub returns : goal.returns
unfolding pair_fits
returns c = rw c.images_fit.ensures
