-- `sizes::images_fit` meets its contract: the tests stand as they are. Assumes nothing.
use Rattle.sizes.proofs.images_fit.Goals as goal

pub returns : goal.returns
returns c = rw c.geometry_fits.ensures
