-- `sizes::too_high` meets its contract: the tests stand as they are. Assumes nothing.
use mathlib.Core.Path.{refl}
use Rattle.format.specs.Fetch.{too_high}
use Rattle.sizes.proofs.too_high.Goals as goal

pub returns : goal.returns
unfolding too_high
returns c = refl
