-- `util::lfs_alignup` meets its contract: the wrapped sum is the definition's. Assumes nothing.
use Rattle.format.specs.Arith.{align_up}
use Rattle.util.proofs.lfs_alignup.Goals as goal

pub returns : goal.returns
unfolding align_up
returns c = c.lfs_aligndown.ensures
