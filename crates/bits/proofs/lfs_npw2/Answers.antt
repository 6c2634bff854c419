use Rattle.format.specs.Arith.{npw2}
use Rattle.bits.proofs.lfs_npw2.Goals as goal

pub returns : goal.returns
unfolding npw2
returns c = c.lfs_max.ensures
