-- `gstate::needs_superblock` meets its contract: the test is of the tag's own size. Assumes nothing.
use Rattle.gstate.proofs.needs_superblock.Goals as goal

pub returns : goal.returns
returns c = rw c.lfs_tag_size.ensures
