-- `gstate::has_orphans` meets its contract: the test is of the tag's own size. Assumes nothing.
use Rattle.gstate.proofs.has_orphans.Goals as goal

pub returns : goal.returns
returns c = rw c.lfs_tag_size.ensures
