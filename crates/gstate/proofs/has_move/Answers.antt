-- `gstate::has_move` meets its contract: the test is of the tag's own type1. Assumes nothing.
use Rattle.gstate.proofs.has_move.Goals as goal

pub returns : goal.returns
returns c = rw c.lfs_tag_type1.ensures
