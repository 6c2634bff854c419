-- `tag::lfs_mktag_if` meets its contract: the condition decides which of the two tags it is. Assumes nothing.
use Rattle.tag.proofs.lfs_mktag_if.Goals as goal

pub returns-then-cond : goal.returns-then-cond
returns-then-cond c = rw c.if-cond.true c.lfs_mktag.ensures
