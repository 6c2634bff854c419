-- `util::lfs_pair_cmp` meets its contract: the test decides the definition's case. Assumes nothing.

use Rattle.util.proofs.lfs_pair_cmp.Goals as goal

pub returns-then-shares : goal.returns-then-shares
returns-then-shares c = rw c.if-shares.true

pub returns-else-shares : goal.returns-else-shares
returns-else-shares c = rw c.if-shares.false
