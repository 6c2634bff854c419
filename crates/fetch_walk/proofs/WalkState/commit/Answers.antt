-- `fetch_walk::WalkState::commit` meets its contract: the record is the definition's. Assumes nothing.
use Rattle.fetch_walk.specs.State.{taking}
use Rattle.fetch_walk.proofs.WalkState.commit.Goals as goal

pub returns : goal.returns
unfolding taking
returns c = cc
