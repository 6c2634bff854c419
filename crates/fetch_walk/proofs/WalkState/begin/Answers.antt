-- `fetch_walk::WalkState::begin` meets its contract: the record is the definition's. Assumes nothing.
use Rattle.fetch_walk.specs.State.{taken_none, begun}
use Rattle.fetch_walk.proofs.WalkState.begin.Goals as goal

pub returns : goal.returns
unfolding begun taken_none
returns c = cc
