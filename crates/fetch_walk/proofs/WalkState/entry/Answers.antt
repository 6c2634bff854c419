-- `fetch_walk::WalkState::entry` meets its contract: the directory's step, and nothing else. Assumes nothing.
use Rattle.fetch_walk.specs.State.{holding}
use Rattle.fetch_walk.proofs.WalkState.entry.Goals as goal

pub returns : goal.returns
unfolding holding
returns c = cc
