-- `fetch_walk::dir::DirState::splice` meets its contract: the count moves, and nothing else. Assumes nothing.
use Rattle.fetch_walk.specs.Dir.{spliced}
use Rattle.fetch_walk.proofs.dir.DirState.splice.Goals as goal

pub returns : goal.returns
unfolding spliced
returns c = rw c.splice_count.ensures
