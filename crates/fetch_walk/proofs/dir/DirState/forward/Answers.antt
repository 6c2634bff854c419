-- `fetch_walk::dir::DirState::forward` meets its contract: two words. Assumes nothing.
use lib.Seq.{drop-drop}
use Rattle.fetch_walk.specs.Dir.{forwarded}
use Rattle.fetch_walk.proofs.dir.DirState.forward.Goals as goal

pub returns : goal.returns
unfolding forwarded
returns c = rw (drop-drop 4 _ _) (cc)
