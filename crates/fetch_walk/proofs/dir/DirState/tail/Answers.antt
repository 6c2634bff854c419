-- `fetch_walk::dir::DirState::tail` meets its contract: two words, and the chunk's low bit. Assumes nothing.
use lib.Seq.{drop-drop}
use Rattle.fetch_walk.specs.Dir.{tailed}
use Rattle.fetch_walk.proofs.dir.DirState.tail.Goals as goal

pub returns : goal.returns
unfolding tailed
returns c = rw (drop-drop 4 _ _) (cc)
