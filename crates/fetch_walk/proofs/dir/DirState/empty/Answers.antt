-- `fetch_walk::dir::DirState::empty` meets its contract: the record is the definition's. Assumes nothing.
use mathlib.Core.Path.{refl}
use Rattle.fetch_walk.specs.Dir.{empty_dir}
use Rattle.fetch_walk.proofs.dir.DirState.empty.Goals as goal

pub returns : goal.returns
unfolding empty_dir
returns c = refl
