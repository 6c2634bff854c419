-- `commit_regular::tags::Tags::new` meets its contract: all of the log is left. Assumes nothing.
use Rattle.commit_regular.proofs.Left.{starts}
use Rattle.commit_regular.proofs.tags.Tags.new.Goals as goal

pub behind-requires : goal.behind-requires
behind-requires c = starts _ _ c.requires
