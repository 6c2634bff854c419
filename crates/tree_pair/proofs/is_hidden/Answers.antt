-- `tree_pair::is_hidden` meets its contract. Assumes nothing.
use Rattle.tree_pair.proofs.Entries.{hidden_is}
use Rattle.tree_pair.proofs.is_hidden.Goals as goal

pub returns : goal.returns
returns c = hidden_is _ _ c.lfs_tag_type3-kind.ensures
