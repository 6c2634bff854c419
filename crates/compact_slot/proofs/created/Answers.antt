-- `compact_slot::created` meets its contract. Assumes nothing.
use Rattle.compact_slot.proofs.Leaves.{created_is}
use Rattle.compact_slot.proofs.created.Goals as goal

pub returns : goal.returns
returns c = created_is _ _ _ _ c.lfs_tag_type3.ensures c.lfs_tag_id.ensures
