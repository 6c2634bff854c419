-- `compact_entries::create` meets its contract: an entry with no data. Assumes nothing.
use Rattle.compact_entries.proofs.Written.{create_done}
use Rattle.compact_entries.proofs.create.Goals as goal

pub returns : goal.returns
returns c = create_done _ _ _ _ _ c.requires.1 c.lfs_mktag-tag.ensures c.entry.ensures
