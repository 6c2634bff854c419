-- `fetch_walk::cursor::entry_at` meets its contract: the part that is summed is the entry's bytes. Assumes nothing.
use Rattle.fetch_walk.proofs.Seen.{entry_cursor}
use Rattle.fetch_walk.proofs.cursor.entry_at.Goals as goal

pub returns : goal.returns
returns c = entry_cursor _ _ _ _ _ _ c.tag_length.ensures.0 c.lfs_crc.ensures
