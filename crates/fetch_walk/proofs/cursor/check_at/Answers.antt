-- `fetch_walk::cursor::check_at` meets its contract: the checksum stored differs from the checksum so far, or fits.
-- Assumes nothing.
use Rattle.fetch_walk.proofs.Seen.{check_differs, check_cursor}
use Rattle.fetch_walk.proofs.cursor.check_at.Goals as goal

pub returns-then-lfs_crc-stored : goal.returns-then-lfs_crc-stored
returns-then-lfs_crc-stored c = let a = c.args in check_differs a.b.now a.at a.tag _ _ _
    c.lfs_crc.ensures c.le32-stored.ensures c.if-lfs_crc-stored.true

pub returns : goal.returns
returns c = check_cursor _ _ _ _ _ _ c.lfs_crc.ensures
    c.le32-stored.ensures c.if-lfs_crc-stored.false _ _
    c.tag_length.ensures.0 c.flipped-prev.ensures
