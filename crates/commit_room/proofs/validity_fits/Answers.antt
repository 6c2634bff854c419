-- `commit_room::validity_fits` meets its contract: by which erased byte it is. Assumes nothing.
use Rattle.commit_room.proofs.Cleared.{fits_set, fits_clear}
use Rattle.commit_room.proofs.validity_fits.Goals as goal

pub returns-then-erased-eq0 : goal.returns-then-erased-eq0
returns-then-erased-eq0 c = fits_set _ _ _ c.lfs_tag_isvalid-clear.ensures c.if-erased-eq0.true

pub returns : goal.returns
returns c = fits_clear _ _ _ c.lfs_tag_isvalid-clear.ensures c.if-erased-eq0.false
