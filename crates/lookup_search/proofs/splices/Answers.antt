-- `lookup_search::splices` meets its contract: the fields that it compares are the definition's. Assumes nothing.
use Rattle.format.specs.Look.{spliced_at}
use Rattle.lookup_search.proofs.splices.Goals as goal

pub returns : goal.returns
unfolding spliced_at
returns c = rw (c.lfs_tag_type1.ensures, c.lfs_tag_id.ensures, c.lfs_tag_id-2.ensures)
