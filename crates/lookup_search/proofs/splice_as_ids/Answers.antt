-- `lookup_search::splice_as_ids` meets its contract: by how far the splice lies above -128 (`Splice.antt`). Assumes
-- nothing.
use Rattle.lookup_search.proofs.Splice.{ids_of}
use Rattle.lookup_search.proofs.splice_as_ids.Goals as goal

pub returns : goal.returns
returns c = ids_of c.args.tag _ c.splice_from_lowest.ensures.0
