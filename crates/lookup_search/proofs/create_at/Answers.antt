-- `lookup_search::create_at` meets its contract: of these fields LFS_MKTAG is their sum. Assumes nothing.
use Rattle.std.proofs.Common.{◌∙◌, arith}
use Rattle.format.specs.Tag.{tag_id, tag_of}
use Rattle.format.proofs.Words.{mk_tag_sum}
use Rattle.lookup_search.proofs.create_at.Goals as goal

pub returns : goal.returns
unfolding tag_of
returns c = c.lfs_mktag.ensures ∙ rw c.lfs_tag_id.ensures
    (mk_tag_sum 0x401 (tag_id c.args.key) 0 (omega arith) (omega arith) (omega arith))
