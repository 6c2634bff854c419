-- `tag::splice_from_lowest` meets its contract: each step fits (`Splice.antt`). Assumes nothing.
use borrow.Author.Rules.{sfits_of}
use Rattle.tag.proofs.Splice.{wide_fits, sum_fits, unsigned_fits, counted}
use Rattle.tag.proofs.splice_from_lowest.Goals as goal

pub overflow_cast-result : goal.overflow_cast-result
overflow_cast-result c = wide_fits c.lfs_tag_splice.result (sfits_of c.lfs_tag_splice.type_inv)

pub overflow_add-result : goal.overflow_add-result
overflow_add-result c = sum_fits c.lfs_tag_splice.result (sfits_of c.lfs_tag_splice.type_inv)

pub overflow_cast-result-2 : goal.overflow_cast-result-2
overflow_cast-result-2 c = unsigned_fits c.lfs_tag_splice.result (sfits_of c.lfs_tag_splice.type_inv)

pub returns : goal.returns
returns c = counted c.lfs_tag_splice.result (sfits_of c.lfs_tag_splice.type_inv) _ c.lfs_tag_splice.ensures
