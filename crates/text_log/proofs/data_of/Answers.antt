-- The tag's own four bytes stand in front. Assumes nothing.
use Rattle.std.proofs.Common.{arith}
use Rattle.format.proofs.Words.{tag_length_ge}
use Rattle.text_log.proofs.WalkShown.{data_cut}
use Rattle.text_log.proofs.data_of.Goals as goal

pub slice_bounds-result-count : goal.slice_bounds-result-count
slice_bounds-result-count c = omega (arith, tag_length_ge c.args.tag, c.lfs_tag_dsize.ensures)

pub slice_bounds-result-start : goal.slice_bounds-result-start
slice_bounds-result-start c = omega (arith, tag_length_ge c.args.tag, c.lfs_tag_dsize.ensures)

pub returns : goal.returns
returns c = data_cut _ _ _ _ c.lfs_tag_dsize.ensures
