-- `commit_regular::entered` meets its contract: what the rules answer, at the count that they raise. Assumes nothing.
use mathlib.Core.Path.{◌∙◌}
use Rattle.commit_regular.proofs.entered.Goals as goal

pub returns : goal.returns
returns c = c.count_behind.ensures ∙ rw (
  c.raised-raised.ensures,
  c.lfs_tag_id-id.ensures,
  c.lfs_tag_size.ensures,
)
