-- `fetch_walk::walk_block` meets its contract: the walk from the start leaves the folds over the block's log. Assumes
-- nothing.
use mathlib.Core.Path.{◌∙◌}
use Rattle.fetch_walk.proofs.Turns.{begun_leaves}
use Rattle.fetch_walk.proofs.walk_block.Goals as goal

pub returns : goal.returns
returns c = c.walk_on.ensures ∙ begun_leaves _ _ _ _ c.start.ensures c.begin.ensures
