-- `fetch_walk::walk_again` meets its contract: the walk from what is known leaves it, gone on. Assumes nothing.
use mathlib.Core.Path.{refl, ◌∙◌}
use Rattle.fetch_walk.proofs.Turns.{known_leaves}
use Rattle.fetch_walk.proofs.walk_again.Goals as goal

pub returns : goal.returns
returns c = c.walk_on.ensures ∙ known_leaves _ _ _ _ refl refl
