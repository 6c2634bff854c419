-- `lookup_back::Back::new` meets its contract: all tags are left. Assumes nothing.
use mathlib.Core.Path.{refl}
use Rattle.lookup_back.specs.Left.{left}
use Rattle.lookup_back.proofs.Back.new.Goals as goal

pub returns-clause-tags : goal.returns-clause-tags
unfolding left
returns-clause-tags c = refl
