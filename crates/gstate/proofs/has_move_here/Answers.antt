-- `gstate::has_move_here` meets its contract: the comparison answers 0 exactly where a block is shared. Assumes
-- nothing.
use mathlib.Core.Path.{◌≡◌, refl}
use mathlib.Core.Bool.{Bool, true, false, cond}
use lib.Dec.{eqb}
use lib.IntN.{pos}
use mir.Syntax.{w32}
use mir.Val.{of_z}
use Rattle.gstate.proofs.has_move_here.Goals as goal

answers_zero : (shares : Bool) → eqb (of_z w32 (cond shares (pos 0) (pos 1))) 0 ≡ shares
answers_zero true = refl
answers_zero false = refl

pub returns : goal.returns
returns c = rw (c.has_move.ensures, c.lfs_pair_cmp-here.ensures, answers_zero)
