-- The digits that are left fall. Assumes nothing.
use Rattle.text.proofs.Text.+decimal_in.Given as goal

abbrev pub decreases-decimal_in : goal.decreases-decimal_in
decreases-decimal_in l = l.left
