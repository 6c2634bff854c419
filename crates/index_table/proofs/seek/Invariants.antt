-- `index_table::seek` meets its contract. The loop keeps what is found in the places that are left. Assumes nothing.
use Rattle.index_table.proofs.Halving.{Seeking}
use Rattle.index_table.proofs.seek.Given as goal

abbrev pub invariant-loop-left : goal.invariant-loop-left
invariant-loop-left l = Seeking l.rank l.places l.from l.at l.left

abbrev pub decreases-loop-left : goal.decreases-loop-left
decreases-loop-left l = l.left
