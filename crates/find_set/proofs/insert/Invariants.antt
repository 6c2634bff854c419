-- `find_set::insert` meets its contract. The words that the loop has passed are moved, and the others as at entry.
-- Assumes nothing.
use Rattle.std.proofs.Common.{◌+◌, ◌≤◌}
use Rattle.find_set.specs.Set.{has, made}
use Rattle.find_set.proofs.Words.{Moved}
use Rattle.find_set.proofs.insert.Given as goal

abbrev pub invariant-loop-i : goal.invariant-loop-i
invariant-loop-i l = (l.at + 1 ≤ l.i) × Moved (made l.id (has l.initial.words)) l.initial.words l.words l.i
