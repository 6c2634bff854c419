-- `find_set::remove` meets its contract. The words that the loop has passed are moved, and the others as at entry; the
-- carry is the lowest digit of the last that it passed, as it was. Assumes nothing.
use Rattle.std.proofs.Common.{◌≡◌, ◌+◌, ◌*◌, ◌≤◌, ◌<◌, eqb}
use Rattle.find_set.specs.Set.{has, removed}
use Rattle.find_set.proofs.Words.{Moved}
use Rattle.find_set.proofs.remove.Given as goal

abbrev pub invariant-loop-i : goal.invariant-loop-i
invariant-loop-i l =
    (l.at + 1 ≤ l.i) × (l.carry < 2) × (eqb l.carry 1 ≡ has l.initial.words (l.i * 32))
    × Moved (removed l.id (has l.initial.words)) l.initial.words l.words l.i
