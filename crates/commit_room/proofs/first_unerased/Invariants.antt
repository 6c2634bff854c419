-- `commit_room::first_unerased` meets its contract. The loop keeps which byte from here on is the first that isn't
-- erased, and that it began at `at`. Assumes nothing.
use Rattle.std.proofs.Common.{◌≡◌, ◌≤◌, length, max}
use Rattle.format.specs.Room.{first_unerased}
use Rattle.commit_room.proofs.first_unerased.Given as goal

abbrev pub invariant-loop-i : goal.invariant-loop-i
invariant-loop-i l =
    (first_unerased l.erased l.b l.end ≡ first_unerased l.erased l.b l.i)
    × ((l.at ≤ l.i) × (l.i ≤ max l.at (length l.b)))
