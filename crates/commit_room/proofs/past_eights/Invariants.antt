-- `commit_room::past_eights` meets its contract. The loop keeps which byte from here on is the first that isn't erased;
-- the rest shrinks. Assumes nothing.
use mathlib.Core.Path.{◌≡◌}
use Prim.Native.Nat.{◌-◌}
use lib.ListN.{length}
use Rattle.format.specs.Room.{first_unerased}
use Rattle.commit_room.proofs.past_eights.Given as goal

abbrev pub invariant-loop-at : goal.invariant-loop-at
invariant-loop-at l = first_unerased l.erased l.b l.at ≡ first_unerased l.erased l.b l.initial.at

abbrev pub decreases-loop-at : goal.decreases-loop-at
decreases-loop-at l = length l.b - l.at
