-- `compact_entries::placed_slot` meets its contract. The loop keeps where the slot's places end, from here
-- (`Placing`); the words that are left fall. Assumes nothing.
use mathlib.Core.Path.{◌≡◌}
use Prim.Native.Nat.{◌-◌}
use lib.ListN.{length}
use Rattle.compact_entries.specs.Emitted.{standing}
use Rattle.compact_entries.proofs.Placed.{Placing}
use Rattle.compact_entries.proofs.placed_slot.Given as goal

abbrev pub invariant-loop-at : goal.invariant-loop-at
invariant-loop-at l =
    (length l.new ≡ length l.initial.new) × Placing l.old l.id l.places l.from (standing l.initial.w l.initial.new) (standing l.w l.new) l.at

abbrev pub decreases-loop-at : goal.decreases-loop-at
decreases-loop-at l = length l.places - l.at
