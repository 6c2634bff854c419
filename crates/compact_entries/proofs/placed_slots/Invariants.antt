-- `compact_entries::placed_slots` meets its contract. The loop keeps where all slots end, from here, and that the
-- places
-- of the slots to come stand from `at` on (`Passing`). Assumes nothing.
use mathlib.Core.Path.{◌≡◌}
use Prim.Native.Nat.{◌+◌, ◌-◌, ◌*◌, ◌≤◌}
use lib.ListN.{length}
use Rattle.compact_entries.specs.Emitted.{standing}
use Rattle.compact_entries.proofs.Placed.{Passing}
use Rattle.compact_entries.proofs.placed_slots.Given as goal

abbrev pub invariant-loop-id : goal.invariant-loop-id
invariant-loop-id l =
    (l.id ≤ l.count) × (l.w.end ≤ 16 + l.id * 265_734) × (length l.new ≡ length l.initial.new)
    × Passing l.old l.places (standing l.initial.w l.initial.new) (standing l.w l.new) l.id l.at
