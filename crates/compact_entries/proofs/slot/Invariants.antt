-- `compact_entries::slot` meets its contract. The loop keeps where all classes end, from here. Assumes nothing.
use mathlib.Core.Path.{◌≡◌}
use Prim.Native.Nat.{◌+◌, ◌-◌, ◌*◌, ◌^◌, ◌≤◌}
use lib.ListN.{length}
use Rattle.format.specs.Directory.{classes}
use Rattle.format.specs.Compaction.{slot_items}
use Rattle.compact_slot.specs.Slots.{slot_in}
use Rattle.compact_entries.specs.Emitted.{standing, emits}
use Rattle.compact_entries.proofs.slot.Given as goal

abbrev pub invariant-loop-class : goal.invariant-loop-class
invariant-loop-class l =
    (l.class ≤ classes) × (l.w.end ≤ 2 ^ 31 + 1_026 * (l.class + 1)) × (length l.new ≡ length l.initial.new)
    × (emits (standing l.initial.w l.initial.new) (slot_items classes 0 l.id (slot_in l.old l.seats)) ≡ emits (standing l.w l.new)
    (slot_items (classes - l.class) l.class l.id (slot_in l.old l.seats)))
