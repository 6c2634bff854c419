-- `compact_entries::slots` meets its contract. The loop keeps where all slots end, from here. Assumes nothing.
use mathlib.Core.Path.{◌≡◌}
use Prim.Native.Nat.{◌+◌, ◌-◌, ◌*◌, ◌≤◌}
use lib.ListN.{length, drop}
use Rattle.format.specs.Log.{log}
use Rattle.format.specs.Directory.{dir_of}
use Rattle.format.specs.Compaction.{dir_items}
use Rattle.compact_entries.specs.Emitted.{standing, emits}
use Rattle.compact_entries.proofs.slots.Given as goal

abbrev pub invariant-loop-id : goal.invariant-loop-id
invariant-loop-id l =
    (l.id ≤ l.count) × (l.w.end ≤ 16 + l.id * 265_734) × (length l.new ≡ length l.initial.new)
    × (emits (standing l.initial.w l.initial.new) (dir_items 0 (dir_of (log l.old))) ≡ emits (standing l.w l.new)
    (dir_items l.id (drop l.id (dir_of (log l.old)))))
