-- What falls is the allowance, and of one allowance the slot walk is above the directory walk; what the two loops keep
-- is in `Dirs` and `Slots`. Assumes nothing.
use Rattle.std.proofs.Common.{◌≤◌, ◌*◌, ◌+◌}
use Rattle.tree_walk.specs.Walks.{pairs}
use Rattle.tree_walk.proofs.Dirs as dirs
use Rattle.tree_walk.proofs.Slots as slots
use Rattle.tree_walk.proofs.+dir_walk_slot_walk.Given as goal

abbrev pub decreases-dir_walk : goal.decreases-dir_walk
decreases-dir_walk l = 2 * l.left

abbrev pub decreases-slot_walk : goal.decreases-slot_walk
decreases-slot_walk l = 2 * l.left + 1

abbrev pub invariant-dir_walk-loop-spare : goal.invariant-dir_walk-loop-spare
invariant-dir_walk-loop-spare l =
    (l.spare ≤ l.left)
    × dirs.Reached (pairs l.vol.g l.vol.bytes.now l.rules) l.depth l.initial.next l.left l.initial.text l.next l.spare l.text

abbrev pub decreases-dir_walk-loop-spare : goal.decreases-dir_walk-loop-spare
decreases-dir_walk-loop-spare l = l.spare

abbrev pub invariant-slot_walk-loop-id : goal.invariant-slot_walk-loop-id
invariant-slot_walk-loop-id l =
    slots.Kept l.vol.g l.vol.bytes.now l.rules l.depth l.dir l.left l.initial.text l.b l.id l.spare l.text
