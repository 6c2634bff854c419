-- `compact_slot::gather_into` meets its contract. The loop keeps what a free seat may still find (`Gathering`); the
-- offset falls, and the slot's id grows by less than it. Assumes nothing.
use mathlib.Core.List.{map}
use Prim.Native.Nat.{◌+◌, ◌≤◌}
use Rattle.format.specs.Back.{back}
use Rattle.theory.specs.Back.BackActs.{seen}
use Rattle.lookup_back.specs.Left.{left}
use Rattle.compact_slot.proofs.Turn.{Gathering}
use Rattle.compact_slot.proofs.gather_into.Given as goal

abbrev pub invariant-loop-at : goal.invariant-loop-at
invariant-loop-at l =
    (goal.iterator-loop-at).can_next l.at-iterator × (goal.iterator-loop-at).is_finite l.at-iterator
    × (l.at-iterator.off ≤ l.end) × (l.slot + l.at-iterator.off ≤ l.id + l.end)
    × Gathering l.b (map (seen l.b) (back l.b l.end l.etag)) l.id (map (seen l.b) (left l.at-iterator)) l.slot l.seats
