-- `index_table::shift_ids` meets its contract. The loop keeps what is still to be shifted. Assumes nothing.
use Rattle.std.proofs.Common.{◌≡◌, ◌*◌}
use Rattle.format.specs.Index.{shifted}
use Rattle.index_table.proofs.Moves.{to_shift}
use Rattle.index_table.proofs.shift_ids.Given as goal

abbrev pub invariant-loop-i : goal.invariant-loop-i
invariant-loop-i l = to_shift l.by (2 * l.i) l.part ≡ shifted l.by l.initial.part
