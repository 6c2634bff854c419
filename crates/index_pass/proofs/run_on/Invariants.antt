-- `index_pass::run_on` meets its contract. The loop keeps the entries that are left, run on the places that stand in
-- the table (`Going`). Assumes nothing.
use Rattle.index_table.specs.Held.{Stays}
use Rattle.commit_regular.specs.Ends.{Onwards}
use Rattle.index_pass.proofs.Turn.{Going}
use Rattle.index_pass.proofs.run_on.Given as goal

abbrev pub invariant-loop-logged : goal.invariant-loop-logged
invariant-loop-logged l =
    (goal.iterator-loop-logged).can_next l.logged-iterator × (goal.iterator-loop-logged).is_finite l.logged-iterator
    × Stays l.places l.initial.places.table
    × ((k : Onwards l.b l.fn.from l.fn.prev l.fn.end) → Going l.b l.fn.from l.fn.prev l.fn.end k l.initial.places l.places l.logged-iterator)
