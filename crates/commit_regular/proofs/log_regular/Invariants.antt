-- `commit_regular::log_regular` meets its contract. The loop keeps that the log is regular if what is left of it is
-- (`Ahead`). Assumes nothing.
use Rattle.commit_regular.proofs.Turn.{Ahead}
use Rattle.commit_regular.proofs.log_regular.Given as goal

abbrev pub invariant-loop-logged : goal.invariant-loop-logged
invariant-loop-logged l =
    (goal.iterator-loop-logged).can_next l.logged-iterator × (goal.iterator-loop-logged).is_finite l.logged-iterator
    × Ahead l.b l.fn.rules l.ruled l.logged-iterator
