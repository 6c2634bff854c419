-- `find_pass::find_in` meets its contract. The loop keeps which of the slots so far have the name, and the events that
-- are left (`Going`). Assumes nothing.
use Rattle.format.specs.Find.{is_named}
use Rattle.find_pass.proofs.Turn.{Going}
use Rattle.find_pass.proofs.find_in.Given as goal

abbrev pub invariant-loop-logged : goal.invariant-loop-logged
invariant-loop-logged l =
    (goal.iterator-loop-logged).can_next l.logged-iterator × (goal.iterator-loop-logged).is_finite l.logged-iterator
    × Going l.b l.fn.rules (is_named l.wanted l.kind) l.named.set l.named.any l.ruled l.logged-iterator
