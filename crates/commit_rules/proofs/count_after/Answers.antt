-- `commit_rules::count_after` meets its contract: one more, one less, or the same. Assumes nothing.
use native.Mathlib.Omega.{arith}
use Rattle.format.specs.Regular.{count_after}
use Rattle.commit_rules.proofs.Passed.{count_stays}
use Rattle.commit_rules.proofs.count_after.Goals as goal

pub overflow_add-result : goal.overflow_add-result
unfolding count_after
overflow_add-result c = let p = rw c.in-Create.is at c.requires in omega arith

pub returns-in-Create : goal.returns-in-Create
unfolding count_after
returns-in-Create c = rw c.in-Create.is (omega arith)

pub returns-in-Delete : goal.returns-in-Delete
unfolding count_after
returns-in-Delete c = rw c.in-Delete.is c.saturating_sub.ensures

pub returns-in_default : goal.returns-in_default
returns-in_default c = count_stays c.args.rule c.args.count c.in_default.not-Create c.in_default.not-Delete
