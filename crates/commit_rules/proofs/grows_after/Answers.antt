-- `commit_rules::grows_after` meets its contract: no more behind a create or a delete, else as before. Assumes nothing.
use Rattle.format.specs.Regular.{grows_after}
use Rattle.commit_rules.proofs.Passed.{grows_on}
use Rattle.commit_rules.proofs.grows_after.Goals as goal

pub returns-in-Create : goal.returns-in-Create
unfolding grows_after
returns-in-Create c = rw c.in-Create.is

pub returns-in-Delete : goal.returns-in-Delete
unfolding grows_after
returns-in-Delete c = rw c.in-Delete.is

pub returns-in_default : goal.returns-in_default
returns-in_default c = grows_on c.args.rule c.args.grows c.in_default.not-Create c.in_default.not-Delete
