-- `commit_rules::rule_holds` meets its contract: each rule's tests stand as they are. Assumes nothing.
use Rattle.format.specs.Regular.{rule_holds}
use Rattle.commit_rules.proofs.rule_holds.Goals as goal

pub returns-in-Create : goal.returns-in-Create
unfolding rule_holds
returns-in-Create c = rw c.in-Create.is

pub returns-in-Delete : goal.returns-in-Delete
unfolding rule_holds
returns-in-Delete c = rw c.in-Delete.is

pub returns-in-Name : goal.returns-in-Name
unfolding rule_holds
returns-in-Name c = rw c.in-Name.is

pub returns-in-Inlined : goal.returns-in-Inlined
unfolding rule_holds
returns-in-Inlined c = rw c.in-Inlined.is

pub returns-in-Eight : goal.returns-in-Eight
unfolding rule_holds
returns-in-Eight c = rw c.in-Eight.is

pub returns-in-Attribute : goal.returns-in-Attribute
unfolding rule_holds
returns-in-Attribute c = rw c.in-Attribute.is

pub returns-in-Tail : goal.returns-in-Tail
unfolding rule_holds
returns-in-Tail c = rw c.in-Tail.is

pub returns-in-Move : goal.returns-in-Move
unfolding rule_holds
returns-in-Move c = rw c.in-Move.is

pub returns-in-Forward : goal.returns-in-Forward
unfolding rule_holds
returns-in-Forward c = rw c.in-Forward.is

pub returns-in-Bad : goal.returns-in-Bad
unfolding rule_holds
returns-in-Bad c = rw c.in-Bad.is
