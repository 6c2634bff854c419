-- `commit_rules::counted` meets its contract: by the type's rule. Assumes nothing.
use Rattle.commit_rules.specs.Rules.{counted_by}
use Rattle.commit_rules.proofs.counted.Goals as goal

pub returns : goal.returns
unfolding counted_by
returns c = rw (← c.rule_of-rule.ensures) c.count_behind.ensures
