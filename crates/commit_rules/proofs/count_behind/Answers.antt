-- `commit_rules::count_behind` meets its contract: by what the rule says. Assumes nothing.
use native.Mathlib.Omega.{arith}
use mathlib.Core.Path.{sym, ◌∙◌}
use Rattle.commit_rules.specs.Rules.{rule_as}
use Rattle.commit_rules.proofs.Passed.{count_fits, passes, fails}
use Rattle.commit_rules.proofs.count_behind.Goals as goal

pub count_after-requires : goal.count_after-requires
count_after-requires c = count_fits (rule_as c.args.rule) c.args.count _ _
    (omega arith) (sym c.rule_holds.ensures ∙ c.if-rule_holds.true)

pub returns-then-rule_holds : goal.returns-then-rule_holds
returns-then-rule_holds c = passes _ _ _ _ _ c.rule_holds.ensures _ c.if-rule_holds.true
    c.count_after.ensures

pub returns : goal.returns
returns c = fails _ _ _ _ _ c.rule_holds.ensures c.if-rule_holds.false
