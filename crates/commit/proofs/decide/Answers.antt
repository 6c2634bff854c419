-- `commit::decide` meets its contract: what is begun has sizes that fit. Assumes nothing.
use Rattle.std.proofs.Common.{sym, ◌∙◌, rules}
use Rattle.commit.specs.Passes.{decided_of}
use Rattle.commit.proofs.Rules.{begun_decides}
use Rattle.commit.proofs.Walks.{walked_judged}
use Rattle.commit.proofs.decide.Goals as goal

pub returns : goal.returns
unfolding decided_of
returns c =
    let e = sym c.begin.ensures ∙ c.in_ok-j.was in
    let d = begun_decides _ _ _ _ _ _ _ _ _ _ _ _ e c.each.new.pass c.args.stores in
    let w = walked_judged _ _ _ _ _ c.each.ensures in
    search rules
