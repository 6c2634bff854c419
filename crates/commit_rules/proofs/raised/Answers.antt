-- `commit_rules::raised` meets its contract: a name's one test, and any other rule leaves the count. Assumes nothing.
use Rattle.commit_rules.proofs.Passed.{names_raise, names_stay, raises_none}
use native.Mathlib.Omega.{arith}
use Rattle.commit_rules.proofs.raised.Goals as goal

pub overflow_add-result : goal.overflow_add-result
overflow_add-result c =
    let a = c.args in
    let r = names_raise a.grows a.count a.id c.if-grows-count.true in
    omega (arith, r.0)

pub returns-then-grows-count : goal.returns-then-grows-count
returns-then-grows-count c =
    let a = c.args in
    rw c.in-Name.is (names_raise a.grows a.count a.id c.if-grows-count.true).1

pub returns-else-grows-count : goal.returns-else-grows-count
returns-else-grows-count c =
    let a = c.args in
    rw c.in-Name.is (names_stay a.grows a.count a.id c.if-grows-count.false)

pub returns-in_default : goal.returns-in_default
returns-in_default c = raises_none c.args.rule _ c.args.count c.args.id c.in_default.not-Name
