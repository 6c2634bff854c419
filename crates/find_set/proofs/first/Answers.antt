-- `find_set::first` meets its contract. The words that the loop has passed are zero. Assumes nothing.
use Rattle.std.proofs.Common.{arith, rules}
use Rattle.find_set.proofs.Least.{lowest_none, lowest_found}
use Rattle.find_set.proofs.first.Goals as goal

pub returns-then-word-ne0 : goal.returns-then-word-ne0
returns-then-word-ne0 c =
    lowest_found _ _ c.loop-i.invariant (omega arith) c.if-word-ne0.true (search rules)

pub returns : goal.returns
returns c = lowest_none _ _ c.loop-i.invariant (omega arith)
