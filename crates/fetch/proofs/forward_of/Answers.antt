-- `fetch::forward_of` meets its contract: the record's, if it was seen, or none. Assumes nothing.
use borrow.Author.Rules.{rules}
use Rattle.fetch.proofs.Again.{held_none}
use Rattle.fetch.proofs.forward_of.Goals as goal

pub returns-then-fcrc : goal.returns-then-fcrc
returns-then-fcrc c = search rules

pub returns : goal.returns
returns c = held_none c.args.dir _ c.if-fcrc.false
    c.empty.ensures
