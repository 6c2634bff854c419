-- `fetch::answer` meets its contract: the count decides. Assumes nothing.
use Rattle.fetch.proofs.FromWalk.{too_many, few}
use Rattle.fetch.proofs.answer.Goals as goal

pub returns-then-dir-gt1023 : goal.returns-then-dir-gt1023
returns-then-dir-gt1023 c = too_many _ _ _ _ _ _ c.mdir-dir.ensures c.if-dir-gt1023.true

pub returns : goal.returns
returns c = few _ _ _ _ _ _ c.mdir-dir.ensures c.if-dir-gt1023.false
