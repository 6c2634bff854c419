-- `lookup_back::tag_before` meets its contract: the code's XOR is the definition's. Assumes nothing.
use Rattle.lookup_back.proofs.Step.{before_is}
use Rattle.lookup_back.proofs.tag_before.Goals as goal

pub returns : goal.returns
returns c = before_is c.args.b.now c.args.at c.args.tag _
    c.be32.ensures
