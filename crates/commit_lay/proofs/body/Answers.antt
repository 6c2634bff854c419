-- `commit_lay::body` meets its contract: none for a removal, and else what there is of it. Assumes nothing.
use Rattle.commit_lay.proofs.Parts.{removal_body, data_body}
use Rattle.commit_lay.proofs.body.Goals as goal

pub returns-then-len-eq-REMOVAL : goal.returns-then-len-eq-REMOVAL
returns-then-len-eq-REMOVAL c = removal_body c.args.dat.now c.args.off c.args.len c.if-len-eq-REMOVAL.true

pub returns : goal.returns
returns c = data_body c.args.dat.now c.args.off c.args.len _ _ c.min-from.ensures c.min-size.ensures
    c.if-len-eq-REMOVAL.false
