-- `commit_lay::put_all` meets its contract. The loop keeps that the bytes before are put. Assumes nothing.
use Rattle.commit_lay.proofs.Puts.{puts_none, puts_more}
use Rattle.commit_lay.proofs.put_all.Goals as goal

pub loop-byte-init : goal.loop-byte-init
loop-byte-init c = puts_none _

pub loop-byte-preserved : goal.loop-byte-preserved
loop-byte-preserved c = puts_more _ c.loop-byte.byte-index _ _ _ c.loop-byte-test.true c.loop-byte.invariant
    c.put-w.ensures
