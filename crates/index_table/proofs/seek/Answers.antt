-- `index_table::seek` meets its contract. The loop keeps what is found in the places that are left. Assumes nothing.
use Rattle.std.proofs.Common.{arith}
use Rattle.index_table.proofs.Halving.{seek_start, seek_up, seek_down, seek_end}
use Rattle.index_table.proofs.seek.Goals as goal

pub loop-left-init : goal.loop-left-init
loop-left-init c = seek_start _ _ _ c.requires

pub loop-left-preserved-then-rank_of-rank : goal.loop-left-preserved-then-rank_of-rank
loop-left-preserved-then-rank_of-rank c =
    seek_up c.loop-left.invariant c.loop-left-test.true (omega (arith, c.rank_of.ensures))

pub loop-left-preserved : goal.loop-left-preserved
loop-left-preserved c =
    seek_down c.loop-left.invariant c.loop-left-test.true (omega (arith, c.rank_of.ensures))

pub returns : goal.returns
returns c = (seek_end c.loop-left.invariant c.loop-left-test.false, omega arith, omega arith)
