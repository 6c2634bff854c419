-- `lookup::lfs_dir_getgstate` meets its contract: the test decides the definitions' case (`Moves.antt`). Assumes nothing.
use mathlib.Core.Path.{sym, ◌∙◌}
use Rattle.sizes.proofs.Records.{end_inside, in_block}
use Rattle.lookup.proofs.Moves.{getgstate_refused, getgstate_read}
use Rattle.lookup.proofs.lfs_dir_getgstate.Goals as goal

pub returns-then-not-takes : goal.returns-then-not-takes
returns-then-not-takes c = let a = c.args in getgstate_refused a.pair.g a.pair.b0.now a.pair.b1.now
    a.pair.n0 a.pair.n1 a.dir a.gdisk a.gstate.now _ c.takes.ensures c.if-not-takes.true

pub read-requires : goal.read-requires
read-requires c = let a = c.args in
    in_block a.pair.b0.now a.pair.b1.now a.pair.n0 a.dir _
    (end_inside _ _ _ _ _ _ (sym c.takes.ensures ∙ c.if-not-takes.false)) _ c.block_of-b.ensures

pub returns : goal.returns
returns c = let a = c.args in getgstate_read a.pair.g
    a.pair.b0.now a.pair.b1.now a.pair.n0 a.pair.n1 a.dir a.gdisk a.gstate.now _
    c.takes.ensures c.if-not-takes.false _ c.block_of-b.ensures _ _
    c.read.ensures.0 c.read.ensures.1
