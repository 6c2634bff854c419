-- `lookup::moved::read` meets its contract: what was found is what should be (`Moves.antt`). Assumes nothing.
use Rattle.format.proofs.Searched.{hit_in}
use Rattle.lookup.proofs.Moves.{move_none, move_some}
use Rattle.lookup.proofs.moved.read.Goals as goal

pub xor_at-requires : goal.xor_at-requires
xor_at-requires c = (hit_in _ _ c.newest.ensures.1 c.in-Some.is).counted

pub returns-in-None : goal.returns-in-None
returns-in-None c = let a = c.args in move_none a.b.now a.dir a.gdisk
    a.gstate.now _ _ c.lfs_mktag-gmask.ensures
    c.lfs_mktag-gtag.ensures _ c.newest.ensures.0 c.in-None.is

pub returns-in-Some : goal.returns-in-Some
returns-in-Some c = let a = c.args in move_some a.b.now
    a.dir a.gdisk a.gstate.now _ _ c.lfs_mktag-gmask.ensures
    c.lfs_mktag-gtag.ensures _
    c.newest.ensures.0 c.in-Some.is _ _
    c.xor_at.ensures.0 c.xor_at.ensures.1
