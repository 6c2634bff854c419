-- `lookup::lfs_dir_getslice` meets its contract: the tests decide the definitions' case (`Slices.antt`). Assumes
-- nothing.
use Rattle.sizes.proofs.Records.{in_block}
use Rattle.lookup.proofs.Slices.{getslice_refused, getslice_inside, getslice_read}
use Rattle.lookup.proofs.lfs_dir_getslice.Goals as goal

pub returns-then-not-fits-buffer : goal.returns-then-not-fits-buffer
returns-then-not-fits-buffer c = let a = c.args in let all = getslice_refused a.pair.g a.pair.b0.now a.pair.b1.now
    a.pair.n0 a.pair.n1 a.dir a.gdisk a.gmask a.gtag a.goff a.buffer.now _
    c.takes-fits.ensures c.if-not-fits-buffer.true in
    record { value = all.0; buffer_after = all.1 }

pub read-requires : goal.read-requires
read-requires c = let a = c.args in
    in_block a.pair.b0.now a.pair.b1.now a.pair.n0 a.dir _
    (getslice_inside a.pair.g a.pair.b0.now a.pair.b1.now a.pair.n0 a.pair.n1 a.dir a.gdisk a.gmask a.gtag a.goff
    a.buffer.now _ c.takes-fits.ensures
    c.if-not-fits-buffer.false) _ c.block_of-b.ensures

pub returns : goal.returns
returns c =
    let a = c.args in let all = getslice_read a.pair.g a.pair.b0.now a.pair.b1.now a.pair.n0 a.pair.n1 a.dir a.gdisk a.gmask a.gtag
    a.goff a.buffer.now _ c.takes-fits.ensures c.if-not-fits-buffer.false _ c.block_of-b.ensures _ _
    c.read.ensures.value c.read.ensures.buffer_after in
    record { value = all.0; buffer_after = all.1 }
