-- `lookup::lfs_dir_getinfo` meets its contract: the tests decide the definition's case (`Infos.antt`). Assumes nothing.
use Rattle.sizes.proofs.Records.{in_block}
use Rattle.lookup.proofs.Infos.{getinfo_refused, getinfo_inside, getinfo_root, getinfo_read}
use Rattle.lookup.proofs.lfs_dir_getinfo.Goals as goal

pub returns-then-not-fits-name_max : goal.returns-then-not-fits-name_max
returns-then-not-fits-name_max c = let a = c.args in getinfo_refused a.pair.g a.pair.b0.now a.pair.b1.now
    a.pair.n0 a.pair.n1 a.dir a.gdisk a.name_max a.id _ c.takes-fits.ensures
    c.if-not-fits-name_max.true

pub returns-then-id-eq-NO_SLOT : goal.returns-then-id-eq-NO_SLOT
returns-then-id-eq-NO_SLOT c = let a = c.args in getinfo_root a.pair.g a.pair.b0.now
    a.pair.b1.now a.pair.n0 a.pair.n1 a.dir a.gdisk a.name_max a.id _
    c.takes-fits.ensures c.if-not-fits-name_max.false c.if-id-eq-NO_SLOT.true _
    c.root.ensures

pub read-requires : goal.read-requires
read-requires c = let a = c.args in let f =
    getinfo_inside a.pair.g a.pair.b0.now a.pair.b1.now a.pair.n0 a.pair.n1 a.dir a.gdisk a.name_max a.id _
    c.takes-fits.ensures c.if-not-fits-name_max.false in
    (in_block a.pair.b0.now a.pair.b1.now a.pair.n0 a.dir _ f.0 _ c.block_of-b.ensures, f.1.0, f.1.1)

pub returns : goal.returns
returns c = let a = c.args in getinfo_read
    a.pair.g a.pair.b0.now a.pair.b1.now a.pair.n0 a.pair.n1 a.dir a.gdisk a.name_max a.id _
    c.takes-fits.ensures
    c.if-not-fits-name_max.false c.if-id-eq-NO_SLOT.false _ c.block_of-b.ensures _ c.read.ensures
