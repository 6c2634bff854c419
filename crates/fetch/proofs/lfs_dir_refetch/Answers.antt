-- `fetch::lfs_dir_refetch` meets its contract, by the tests in order. Assumes nothing.
use Rattle.fetch.proofs.Again.{refetch_invalid, block_known, refetch_high, refetch_read}
use Rattle.fetch.proofs.lfs_dir_refetch.Goals as goal

pub returns-then-not-fits-dir : goal.returns-then-not-fits-dir
returns-then-not-fits-dir c =
    let a = c.args in
    refetch_invalid a.pair.g a.pair.b0.now a.pair.b1.now a.pair.n0 a.pair.n1 a.block_count a.seed a.dir _
    c.takes-fits.ensures (c.if-not-fits-dir.true)

pub returns-then-too_high : goal.returns-then-too_high
returns-then-too_high c =
    let a = c.args in
    refetch_high a.pair.g a.pair.b0.now a.pair.b1.now a.pair.n0 a.pair.n1 a.block_count a.seed a.dir _
    c.takes-fits.ensures c.if-not-fits-dir.false _ _
    c.too_high.ensures c.too_high-2.ensures c.if-too_high.true

pub go_on-requires : goal.go_on-requires
go_on-requires c =
    let a = c.args in
    block_known a.pair.g a.pair.b0.now a.pair.b1.now a.pair.n0 a.pair.n1 a.block_count a.seed a.dir _
    c.takes-fits.ensures c.if-not-fits-dir.false _ c.block_of-b.ensures

pub returns : goal.returns
returns c =
    let a = c.args in
    refetch_read a.pair.g a.pair.b0.now a.pair.b1.now a.pair.n0 a.pair.n1 a.block_count a.seed a.dir _
    c.takes-fits.ensures c.if-not-fits-dir.false _ _
    c.too_high.ensures
    c.too_high-2.ensures
    c.if-too_high.false _ _ c.block_of-b.ensures c.go_on.ensures
