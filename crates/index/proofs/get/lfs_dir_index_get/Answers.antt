-- `index::get::lfs_dir_index_get` meets its contract: the tests decide the definitions' case (`Called.antt`). Assumes nothing.
use mathlib.Core.Path.{sym, ◌∙◌}
use Rattle.index.proofs.Place.{hit_long}
use Rattle.index.proofs.Called.{get_refused, get_nothing, get_found}
use Rattle.std.proofs.Common.{◌≡◌, None, rules}
use Rattle.index.proofs.get.lfs_dir_index_get.Goals as goal

pub returns-then-not-fits-buffer : goal.returns-then-not-fits-buffer
returns-then-not-fits-buffer c = let a = c.args in let all = get_refused a.pair.g a.pair.b0.now a.pair.b1.now a.pair.n0 a.pair.n1 a.dir a.table.now a.kind a.id a.buffer.now _ c.takes-fits.ensures c.if-not-fits-buffer.true in record { value = all.0; buffer_after = all.1 }

pub read_at-requires : goal.read_at-requires
read_at-requires c = let a = c.args in hit_long a.table.now a.kind a.id _ (sym c.in-Some.is ∙ c.place_of.ensures)

pub returns-in_default : goal.returns-in_default
returns-in_default c =
    let a = c.args in
    let n : c.place_of.result ≡ None = search rules in
    let all = get_nothing a.pair.g a.pair.b0.now a.pair.b1.now a.pair.n0 a.pair.n1 a.dir a.table.now a.kind a.id a.buffer.now _
    c.takes-fits.ensures c.if-not-fits-buffer.false _ c.place_of.ensures n in
    record { value = all.0; buffer_after = all.1 }

pub returns : goal.returns
returns c =
    let a = c.args in
    let all = get_found a.pair.g a.pair.b0.now a.pair.b1.now a.pair.n0 a.pair.n1 a.dir a.table.now a.kind a.id a.buffer.now _
    c.takes-fits.ensures c.if-not-fits-buffer.false _ c.place_of.ensures _ c.in-Some.is _ c.block_of-b.ensures
    _ _ c.read_at.ensures.value c.read_at.ensures.buffer_after in
    record { value = all.0; buffer_after = all.1 }
