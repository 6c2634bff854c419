-- `lookup::lfs_dir_get` meets its contract: the slice of the buffer's front (`Slices.antt`). Assumes nothing.
use mathlib.Core.Path.{sym}
use lib.Seq.{length-take-le}
use Rattle.lookup.proofs.Slices.{get_short, get_long, get_read}
use Rattle.lookup.proofs.lfs_dir_get.Goals as goal

pub returns-then-buffer-size : goal.returns-then-buffer-size
returns-then-buffer-size c = let a = c.args in let all = get_short a.pair.g a.pair.b0.now a.pair.b1.now
    a.pair.n0 a.pair.n1 a.dir a.gdisk a.gmask a.gtag a.buffer.now _ c.lfs_tag_size-size.ensures
    c.if-buffer-size.true in
    record { value = all.0; buffer_after = all.1 }

pub returns-then-buffer-gt-LONGEST_BUFFER : goal.returns-then-buffer-gt-LONGEST_BUFFER
returns-then-buffer-gt-LONGEST_BUFFER c = let a = c.args in let all = get_long a.pair.g a.pair.b0.now
    a.pair.b1.now a.pair.n0 a.pair.n1 a.dir a.gdisk a.gmask a.gtag a.buffer.now _
    c.lfs_tag_size-size.ensures c.if-buffer-size.false c.if-buffer-gt-LONGEST_BUFFER.true in
    record { value = all.0; buffer_after = all.1 }

pub slice_bounds-lfs_dir_getslice-end-2 : goal.slice_bounds-lfs_dir_getslice-end-2
slice_bounds-lfs_dir_getslice-end-2 c =
    sym (length-take-le _ c.args.buffer.now
    c.if-buffer-size.false)

pub returns : goal.returns
returns c =
    let a = c.args in let all = get_read a.pair.g a.pair.b0.now a.pair.b1.now a.pair.n0 a.pair.n1 a.dir a.gdisk a.gmask a.gtag a.buffer.now
    _ c.lfs_tag_size-size.ensures
    c.if-buffer-size.false c.if-buffer-gt-LONGEST_BUFFER.false _ _
    c.lfs_dir_getslice.ensures.value c.lfs_dir_getslice.ensures.buffer_after in
    record { value = all.0; buffer_after = all.1 }
