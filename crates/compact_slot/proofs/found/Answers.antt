-- `compact_slot::found` meets its contract: nothing, nothing, or the entry. Assumes nothing.
use native.Mathlib.Omega.{arith}
use Rattle.compact_slot.proofs.Leaves.{found_free, found_removed, found_kept}
use Rattle.compact_slot.proofs.found.Goals as goal

pub returns-then-off-eq0 : goal.returns-then-off-eq0
returns-then-off-eq0 c = found_free _ _ c.if-off-eq0.true

pub returns-then-lfs_tag_isdelete : goal.returns-then-lfs_tag_isdelete
returns-then-lfs_tag_isdelete c = found_removed _ _ _ c.lfs_tag_isdelete.ensures c.if-off-eq0.false c.if-lfs_tag_isdelete.true

pub returns : goal.returns
returns c = found_kept _ _ _ c.lfs_tag_isdelete.ensures c.if-off-eq0.false
    c.if-lfs_tag_isdelete.false _ c.lfs_tag_dsize.ensures

pub overflow_mul-tag : goal.overflow_mul-tag
overflow_mul-tag c = omega arith

pub offset_bounds-seats-class : goal.offset_bounds-seats-class
offset_bounds-seats-class c = omega arith

pub bounds-seats-class : goal.bounds-seats-class
bounds-seats-class c = omega arith

pub overflow_mul-off : goal.overflow_mul-off
overflow_mul-off c = omega arith

pub overflow_add-off : goal.overflow_add-off
overflow_add-off c = omega arith

pub offset_bounds-seats-class-2 : goal.offset_bounds-seats-class-2
offset_bounds-seats-class-2 c = omega arith

pub bounds-seats-class-2 : goal.bounds-seats-class-2
bounds-seats-class-2 c = omega arith
