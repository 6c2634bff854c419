-- `compact_slot::id_before` meets its contract, by what the tag splices. Assumes nothing.
use Rattle.compact_slot.proofs.Leaves.{before_create, before_create_above, before_delete, before_delete_above}
use Rattle.compact_slot.proofs.Leaves.{before_other}
use Rattle.compact_slot.proofs.id_before.Goals as goal

pub returns-then-at-id : goal.returns-then-at-id
returns-then-at-id c = before_create _ _ _ _ c.lfs_tag_type3-type3.ensures
    c.lfs_tag_id-at.ensures c.if-type3-eq-LFS_TYPE_CREATE.true c.if-at-id.true

pub returns-else-at-id : goal.returns-else-at-id
returns-else-at-id c = before_create_above _ _ _ _ c.lfs_tag_type3-type3.ensures
    c.lfs_tag_id-at.ensures c.if-type3-eq-LFS_TYPE_CREATE.true c.if-at-id.false

pub returns-then-at-id-2 : goal.returns-then-at-id-2
returns-then-at-id-2 c = before_delete _ _ _ _ c.lfs_tag_type3-type3.ensures
    c.lfs_tag_id-at.ensures c.if-type3-eq-LFS_TYPE_CREATE.false c.if-type3-eq-LFS_TYPE_DELETE.true
    c.if-at-id-2.true

pub returns-else-at-id-2 : goal.returns-else-at-id-2
returns-else-at-id-2 c = before_delete_above _ _ _ _ c.lfs_tag_type3-type3.ensures
    c.lfs_tag_id-at.ensures c.if-type3-eq-LFS_TYPE_CREATE.false c.if-type3-eq-LFS_TYPE_DELETE.true
    c.if-at-id-2.false

pub returns : goal.returns
returns c = before_other _ _ _ _ c.lfs_tag_type3-type3.ensures
    c.lfs_tag_id-at.ensures c.if-type3-eq-LFS_TYPE_CREATE.false c.if-type3-eq-LFS_TYPE_DELETE.false
