-- `find_pass::Named::follow` meets its contract, by what the entry is. Assumes nothing.
use mathlib.Core.Path.{sym, ◌∙◌}
use Rattle.find_pass.proofs.Entry.{name_inside, name_followed, create_followed, delete_followed, other_followed}
use Rattle.find_pass.proofs.Named.follow.Goals as goal

pub is_named-requires : goal.is_named-requires
is_named-requires c = name_inside _ _ _ c.requires
    (sym c.lfs_tag_type1.ensures ∙ c.if-lfs_tag_type1-eq-LFS_TYPE_NAME.true)

pub returns-then-lfs_tag_type1-eq-LFS_TYPE_NAME : goal.returns-then-lfs_tag_type1-eq-LFS_TYPE_NAME
returns-then-lfs_tag_type1-eq-LFS_TYPE_NAME c = name_followed _ _ _ c.requires
    (sym c.lfs_tag_type1.ensures ∙ c.if-lfs_tag_type1-eq-LFS_TYPE_NAME.true) _ _ _ _ _
    _ _ _ c.lfs_tag_id-id.ensures c.is_named.ensures
    c.name.ensures

pub returns-then-type3-eq-LFS_TYPE_CREATE : goal.returns-then-type3-eq-LFS_TYPE_CREATE
returns-then-type3-eq-LFS_TYPE_CREATE c = create_followed _ _ _ _ _ c.lfs_tag_id-id.ensures
    c.lfs_tag_type3-type3.ensures _ _ _ _ c.if-type3-eq-LFS_TYPE_CREATE.true c.make.ensures

pub returns-then-type3-eq-LFS_TYPE_DELETE : goal.returns-then-type3-eq-LFS_TYPE_DELETE
returns-then-type3-eq-LFS_TYPE_DELETE c = delete_followed _ _ _ _ _ c.lfs_tag_id-id.ensures
    c.lfs_tag_type3-type3.ensures _ _ _ _ c.if-type3-eq-LFS_TYPE_DELETE.true
    c.remove.ensures

pub returns-else-type3-eq-LFS_TYPE_DELETE : goal.returns-else-type3-eq-LFS_TYPE_DELETE
returns-else-type3-eq-LFS_TYPE_DELETE c = other_followed _ _ _ _ _ c.lfs_tag_id-id.ensures
    c.lfs_tag_type3-type3.ensures _ _
    (λ e. c.if-lfs_tag_type1-eq-LFS_TYPE_NAME.false (c.lfs_tag_type1.ensures ∙ e))
    c.if-type3-eq-LFS_TYPE_CREATE.false c.if-type3-eq-LFS_TYPE_DELETE.false
