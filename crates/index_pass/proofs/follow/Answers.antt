-- `index_pass::follow` meets its contract, by what the entry is. Assumes nothing.
use Rattle.std.proofs.Common.{sym, ◌∙◌, rules}
use Rattle.index_pass.proofs.Entry.{unset_follows, set_follows, make_follows, remove_follows, other_follows}
use Rattle.index_pass.proofs.follow.Goals as goal

pub returns-then-lfs_tag_isdelete : goal.returns-then-lfs_tag_isdelete
returns-then-lfs_tag_isdelete c =
    let class = c.in-Some.ensures in
    unset_follows _ _ c.lfs_tag_id-id.ensures _ class.0 class.1 c.rank_at-rank.ensures
    (sym c.lfs_tag_isdelete.ensures ∙ c.if-lfs_tag_isdelete.true) _ c.unset.ensures

pub returns-in-Some : goal.returns-in-Some
returns-in-Some c =
    let class = c.in-Some.ensures in
    set_follows _ _ c.lfs_tag_id-id.ensures _ class.0 class.1 c.rank_at-rank.ensures
    (sym c.lfs_tag_isdelete.ensures ∙ c.if-lfs_tag_isdelete.false) c.requires.0 _ _ c.set.ensures

pub returns-in-1025 : goal.returns-in-1025
returns-in-1025 c = make_follows _ _ c.lfs_tag_id-id.ensures _ c.in_default.ensures c.lfs_tag_type3.ensures
    c.in-1025.is _ c.make.ensures

pub returns-in-1279 : goal.returns-in-1279
returns-in-1279 c = remove_follows _ _ c.lfs_tag_id-id.ensures _ c.in_default.ensures c.lfs_tag_type3.ensures
    c.in-1279.is _ c.remove.ensures

pub returns-in_default-lfs_tag_type3 : goal.returns-in_default-lfs_tag_type3
returns-in_default-lfs_tag_type3 c = other_follows _ _ c.lfs_tag_id-id.ensures _ c.in_default.ensures
    c.lfs_tag_type3.ensures (search rules) (search rules)
