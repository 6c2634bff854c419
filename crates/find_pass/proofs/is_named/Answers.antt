-- `find_pass::is_named` meets its contract: another type, or as the bytes are. Assumes nothing.
use Rattle.find_pass.proofs.Names.{other_type, same_type}
use Rattle.find_pass.proofs.is_named.Goals as goal

pub returns-then-lfs_tag_type3-kind : goal.returns-then-lfs_tag_type3-kind
returns-then-lfs_tag_type3-kind c = other_type _ _ _ _ _ c.lfs_tag_type3.ensures c.if-lfs_tag_type3-kind.true

pub returns : goal.returns
returns c = same_type _ _ _ _ _ _ _ _ c.lfs_tag_type3.ensures
    c.if-lfs_tag_type3-kind.false c.lfs_tag_size.ensures c.eq.ensures
