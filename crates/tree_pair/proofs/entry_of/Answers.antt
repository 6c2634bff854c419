-- `tree_pair::entry_of` meets its contract: a name that is seen, and the struct. Assumes nothing.
use Rattle.std.proofs.Common.{◌≡◌, rules}
use Rattle.std.specs.Prelude.{None}
use Rattle.tree_pair.specs.Pair.{node_at, EntryIs}
use Rattle.tree_pair.proofs.Entries.{search_fits, entry_unseen, entry_bare, entry_dir, no_entry}
use Rattle.tree_pair.proofs.Entries.{entry_file}
use Rattle.tree_pair.proofs.entry_of.Goals as goal

pub returns-in_err-name : goal.returns-in_err-name
returns-in_err-name c =
    let e : c.from_residual.result ≡ None = search rules in
    no_entry _ _ _ e (entry_unseen _ _ _ _ c.requires _ c.name_seen.ensures (search rules))

pub find_back-requires : goal.find_back-requires
find_back-requires c = search_fits _ _ _ _ c.requires

pub returns-in_err-content : goal.returns-in_err-content
returns-in_err-content c =
    let e : c.from_residual-in_err-content.result ≡ None = search rules in
    no_entry _ _ _ e
    (entry_bare _ _ _ _ c.requires _ c.lfs_mktag-key.ensures _ c.find_back.ensures.0 (search rules))

pub returns-then-lfs_tag_type3-eq-LFS_TYPE_DIRSTRUCT : goal.returns-then-lfs_tag_type3-eq-LFS_TYPE_DIRSTRUCT
returns-then-lfs_tag_type3-eq-LFS_TYPE_DIRSTRUCT c =
    entry_dir _ _ _ _ c.requires _ c.lfs_mktag-key.ensures _ c.find_back.ensures.0 _ c.in_ok-content.was _ _
    c.name_seen.ensures c.in_ok-name.was _ c.read_at.ensures.buffer_after _ c.lfs_tag_type3.ensures
    c.if-lfs_tag_type3-eq-LFS_TYPE_DIRSTRUCT.true _ _ c.le32.ensures
    c.le32-then-lfs_tag_type3-eq-LFS_TYPE_DIRSTRUCT.ensures

pub returns : goal.returns
returns c =
    entry_file _ _ _ _ c.requires _ c.lfs_mktag-key.ensures _ c.find_back.ensures.0 _ c.in_ok-content.was _ _
    c.name_seen.ensures c.in_ok-name.was _ c.read_at.ensures.buffer_after _ c.lfs_tag_type3.ensures
    c.if-lfs_tag_type3-eq-LFS_TYPE_DIRSTRUCT.false _ c.size_of.ensures
