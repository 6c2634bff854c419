-- The search under 0x700, and under a hidden name that under 0x780. Assumes nothing.
use Rattle.tree_pair.proofs.Entries.{search_fits, name_none, name_plain, name_unseen, name_under}
use Rattle.tree_pair.proofs.name_seen.Goals as goal

pub find_back-requires : goal.find_back-requires
find_back-requires c = search_fits _ _ _ _ c.requires

pub returns-in_err-name : goal.returns-in_err-name
returns-in_err-name c =
    rw c.from_residual.ensures
    (name_none _ _ _ _ c.requires _ c.lfs_mktag-key.ensures _ c.find_back.ensures.0 c.in_err-name.was)

pub find_back-requires-then-is_hidden : goal.find_back-requires-then-is_hidden
find_back-requires-then-is_hidden c = search_fits _ _ _ _ c.requires

pub returns-in_err-find_back : goal.returns-in_err-find_back
returns-in_err-find_back c =
    rw c.from_residual-in_err-find_back.ensures
    (name_unseen _ _ _ _ c.requires _ c.lfs_mktag-key.ensures _ c.find_back.ensures.0 _ c.in_ok-name.was _
    c.find_back-then-is_hidden.ensures.0 c.in_err-find_back.was)

pub returns-in_ok-find_back : goal.returns-in_ok-find_back
returns-in_ok-find_back c =
    name_under _ _ _ _ c.requires _ c.lfs_mktag-key.ensures _ c.find_back.ensures.0 _ c.in_ok-name.was _
    c.find_back-then-is_hidden.ensures.0 _ c.in_ok-find_back.was

pub returns-else-is_hidden : goal.returns-else-is_hidden
returns-else-is_hidden c =
    name_plain _ _ _ _ c.requires _ c.lfs_mktag-key.ensures _ c.find_back.ensures.0 _ c.in_ok-name.was _
    c.is_hidden.ensures c.if-is_hidden.false
