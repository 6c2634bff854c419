-- `commit_steps::begin` meets its contract: where the log of the block that answers ends. Assumes nothing.
use Rattle.std.proofs.Common.{sym, ◌∙◌}
use Rattle.commit_regular.proofs.Found.{ends_block}
use Rattle.commit_steps.proofs.begin.Goals as goal

pub start-requires : goal.start-requires
start-requires c =
    ends_block _ _ _ _ _ _ _ _ _ (sym c.in_ok-old.was ∙ c.lfs_dir_fetch.ensures) _ c.block_of.ensures
