-- `commit::lfs_dir_commit` meets its contract: a refusal, or what is fetched again. Assumes nothing.
use Rattle.std.proofs.Common.{◌≡◌, Err, rules}
use Rattle.commit.proofs.Rules.{commit_refused, commit_done}
use Rattle.commit.proofs.lfs_dir_commit.Goals as goal

pub returns-in_err-laid : goal.returns-in_err-laid
returns-in_err-laid c =
    let e : c.from_residual.result ≡ Err c.in_err-laid.field-0.0 = search rules in
    commit_refused _ _ _ _ _ _ _ _ _ _ _ _ _ _ c.run.ensures _ _ c.in_err-laid.was e

pub returns : goal.returns
returns c = commit_done _ _ _ _ _ _ _ _ _ _ _ _ _ _ c.run.ensures _ _ c.in_ok-laid.was c.lfs_dir_refetch.ensures
