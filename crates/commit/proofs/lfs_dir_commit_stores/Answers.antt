-- `commit::lfs_dir_commit_stores` meets its contract: a refusal, or the number of stores made. Assumes nothing.
use Rattle.std.proofs.Common.{◌≡◌, Err, rules}
use Rattle.commit.proofs.Rules.{stores_refused, stores_made}
use Rattle.commit.proofs.lfs_dir_commit_stores.Goals as goal

pub returns-in_err-laid : goal.returns-in_err-laid
returns-in_err-laid c =
    let e : c.from_residual.result ≡ Err c.in_err-laid.field-0.0 = search rules in
    stores_refused _ _ _ _ _ _ _ _ _ _ _ _ _ _ _ c.run.ensures _ _ c.in_err-laid.was e

pub returns : goal.returns
returns c = stores_made _ _ _ _ _ _ _ _ _ _ _ _ _ _ _ c.run.ensures _ _ c.in_ok-laid.was c.made.ensures
