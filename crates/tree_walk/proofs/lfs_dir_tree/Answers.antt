-- The walk from the start of the text. Assumes nothing.
use Rattle.std.proofs.Common.{rules}
use Rattle.tree_walk.proofs.Whole.{tree_refused, tree_walked}
use Rattle.tree_walk.proofs.lfs_dir_tree.Goals as goal

pub returns-in-Err : goal.returns-in-Err
returns-in-Err c =
    let a = c.args in
    let e = c.in-Err.ensures in
    let all = tree_refused a.g a.vol.now a.n0 a.n1 a.rules a.allowance e.1 a.out.now in
    record { value = rw e.0 all.0; out_after = all.1 }

pub returns : goal.returns
returns c =
    let a = c.args in
    let e = c.in-Ok.ensures in
    let went = rw (e.0, e.1) at c.dir_walk-walked.ensures in
    let all = tree_walked a.g a.vol.now a.n0 a.n1 a.rules a.allowance _ e.2 e.3 _ _ _ _
    c.new-text.ensures went in
    record { value = rw c.len.ensures all.0; out_after = rw (← all.1) (search rules) }
