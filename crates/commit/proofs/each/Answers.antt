-- `commit::each` meets its contract: one step more of a walk. Assumes nothing.
use Rattle.std.proofs.Common.{◌≡◌, Err, rules}
use Rattle.std.proofs.lemmas.List.{drop_all}
use Rattle.commit.specs.Passes.{done}
use Rattle.commit.proofs.Walks.{goes_at, ends_at}
use Rattle.commit.proofs.each.Goals as goal

pub returns-in_err-entry : goal.returns-in_err-entry
returns-in_err-entry g c =
    let e : c.from_residual.result ≡ Err c.in_err-entry.field-0.0 = search rules in
    rw e (c.loop-e.invariant _ _ (ends_at g.P.Pass.steps _ _ _ _ c.loop-e-test.true _ _ _ c.in_err-entry.ensures))

pub loop-e-preserved : goal.loop-e-preserved
loop-e-preserved g c r q on =
    c.loop-e.invariant r q (goes_at g.P.Pass.steps _ _ _ _ c.loop-e-test.true _ _ _ _ c.in_ok-entry.ensures on)

pub returns : goal.returns
returns g c = c.loop-e.invariant _ _ (rw (drop_all _ _ c.loop-e-test.false) done)
