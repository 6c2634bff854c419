-- `commit_regular::log_regular` meets its contract. The loop keeps that the log is regular if what is left of it is
-- (`Ahead`). Assumes nothing.
use mathlib.Core.Path.{sym}
use Rattle.commit_regular.proofs.Turn.{begins, all_regular, turn_bad, turn_on}
use Rattle.commit_regular.proofs.log_regular.Goals as goal

pub loop-logged-init : goal.loop-logged-init
loop-logged-init c = (
  tt,
  tt,
  rw c.into_iter-logged-iterator.ensures.into_iter_gives
      (begins _ _ _ c.requires _ c.new-ruled.ensures _ c.new-logged-items.ensures).ahead,
)

pub returns-then-not-passes : goal.returns-then-not-passes
returns-then-not-passes c = sym (turn_bad _ _ _ _ c.loop-logged.invariant.2 _ _
    (c.in-Some.ensures.steps _) _ c.passes.ensures.good c.if-not-passes.true)

pub loop-logged-preserved : goal.loop-logged-preserved
loop-logged-preserved c = (
  tt,
  tt,
  (turn_on _ _ _ _ c.loop-logged.invariant.2 _ _ (c.in-Some.ensures.steps _) _ c.passes.ensures.good
      c.if-not-passes.false _ c.passes.ensures.self_after).ahead,
)

pub returns : goal.returns
returns c =
    let ahead = c.loop-logged.invariant.2 in
    sym (all_regular _ _ _ _ ahead (c.in-None.ensures.steps ahead.on))
