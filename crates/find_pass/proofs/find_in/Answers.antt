-- `find_pass::find_in` meets its contract. The loop keeps which of the slots so far have the name, and the events that
-- are left (`Going`). Assumes nothing.
use Rattle.commit_regular.proofs.Turn.{turn_bad}
use Rattle.find_pass.proofs.Turn.{starts_going, none_named, check_goes, entry_followable, entry_goes, refused, ends}
use Rattle.find_pass.proofs.find_in.Goals as goal

pub loop-logged-init : goal.loop-logged-init
loop-logged-init c = (
  tt,
  tt,
  rw c.into_iter-logged-iterator.ensures.into_iter_gives
      (starts_going _ _ _ _ (none_named _ _) c.requires _ c.none-named.ensures.set _ c.none-named.ensures.any _
      c.new-ruled.ensures _ c.new-logged-items.ensures),
)

pub returns-then-not-passes : goal.returns-then-not-passes
returns-then-not-passes c = refused _ _ _ _ (turn_bad _ _ _ _ c.loop-logged.invariant.2.ahead _ _
    (c.in-Some.ensures.steps _) _ c.passes.ensures.good c.if-not-passes.true)

pub follow-requires : goal.follow-requires
follow-requires c = entry_followable _ _ _ (none_named _ _) _ _ _ _ c.loop-logged.invariant.2 _ c.if-not-passes.false
    _ _ _ (rw c.in-Entry.is at (c.in-Some.ensures.steps c.loop-logged.invariant.2.ahead.on))
    (rw c.in-Entry.is at c.passes.ensures.good)

pub loop-logged-preserved-in-Entry : goal.loop-logged-preserved-in-Entry
loop-logged-preserved-in-Entry c =
    let on = c.if-not-passes.false in (
      tt,
      tt,
      entry_goes _ _ _ (none_named _ _) _ _ _ _ c.loop-logged.invariant.2 _ on
          _ _ _ (rw c.in-Entry.is at (c.in-Some.ensures.steps c.loop-logged.invariant.2.ahead.on))
          (rw c.in-Entry.is at c.passes.ensures.good) _ _ c.follow.ensures _
          (rw c.in-Entry.is at c.passes.ensures.self_after),
    )

pub loop-logged-preserved : goal.loop-logged-preserved
loop-logged-preserved c =
    let on = c.if-not-passes.false in (
      tt,
      tt,
      check_goes _ _ _ (none_named _ _) _ _ _ _ c.loop-logged.invariant.2 _ on
          _ c.in_default.not-Entry _ (c.in-Some.ensures.steps c.loop-logged.invariant.2.ahead.on)
          c.passes.ensures.good _ c.passes.ensures.self_after,
    )

pub returns : goal.returns
returns c =
    let going = c.loop-logged.invariant.2 in
    ends _ _ _ _ _ _ _ _ going (c.in-None.ensures.steps going.ahead.on) _ c.lowest.ensures
