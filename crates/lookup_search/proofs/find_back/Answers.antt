-- `lookup_search::find_back` meets its contract. The loop's invariant: the end is not passed, and what is left of the
-- walk answers what the whole does. Each way out of a turn is a law of `Turn.antt`. Assumes nothing.
use Rattle.std.proofs.Common.{sym, ◌∙◌, arith}
use Rattle.lookup_search.proofs.Turn.{walk_over, turn_created, turn_removed, turn_found, turn_on, turn_inside}
use Rattle.lookup_search.proofs.find_back.Goals as goal

pub loop-at-init : goal.loop-at-init
loop-at-init c =
    let new = c.new-at-items.ensures in
    let e = c.into_iter-at-iterator.ensures.into_iter_gives in
    (tt, tt, rw e (omega (arith, new.off)), rw (c.lfs_tag_id-ids.ensures, e, new.tags))

pub returns-then-spliced-tag : goal.returns-then-spliced-tag
returns-then-spliced-tag c = (
  turn_created _ _ _ _ _ _ c.loop-at.invariant.3 _ _ _ c.in-Some.ensures.steps.is _ c.key_at-key.ensures _
      c.splices-spliced.ensures _ c.create_at.ensures c.if-spliced-tag.true,
  tt,
)

pub returns-then-lfs_tag_isdelete : goal.returns-then-lfs_tag_isdelete
returns-then-lfs_tag_isdelete c = (
  turn_removed _ _ _ _ _ _ c.loop-at.invariant.3 _ _ _ c.in-Some.ensures.steps.is _ c.key_at-key.ensures _
      c.splices-spliced.ensures _ c.create_at.ensures
      c.if-spliced-tag.false _
      c.diff_after-next.ensures _ c.key_at.ensures
      c.if-tag-gmask.true (sym c.lfs_tag_isdelete.ensures ∙ c.if-lfs_tag_isdelete.true),
  tt,
)

pub returns-then-tag-gmask : goal.returns-then-tag-gmask
returns-then-tag-gmask c =
    let step = c.in-Some.ensures.steps in
    let kept = sym c.lfs_tag_isdelete.ensures ∙ c.if-lfs_tag_isdelete.false in (
      turn_found _ _ _ _ _ _ c.loop-at.invariant.3 _ _ _ step.is _ c.key_at-key.ensures _
          c.splices-spliced.ensures _ c.create_at.ensures
          c.if-spliced-tag.false _
          c.diff_after-next.ensures _ c.key_at.ensures
          c.if-tag-gmask.true kept _ c.found_at.ensures,
      turn_inside _ _ _ _ (omega (arith, step.ends, c.loop-at.invariant.2)) kept _ c.found_at.ensures,
    )

pub loop-at-preserved : goal.loop-at-preserved
loop-at-preserved c =
    let step = c.in-Some.ensures.steps in (
      tt,
      tt,
      omega (arith, step.on, step.word, c.loop-at.invariant.2),
      turn_on _ _ _ _ _ _ c.loop-at.invariant.3 _ _ _ step.is _ c.key_at-key.ensures _ c.splices-spliced.ensures _
          c.create_at.ensures
          c.if-spliced-tag.false _ c.diff_after-next.ensures _
          c.key_at.ensures c.if-tag-gmask.false,
    )

pub returns : goal.returns
returns c = (walk_over _ _ _ _ _ _ c.loop-at.invariant.3 c.in-None.ensures.steps, tt)
