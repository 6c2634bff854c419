-- `compact_slot::gather_into` meets its contract. The loop keeps what a free seat may still find (`Gathering`); the
-- offset falls, and the slot's id grows by less than it. Assumes nothing.
use native.Mathlib.Omega.{arith}
use Rattle.compact_slot.proofs.Turn.{starts, id_before_most, walk_over, walk_created, walk_on}
use Rattle.compact_slot.proofs.gather_into.Goals as goal

pub loop-at-init : goal.loop-at-init
loop-at-init c =
    let zeros = rw c.told-seats at (c.fill.ensures.after (λ y e. e)) in
    let new = c.new-at-items.ensures in
    let e = c.into_iter-at-iterator.ensures.into_iter_gives in (
      tt,
      tt,
      rw e (omega (arith, new.off)),
      rw e (omega (arith, new.off)),
      rw (zeros, e, new.tags) (starts _ _ _),
    )

pub returns : goal.returns
returns c = walk_over _ _ _ _ _ _ c.loop-at.invariant.4 c.in-None.ensures.steps

pub returns-then-created : goal.returns-then-created
returns-then-created c = walk_created _ _ _ _ _ _ c.loop-at.invariant.4 _ _ _
    c.in-Some.ensures.steps.is _ c.created.ensures c.if-created.true

pub loop-at-preserved : goal.loop-at-preserved
loop-at-preserved c =
    let step = c.in-Some.ensures.steps in
    let inv = c.loop-at.invariant in (
      tt,
      tt,
      omega (arith, step.on, step.word, inv.2),
      omega (arith, step.on, step.word, inv.3, c.id_before-slot.ensures, id_before_most c.in-Some.tag c.loop-at.slot),
      walk_on _ _ _ _ _ _ inv.4 _ _ _ step.is _ c.created.ensures c.if-created.false (omega (arith, c.requires.slot))
          (omega (arith, step.ends, inv.2, c.requires.inside)) _ c.note.ensures _ c.id_before-slot.ensures,
    )
