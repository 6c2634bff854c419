-- `tree_walk::dir_walk` and `tree_walk::slot_walk`, which call each other, meet their contracts: one law of `Dirs` and
-- `Slots` for each way out. Assumes nothing.
use native.Mathlib.Omega.{arith}
use Rattle.tree_walk.proofs.Dirs as dirs
use Rattle.tree_walk.proofs.Slots as slots
use Rattle.tree_walk.proofs.+dir_walk_slot_walk.Goals as goal
use Rattle.tree_walk.proofs.+dir_walk_slot_walk.Goals.{slot_walk-in-Dir+in-Ok, slot_walk-in_default-entry}

pub dir_walk-returns-then-depth-gt-DEEPEST : goal.dir_walk-returns-then-depth-gt-DEEPEST
dir_walk-returns-then-depth-gt-DEEPEST t c =
    dirs.dir_deep _ _ _ _ _ c.if-depth-gt-DEEPEST.true _ c.stopped.ensures

pub dir_walk-loop-spare-init : goal.dir_walk-loop-spare-init
dir_walk-loop-spare-init t c = (omega arith, dirs.begins _ _ _ _ c.args.text.now)

pub dir_walk-returns-then-spare-eq0 : goal.dir_walk-returns-then-spare-eq0
dir_walk-returns-then-spare-eq0 t c =
    dirs.dir_spent _ _ _ _ _ c.if-depth-gt-DEEPEST.false _ _ _ c.loop-spare.invariant.0 c.loop-spare.invariant.1
    c.if-spare-eq0.true _ c.stopped-then-spare-eq0.ensures

pub dir_walk-returns-in-Err : goal.dir_walk-returns-in-Err
dir_walk-returns-in-Err t c =
    dirs.dir_refused _ _ _ _ _ c.if-depth-gt-DEEPEST.false _ _ _ c.loop-spare.invariant.0
    c.loop-spare.invariant.1 c.if-spare-eq0.false _ (dirs.at_refused _ _ _ _ c.open_in.ensures _ c.in-Err.is) _
    c.stopped-in-Err.ensures

pub dir_walk-returns-in_default : goal.dir_walk-returns-in_default
dir_walk-returns-in_default t c =
    dirs.dir_stops _ _ _ _ _ c.if-depth-gt-DEEPEST.false _ _ _ c.loop-spare.invariant.0
    c.loop-spare.invariant.1 c.if-spare-eq0.false _ _ (dirs.at_dir _ _ _ _ c.open_in.ensures _ c.in-Ok.is).0 _ _
    c.slot_walk-walked.ensures _ c.in_default.is

pub dir_walk-slot_walk-walked-requires : goal.dir_walk-slot_walk-walked-requires
dir_walk-slot_walk-walked-requires t c =
    (omega (arith, c.loop-spare.invariant.0), ((dirs.at_dir _ _ _ _ c.open_in.ensures _ c.in-Ok.is).1, omega arith))

pub dir_walk-returns-in_default-tail : goal.dir_walk-returns-in_default-tail
dir_walk-returns-in_default-tail t c =
    dirs.dir_ends _ _ _ _ _ c.if-depth-gt-DEEPEST.false _ _ _ c.loop-spare.invariant.0
    c.loop-spare.invariant.1 c.if-spare-eq0.false _ _ (dirs.at_dir _ _ _ _ c.open_in.ensures _ c.in-Ok.is).0 _ _
    c.slot_walk-walked.ensures c.in-Ok-answer.is c.in_default-tail.is

pub dir_walk-loop-spare-preserved : goal.dir_walk-loop-spare-preserved
dir_walk-loop-spare-preserved t c = (
  omega (arith, c.slot_walk-walked.ensures.low, c.loop-spare.invariant.0),
  dirs.dir_goes_on _ _ _ _ c.args.text.now c.if-depth-gt-DEEPEST.false _ _ _ c.loop-spare.invariant.0
      c.loop-spare.invariant.1 c.if-spare-eq0.false _ _ (dirs.at_dir _ _ _ _ c.open_in.ensures _ c.in-Ok.is).0 _ _
      c.slot_walk-walked.ensures c.in-Ok-answer.is _ c.in-Some.is,
)

pub slot_walk-loop-id-init : goal.slot_walk-loop-id-init
slot_walk-loop-id-init t c =
    (omega arith, slots.begins _ _ c.args.rules c.args.depth _ c.args.left c.args.text.now _ c.requires.0 c.block-b.ensures)

pub slot_walk-loop-id-preserved-in_default : goal.slot_walk-loop-id-preserved-in_default
slot_walk-loop-id-preserved-in_default t c = (
  c.loop-id.invariant.0,
  slots.slot_nothing _ _ c.args.rules c.args.depth _ c.args.left c.args.text.now _ c.requires.0 c.block-b.ensures _ _ c.loop-id.text
      c.loop-id-test.true c.loop-id.invariant.0 c.loop-id.invariant.1 c.entry_of.result c.entry_of.ensures
      c.in_default.is,
)

pub slot_walk-returns-in_default-answer : goal.slot_walk-returns-in_default-answer
slot_walk-returns-in_default-answer t c =
    slots.slot_stops _ _ c.args.rules c.args.depth _ c.args.left _ _ c.requires.0 c.block-b.ensures _ _ _
    c.loop-id-test.true c.loop-id.invariant.0 c.loop-id.invariant.1 c.entry_of.result c.entry_of.ensures
    _ c.in-Some.is _ c.entry_line.ensures _ _ c.in-Dir.is _ _ c.dir_walk-walked.ensures _ c.in_default-answer.is

pub slot_walk-loop-id-preserved : goal.slot_walk-loop-id-preserved
slot_walk-loop-id-preserved t c =
    let a = c.args in
    elim c.match-entry.branch [
      | slot_walk-in-Dir+in-Ok w ↦
          slots.kept_by _ _ a.rules a.depth a.dir a.left a.text.now _ _ _ _ _ _ w.text-is w.spare-is (
            omega (arith, w.dir_walk-walked.ensures.low, c.loop-id.invariant.0),
            slots.slot_goes_on _ _ a.rules a.depth _ a.left a.text.now _ c.requires.0 c.block-b.ensures _ _ _
                c.loop-id-test.true c.loop-id.invariant.0 c.loop-id.invariant.1 c.entry_of.result
                c.entry_of.ensures _ c.in-Some.is _ c.entry_line.ensures _ _ w.in-Dir.is _ _ w.dir_walk-walked.ensures
                w.in-Ok.is,
          )
      | slot_walk-in_default-entry w ↦
          slots.kept_by _ _ a.rules a.depth a.dir a.left a.text.now _ _ _ _ _ _ w.text-is w.spare-is (
            c.loop-id.invariant.0,
            slots.slot_plain _ _ a.rules a.depth _ a.left a.text.now _ c.requires.0 c.block-b.ensures _ _ _
                c.loop-id-test.true c.loop-id.invariant.0 c.loop-id.invariant.1 c.entry_of.result
                c.entry_of.ensures _ c.in-Some.is _ c.entry_line.ensures w.in_default-entry.not-Dir,
          )
    ]

pub slot_walk-returns : goal.slot_walk-returns
slot_walk-returns t c =
    slots.slots_end _ _ c.args.rules c.args.depth _ c.args.left _ _ c.requires.0 c.block-b.ensures _ _ _
    c.loop-id-test.false c.loop-id.invariant.0 c.loop-id.invariant.1
