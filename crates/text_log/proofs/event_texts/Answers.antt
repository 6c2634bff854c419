-- A turn is shown, and those behind it are left. Assumes nothing.
use Rattle.std.proofs.Common.{sym, arith}
use Rattle.fetch_walk.proofs.Turns.{entry_moved, check_moved}
use Rattle.text_log.proofs.WalkShown.{turn_entry, turn_check, turn_stops, entry_placed, check_placed}
use Rattle.text_log.proofs.event_texts.Goals as goal

pub entry_text-requires : goal.entry_text-requires
entry_text-requires c = entry_placed _ _ c.requires.most (sym c.in-Entry.ensures)

pub loop-tag-smaller-in-Entry : goal.loop-tag-smaller-in-Entry
loop-tag-smaller-in-Entry c = let m = entry_moved _ _ (sym c.in-Entry.ensures) in omega arith

pub loop-tag-preserved-in-Entry : goal.loop-tag-preserved-in-Entry
loop-tag-preserved-in-Entry c = (
  (entry_moved _ _ (sym c.in-Entry.ensures)).high,
  λ u p. c.loop-tag.invariant.1 u (turn_entry _ _ _ _ _ _ (sym c.in-Entry.ensures) c.entry_text.ensures p),
)

pub be32-requires : goal.be32-requires
be32-requires c = let m = check_moved _ _ (sym c.in-Check.ensures) in omega arith

pub check_text-requires : goal.check_text-requires
check_text-requires c = check_placed _ _ _ c.be32.ensures c.requires.most (sym c.in-Check.ensures)

pub loop-tag-smaller : goal.loop-tag-smaller
loop-tag-smaller c = let m = check_moved _ _ (sym c.in-Check.ensures) in omega arith

pub loop-tag-preserved : goal.loop-tag-preserved
loop-tag-preserved c = (
  (check_moved _ _ (sym c.in-Check.ensures)).high,
  λ u p. c.loop-tag.invariant.1 u
      (turn_check _ _ _ _ _ _ _ (sym c.in-Check.ensures) c.be32.ensures c.check_text.ensures p),
)

pub returns-in-Invalid : goal.returns-in-Invalid
returns-in-Invalid c =
    c.loop-tag.invariant.1 _ (rw (← turn_stops c.args.full c.args.b.now c.loop-tag.c _ c.next.ensures c.in-Invalid.is)
    c.stop_text.ensures)
