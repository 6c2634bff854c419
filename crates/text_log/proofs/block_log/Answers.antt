-- Its parts, one behind the other. Assumes nothing.
use Rattle.std.proofs.Common.{arith}
use Rattle.format.specs.RawLog.{block_log}
use Rattle.text.proofs.Joined.{puts_both}
use Rattle.text_log.proofs.WalkShown.{texts_start}
use Rattle.text_log.proofs.PairShown.{taken_end, taken_within, start_reached}
use Rattle.text_log.proofs.block_log.Goals as goal

pub event_texts-requires : goal.event_texts-requires
event_texts-requires c = start_reached _ _ c.requires c.start.ensures

pub overflow_cast-walked : goal.overflow_cast-walked
overflow_cast-walked c = omega (
  arith,
  c.requires.most,
  taken_within _ _ c.walk_block-walked.ensures (omega (arith, c.requires.reach)),
)

pub returns : goal.returns
unfolding block_log
returns c =
    rw (← c.le32.ensures, ← texts_start _ _ _ c.start.ensures, ← taken_end _ _ c.walk_block-walked.ensures)
    (puts_both _ _ _ _ _ c.puts.ensures (puts_both _ _ _ _ _ c.decimal.ensures
    (puts_both _ _ _ _ _ c.number_line.ensures (puts_both _ _ _ _ _ c.puts-2.ensures
    (puts_both _ _ _ _ _ c.event_texts.ensures c.committed_line.ensures)))))
