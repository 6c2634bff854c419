-- Its parts, one behind the other. Assumes nothing.
use Rattle.format.specs.RawLog.{past_stop}
use Rattle.text.proofs.Joined.{puts_both}
use Rattle.text_log.proofs.stop.past_stop.Goals as goal

pub returns : goal.returns
unfolding past_stop
returns c = puts_both _ _ _ _ _ c.tag_columns.ensures (puts_both _ _ _ _ _ c.puts.ensures c.stop_line.ensures)
