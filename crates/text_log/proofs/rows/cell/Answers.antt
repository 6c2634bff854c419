-- Blank, or the byte. Assumes nothing.
use Rattle.text.proofs.Joined.{puts_both}
use Rattle.text_log.proofs.DataShown.{cell_none, cell_some}
use Rattle.text_log.proofs.rows.cell.Goals as goal

pub returns-then-bytes-i : goal.returns-then-bytes-i
returns-then-bytes-i c = rw (← cell_none _ _ c.if-bytes-i.true) c.puts.ensures

pub returns : goal.returns
returns c = rw (← cell_some _ _ c.if-bytes-i.false) (puts_both _ _ _ _ _ c.hex_byte.ensures c.puts-2.ensures)
