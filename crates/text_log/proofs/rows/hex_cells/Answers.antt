-- Each place is shown behind those before it. Assumes nothing.
use Rattle.std.proofs.Common.{add-one}
use Rattle.format.specs.RawLog.{hex_cells}
use Rattle.text.proofs.Joined.{puts_none, puts_both}
use Rattle.text_log.proofs.DataShown.{cells_behind}
use Rattle.text_log.proofs.rows.hex_cells.Goals as goal

pub loop-i-init : goal.loop-i-init
unfolding hex_cells
loop-i-init c = puts_none _

pub loop-i-preserved : goal.loop-i-preserved
loop-i-preserved c = rw (add-one, cells_behind) (puts_both _ _ _ _ _ c.loop-i.invariant c.cell.ensures)
