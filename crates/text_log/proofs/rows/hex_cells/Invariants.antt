-- As far as the loop has come. Assumes nothing.
use Rattle.format.specs.RawLog.{hex_cells}
use Rattle.text.specs.Put.{Puts}
use Rattle.text_log.proofs.rows.hex_cells.Given as goal

abbrev pub invariant-loop-i : goal.invariant-loop-i
invariant-loop-i l = Puts l.initial.text l.text (hex_cells l.i l.bytes)
