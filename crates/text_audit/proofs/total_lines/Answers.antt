-- Three lines. Assumes nothing.
use Rattle.format.specs.Audit.{total_lines}
use Rattle.text.proofs.Joined.{puts_both}
use Rattle.text_audit.proofs.total_lines.Goals as goal

pub returns : goal.returns
unfolding total_lines
returns c = puts_both _ _ _ _ _ c.number_line.ensures (puts_both _ _ _ _ _ c.number_line-2.ensures c.number_line-3.ensures)
