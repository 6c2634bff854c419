-- The end, in three parts. Assumes nothing.
use borrow.Author.Tests.{ne_eqb}
use Rattle.format.specs.RawLog.{committed_line}
use Rattle.text.proofs.Joined.{puts_both}
use Rattle.text_log.proofs.committed_line.Goals as goal

pub returns : goal.returns
unfolding committed_line
returns c = rw (ne_eqb c.args.end 4 c.if-end-eq4.false)
    (puts_both _ _ _ _ _ c.puts-2.ensures (puts_both _ _ _ _ _ c.hex_word.ensures c.puts-3.ensures))
