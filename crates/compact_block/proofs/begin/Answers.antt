-- `compact_block::begin` meets its contract. Assumes nothing.
use Rattle.format.specs.Word.{all_ones}
use Rattle.compact_block.specs.Renewed.{begins}
use Rattle.compact_block.proofs.begin.Goals as goal

pub returns : goal.returns
unfolding begins
returns c = λ i. record { run = c.args.run; end = 4; prev = all_ones; sum = c.crc_word-sum.ensures i }
