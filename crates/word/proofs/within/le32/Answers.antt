-- `word::within::le32` meets its contract: the four bytes are those that the definition reads. Assumes nothing.
use Rattle.std.proofs.Common.{sym, ◌∙◌}
use Rattle.format.proofs.Words.{le32_at_lem}
use Rattle.word.proofs.within.le32.Goals as goal

pub returns : goal.returns
returns c = c.from_le_bytes.ensures ∙ sym (le32_at_lem c.args.s.now c.args.at)
