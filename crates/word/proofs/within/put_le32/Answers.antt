-- `word::within::put_le32` meets its contract: the part that is written is the word's four bytes. Assumes nothing.
use Rattle.std.proofs.Common.{◌∙◌, arith}
use Rattle.format.proofs.Words.{length_to_le32}
use Rattle.word.proofs.Inside.{stored}
use Rattle.word.proofs.within.put_le32.Goals as goal

pub returns : goal.returns
returns c =
    let four = length_to_le32 c.args.v in
    stored c.args.s.now c.args.at _ _ _ (omega arith) (omega arith) (c.copy_from_slice.ensures.after ∙ c.le_bytes.ensures)
