-- `word::within::put_be32` meets its contract: the part that is written is the word's four bytes. Assumes nothing.
use Rattle.std.proofs.Common.{◌∙◌, arith}
use Rattle.format.proofs.Words.{length_to_be32}
use Rattle.word.proofs.Inside.{stored}
use Rattle.word.proofs.within.put_be32.Goals as goal

pub returns : goal.returns
returns c =
    let four = length_to_be32 c.args.v in
    stored c.args.s.now c.args.at _ _ _ (omega arith) (omega arith) (c.copy_from_slice.ensures.after ∙ c.be_bytes.ensures)
