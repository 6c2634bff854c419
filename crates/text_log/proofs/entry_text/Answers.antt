-- The data are as few as a tag can say. Assumes nothing.
use Rattle.std.proofs.Common.{arith, drop}
use Rattle.format.proofs.Words.{tag_length_ge}
use Rattle.text_log.proofs.WalkShown.{data_short}
use Rattle.text_log.proofs.entry_text.Goals as goal

pub full_data-requires-clause-place_bound : goal.full_data-requires-clause-place_bound
full_data-requires-clause-place_bound c =
    omega (arith, c.requires.most, c.requires.whole, tag_length_ge c.args.tag)

pub full_data-requires-clause-bytes_len_bound : goal.full_data-requires-clause-bytes_len_bound
full_data-requires-clause-bytes_len_bound c = rw c.data_of-data.ensures (data_short c.args.tag (drop c.args.place c.args.b.now))
