-- `commit_lay::sum_entry` meets its contract: the tag, and behind it the data. Assumes nothing.
use Rattle.format.specs.Word.{to_be32}
use Rattle.format.proofs.Checksum.{crc_append}
use Rattle.commit_lay.specs.Laid.{body_of}
use Rattle.commit_lay.proofs.sum_entry.Goals as goal

pub returns : goal.returns
returns c =
    let a = c.args in
    cc (crc_append a.sum (to_be32 a.word) (body_of a.dat.now a.off a.len))
