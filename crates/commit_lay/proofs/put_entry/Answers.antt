-- `commit_lay::put_entry` meets its contract: the tag, and behind it the data. Assumes nothing.
use Rattle.format.specs.Word.{to_be32}
use Rattle.commit_lay.specs.Laid.{laid, body_of}
use Rattle.commit_lay.proofs.Puts.{puts_app}
use Rattle.commit_lay.proofs.put_entry.Goals as goal

pub returns : goal.returns
returns c =
    let a = c.args in
    cc (puts_app (to_be32 a.word) (body_of a.dat.now a.off a.len) (laid a.run a.b.now))
