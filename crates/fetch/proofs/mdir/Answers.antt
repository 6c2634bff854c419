-- `fetch::mdir` meets its contract: the record is the definition's. Assumes nothing.
use Rattle.fetch.specs.Read.{mdir_by}
use Rattle.fetch.proofs.mdir.Goals as goal

pub returns : goal.returns
unfolding mdir_by
returns c = cc
