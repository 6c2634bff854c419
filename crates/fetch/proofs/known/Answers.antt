-- `fetch::known` meets its contract: the record is the definition's. Assumes nothing.
use Rattle.fetch.specs.Known.{known_by}
use Rattle.fetch.proofs.known.Goals as goal

pub returns : goal.returns
unfolding known_by
returns c = cc
