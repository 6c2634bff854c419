-- `fetch_walk::cursor::Cursor::start` meets its contract: the record is the definition's. Assumes nothing.
use Rattle.fetch_walk.specs.Next.{start_of}
use Rattle.fetch_walk.proofs.cursor.Cursor.start.Goals as goal

pub returns : goal.returns
unfolding start_of
returns c = cc
