-- `fetch_walk::cursor::flipped` meets its contract: a valid tag has room for bit 31. Assumes nothing.
use mathlib.Core.Path.{refl}
use Rattle.format.specs.Tag.{tag_flipped}
use Rattle.fetch_walk.proofs.cursor.flipped.Goals as goal

pub returns : goal.returns
unfolding tag_flipped
returns c = refl
