-- `fetch_walk::cursor::tag_length` meets its contract: the length, and the longest that there is. Assumes nothing.
use native.Mathlib.Omega.{arith}
use Rattle.fetch_walk.proofs.Seen.{length_most}
use Rattle.fetch_walk.proofs.cursor.tag_length.Goals as goal

pub returns : goal.returns
returns c = (c.lfs_tag_dsize.ensures, omega (arith, length_most c.args.tag, c.lfs_tag_dsize.ensures))
