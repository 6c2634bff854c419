-- `fetch_walk::cursor::is_check` meets its contract: it is the test of the definition. Assumes nothing.
use mathlib.Core.Path.{ap}
use Prim.Native.Nat.{ℕ}
use lib.Dec.{eqb}
use Rattle.fetch_walk.proofs.cursor.is_check.Goals as goal

pub returns : goal.returns
returns c = ap (λ (x : ℕ). eqb x 0x500) c.lfs_tag_type2.ensures
