-- `tag::lfs_tag_isdelete` meets its contract: the size is compared. Assumes nothing.
use mathlib.Core.Path.{ap}
use Prim.Native.Nat.{ℕ}
use lib.Dec.{eqb}
use Rattle.format.specs.Tag.{removal_size}
use Rattle.tag.proofs.lfs_tag_isdelete.Goals as goal

pub returns : goal.returns
returns c = ap (λ (n : ℕ). eqb n removal_size) c.lfs_tag_size.ensures
