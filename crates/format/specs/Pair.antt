-- Pairs of block numbers (lfs.c lfs_pair_*). Assumes nothing.
use Rattle.std.specs.Prelude.{Bool, cond, ◌&&◌, ◌||◌, eqb, ℤ, pos}
use Rattle.format.specs.Word.{all_ones}
use Rattle.format.specs.declared.LfsPair.{LfsPair}

abbrev pub pair_swapped : LfsPair → LfsPair
pair_swapped p = record { n0 = p.n1; n1 = p.n0 }

-- a number of it is the null block
abbrev pub pair_null : LfsPair → Bool
pair_null p = eqb p.n0 all_ones || eqb p.n1 all_ones

-- "whose pair shares any block"
abbrev pub pair_shares : LfsPair → LfsPair → Bool
pair_shares p q = eqb p.n0 q.n0 || eqb p.n1 q.n1 || eqb p.n0 q.n1 || eqb p.n1 q.n0

-- `lfs_pair_cmp`: 0 where a block is shared, and else 1
abbrev pub pair_cmp : LfsPair → LfsPair → ℤ
pair_cmp p q = cond (pair_shares p q) (pos 0) (pos 1)

-- the same two numbers "in either order"
abbrev pub pair_sync : LfsPair → LfsPair → Bool
pair_sync p q = (eqb p.n0 q.n0 && eqb p.n1 q.n1) || (eqb p.n0 q.n1 && eqb p.n1 q.n0)
