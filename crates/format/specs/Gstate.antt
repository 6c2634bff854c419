-- The global state (lfs.c lfs_gstate_*): three words that XOR. Assumes nothing.
use Rattle.std.specs.Prelude.{Bool, not, ◌&&◌, ℕ, ◌/◌, ◌%◌, ◌^◌, eqb}
use Rattle.std.specs.Int.Bits.{bit_xor}
use Rattle.format.specs.Tag.{tag_type1, tag_size}
use Rattle.format.specs.Pair.{pair_shares}
use Rattle.format.specs.declared.LfsPair.{LfsPair}
use Rattle.format.specs.declared.LfsGstate.{LfsGstate}

-- "`lfs_dir_getgstate` XORs the move state found": tag and both numbers
abbrev pub gstate_xor : LfsGstate → LfsGstate → LfsGstate
gstate_xor a b =
    record {
      tag = bit_xor a.tag b.tag;
      pair = record { n0 = bit_xor a.pair.n0 b.pair.n0; n1 = bit_xor a.pair.n1 b.pair.n1 };
    }

abbrev pub gstate_zero : LfsGstate → Bool
gstate_zero a = eqb a.tag 0 && eqb a.pair.n0 0 && eqb a.pair.n1 0

-- orphans are counted in the tag's size
abbrev pub gstate_has_orphans : LfsGstate → Bool
gstate_has_orphans a = not (eqb (tag_size a.tag) 0)

-- "`lfs_gstate_getorphans` keeps 8 of 9 bits."
abbrev pub gstate_orphans : LfsGstate → ℕ
gstate_orphans a = tag_size a.tag % 2 ^ 8

-- bit 9 of the size: the superblock is out of date
abbrev pub gstate_needs_superblock : LfsGstate → Bool
gstate_needs_superblock a = not (eqb (tag_size a.tag / 2 ^ 9) 0)

-- "a pending move (global tag's type1 not 0)"
abbrev pub gstate_has_move : LfsGstate → Bool
gstate_has_move a = not (eqb (tag_type1 a.tag) 0)

-- "a pending move .. whose pair shares any block"
abbrev pub gstate_has_move_here : LfsGstate → LfsPair → Bool
gstate_has_move_here a p = gstate_has_move a && pair_shares a.pair p
