-- The small arithmetic of lfs_util.h. Assumes nothing.
use Rattle.std.specs.Prelude.{cond, ℕ, zero, suc, ◌-◌, ◌*◌, ◌/◌, max, eqb, Err, Ok, Result}
use Rattle.std.specs.Int.Count.{count_leading_zeros, count_trailing_zeros, ones}
use Rattle.format.specs.Word.{plus32, minus32}
use Rattle.format.specs.declared.Refusal.TheVariants.{Invalid}
use Rattle.format.specs.declared.Refusal.{Refusal}

-- a, or the next lower multiple of m
abbrev pub down_to : ℕ → ℕ → ℕ
down_to a m = a / m * m

-- `lfs_aligndown`; "Alignment by 0 is refused with -22."
unfoldable pub align_down : ℕ → ℕ → Result ℕ Refusal
align_down a m = cond (eqb m 0) (Err Invalid) (Ok (down_to a m))

-- `lfs_alignup`: a + m - 1, wrapping, brought down
unfoldable pub align_up : ℕ → ℕ → Result ℕ Refusal
align_up a m = align_down (minus32 (plus32 a m) 1) m

-- `lfs_npw2`: the digits of a - 1 (in 32 bits that wrap), and 1 where there are none; so the least n from 1 on with a
-- at most 2 ^ n, and 32 for 0
unfoldable pub npw2 : ℕ → ℕ
npw2 a = max 1 (32 - count_leading_zeros 32 (minus32 a 1))

-- `lfs_ctz`: the zeros below the lowest set digit, and 0 where none is set
unfoldable pub ctz : ℕ → ℕ
ctz zero = 0
ctz (suc n) = count_trailing_zeros 32 (suc n)

-- `lfs_popc`: the set digits
abbrev pub popc : ℕ → ℕ
popc a = ones a
