-- Words of 32 bits: in bytes, wrapping, and read as signed. Assumes nothing.
use Rattle.std.specs.Prelude.{List, [], ◌∷◌, ℕ, ◌+◌, ◌-◌, ◌*◌, ◌/◌, ◌%◌, ◌^◌, get_or, ℤ}
use Rattle.std.specs.Int.Bits.{bit_xor}
use Rattle.std.specs.Int.{w32}
use Rattle.std.proofs.Common.{to_z}

-- The word in a list's first four bytes, "big-endian": the highest byte first. A byte that is not there counts as 0.
unfoldable pub be32 : List ℕ → ℕ
be32 l = get_or l 0 0 * 2 ^ 24 + get_or l 1 0 * 2 ^ 16 + get_or l 2 0 * 2 ^ 8 + get_or l 3 0

-- "little-endian": the lowest byte first.
unfoldable pub le32 : List ℕ → ℕ
le32 l = get_or l 0 0 + get_or l 1 0 * 2 ^ 8 + get_or l 2 0 * 2 ^ 16 + get_or l 3 0 * 2 ^ 24

-- The four bytes of a word.
unfoldable pub to_be32 : ℕ → List ℕ
to_be32 w = (w / 2 ^ 24) ∷ (w / 2 ^ 16 % 2 ^ 8) ∷ (w / 2 ^ 8 % 2 ^ 8) ∷ (w % 2 ^ 8) ∷ []

unfoldable pub to_le32 : ℕ → List ℕ
to_le32 w = (w % 2 ^ 8) ∷ (w / 2 ^ 8 % 2 ^ 8) ∷ (w / 2 ^ 16 % 2 ^ 8) ∷ (w / 2 ^ 24) ∷ []

-- `bit_xor` of the library under a name that stays shut: at a literal it would compute into hundreds of terms.
unfoldable pub xor : ℕ → ℕ → ℕ
xor a b = bit_xor a b

-- 0xffffffff: where the checksum starts, the previous tag at the start, a word of erased flash, the null block.
abbrev pub all_ones : ℕ
all_ones = 0xffff_ffff

-- "wrapping": a + b and a - b in 32 bits.
abbrev pub plus32 : ℕ → ℕ → ℕ
plus32 a b = (a + b) % 2 ^ 32

abbrev pub minus32 : ℕ → ℕ → ℕ
minus32 a b = (a + (2 ^ 32 - b)) % 2 ^ 32

-- "read as signed": two's complement, by the machine's own reading of a word.
abbrev pub signed32 : ℕ → ℤ
signed32 a = to_z w32 a
