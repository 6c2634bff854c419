-- Laws of the checksum for its callers: of bytes behind bytes, that it stays a word, and that the sum of a difference
-- is the difference of the sums. Assumes nothing.
use mathlib.Core.Path.{◌≡◌, refl, ap, ◌∙◌}
use mathlib.Core.List.{List, [], ◌∷◌, ◌++◌}
use Prim.Native.Nat.{ℕ, zero, suc, ◌*◌, ◌/◌, ◌%◌, ◌^◌, ◌<◌}
use native.Mathlib.Nat.{mod-lt, zero-lt-suc}
use native.Mathlib.Omega.{arith}
use lib.Bits.{bit_xor, xor_lt}
use Rattle.format.specs.Crc.{polynomial, crc_bit, crc_bits, crc_byte, crc}
use Rattle.format.proofs.Linear.{linear}
use Rattle.format.proofs.Xor.{xor_swap}

-- bytes, and then more bytes
pub crc_append : (c : ℕ) (a b : List ℕ) → crc c (a ++ b) ≡ crc (crc c a) b
unfolding crc
crc_append c [] b = refl
crc_append c (x ∷ a) b = crc_append (crc_byte c x) a b

bit_lt : (c : ℕ) → c < 2 ^ 32 → crc_bit c < 2 ^ 32
unfolding crc_bit
bit_lt c h =
    let m : c % 2 < 2 = mod-lt c (zero-lt-suc 1) in
    xor_lt 32 (c / 2) (c % 2 * polynomial) (omega arith) (omega arith)

bits_lt : (n c : ℕ) → c < 2 ^ 32 → crc_bits n c < 2 ^ 32
unfolding crc_bits
bits_lt zero c h = h
bits_lt (suc n) c h = bits_lt n (crc_bit c) (bit_lt c h)

-- the register stays a word, whatever the list holds
pub crc_word : (l : List ℕ) (c : ℕ) → c < 2 ^ 32 → crc c l < 2 ^ 32
unfolding crc crc_byte
crc_word [] c h = h
crc_word (b ∷ l) c h = crc_word l (crc_byte c b)
    (bits_lt 8 (bit_xor c (b % 2 ^ 8)) (xor_lt 32 c (b % 2 ^ 8) h (omega arith)))

-- what a register has more than another passes through the bytes as it would pass through zeros
pub crc_linear : (c d : ℕ) (b : ℕ) → crc_byte (bit_xor c d) b ≡ bit_xor (crc_byte c b) (crc_bits 8 d)
unfolding crc_byte
crc_linear c d b = ap (crc_bits 8) (xor_swap c d (b % 2 ^ 8)) ∙ linear 8 (bit_xor c (b % 2 ^ 8)) d
