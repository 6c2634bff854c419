-- Document 01, Tag: the checksum, "low half of a byte first, no final inversion; its definition is bit by bit,
-- reflected polynomial 0xedb88320". The table of sixteen words is tied to it in crate `crc`. Assumes nothing.
use Rattle.std.specs.Prelude.{List, [], ◌∷◌, ℕ, zero, suc, ◌*◌, ◌/◌, ◌%◌, ◌^◌}
use Rattle.std.specs.Int.Bits.{bit_xor}

-- x^32 + x^26 + x^23 + x^22 + x^16 + x^12 + x^11 + x^10 + x^8 + x^7 + x^5 + x^4 + x^2 + x + 1, the highest power in the
-- lowest bit
abbrev pub polynomial : ℕ
polynomial = 0xedb8_8320

-- One bit: the register moves down by one, and where the bit that fell out was set the polynomial is added.
unfoldable pub crc_bit : ℕ → ℕ
crc_bit c = bit_xor (c / 2) (c % 2 * polynomial)

unfoldable pub crc_bits : ℕ → ℕ → ℕ
crc_bits zero c = c
crc_bits (suc n) c = crc_bits n (crc_bit c)

-- A byte is added to the register's low end, and eight bits pass. A number that is no byte counts by its low eight
-- bits.
unfoldable pub crc_byte : ℕ → ℕ → ℕ
crc_byte c b = crc_bits 8 (bit_xor c (b % 2 ^ 8))

-- The register after the bytes of a list, first to last, from the register c.
unfoldable pub crc : ℕ → List ℕ → ℕ
crc c [] = c
crc c (b ∷ bs) = crc (crc_byte c b) bs
