-- "The checksum uses the sixteen words of `RTABLE`": what they are, by the definition bit by bit. Assumes nothing.
use Rattle.std.specs.Prelude.{◌≡◌, List, ℕ, ◌<◌, get_or}
use Rattle.format.specs.Crc.{crc_bits}

-- A table whose word k is what four bits leave of the register k.
pub record Rtable (t : List ℕ) : Type 0 where
  pub word : (k : ℕ) → k < 16 → get_or t k 0 ≡ crc_bits 4 k
