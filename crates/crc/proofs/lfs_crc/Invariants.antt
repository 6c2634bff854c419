-- `crc::lfs_crc` meets its contract. The loop's invariant: what is left of the bytes takes the register to the checksum
-- of all. Assumes nothing.
use Rattle.std.proofs.Common.{◌≡◌, drop}
use Rattle.format.specs.Crc.{crc}
use Rattle.crc.proofs.lfs_crc.Given as goal

abbrev pub invariant-loop-byte : goal.invariant-loop-byte
invariant-loop-byte l = crc l.s (drop l.byte-index l.buffer) ≡ crc l.sum l.buffer
