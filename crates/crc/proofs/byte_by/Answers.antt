-- `crc::byte_by` meets its contract: eight bits are four and four. Assumes nothing.
use mathlib.Core.Path.{sym, ap, ◌∙◌}
use Prim.Native.Nat.{ℕ}
use native.Mathlib.Nat.{mod-eq_of_lt}
use lib.Bits.{bit_xor}
use Rattle.format.specs.Crc.{crc_bits, crc_byte}
use Rattle.format.proofs.Linear.{more}
use Rattle.crc.proofs.byte_by.Goals as goal

pub returns : goal.returns
unfolding crc_byte
returns c =
    c.half-2.ensures ∙ ap (crc_bits 4) c.half.ensures
    ∙ sym (more 4 4 (bit_xor c.args.sum c.args.byte))
    ∙ ap (λ (x : ℕ). crc_bits 8 (bit_xor c.args.sum x)) (sym (mod-eq_of_lt c.ranges.byte.fits))
