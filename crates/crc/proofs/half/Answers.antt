-- `crc::half` meets its contract: the word of the low four bits, by the table's rule, and `Linear.steps` for the
-- others. Assumes nothing.
use mathlib.Core.Path.{sym, ap, ◌∙◌}
use Prim.Native.Nat.{◌/◌, ◌%◌, ◌^◌}
use native.Mathlib.Omega.{arith}
use lib.Bits.{bit_xor}
use Rattle.format.proofs.Linear.{steps}
use Rattle.crc.proofs.half.Goals as goal

pub returns : goal.returns
returns c =
    let sum = c.args.sum in
    ap (bit_xor (sum / 2 ^ 4)) (c.requires.word (sum % 16) (omega arith)) ∙ sym (steps 4 sum)
