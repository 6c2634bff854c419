-- `find_set::joined` meets its contract. Assumes nothing.
use native.Mathlib.Omega.{arith}
use lib.Pow.{pow_pos}
use Prim.Native.Nat.{◌*◌, ◌-◌, ◌%◌, ◌^◌}
use lib.Bits.{bit_and, bit_or, mask_lt}
use Rattle.find_set.proofs.Digits.{joined_is, shifted_one}
use Rattle.find_set.proofs.joined.Goals as goal

pub overflow_sub-result : goal.overflow_sub-result
overflow_sub-result c = omega (arith, shifted_one c.args.k c.requires.0, pow_pos c.args.k)

pub overflow_cast-result-3 : goal.overflow_cast-result-3
overflow_cast-result-3 c = record {
  fits = mask_lt (bit_or (c.args.above * 2 ^ c.args.k % 2 ^ 64)
      (bit_and c.args.below (1 * 2 ^ c.args.k % 2 ^ 64 - 1))) 32;
}

pub returns : goal.returns
returns c = joined_is _ _ _ c.requires.0 c.requires.1
