use Rattle.std.proofs.Common.{ℕ, ◌+◌, ◌-◌, ◌%◌, ◌^◌, ap, ◌∙◌, arith}
use lib.Bits.{bit_and}
use Rattle.bits_shifts.proofs.Lowest.{ctz_is, npw2_pos}
use Rattle.bits_shifts.proofs.lfs_ctz.Goals as goal

pub overflow_sub-result : goal.overflow_sub-result
overflow_sub-result c =
    omega (arith, c.lfs_npw2.ensures, npw2_pos ((bit_and c.args.a c.wrapping_neg.result + 1) % 2 ^ 32))

pub returns : goal.returns
returns c =
    let neg = c.wrapping_neg in
    ap (λ (x : ℕ). x - 1) c.lfs_npw2.ensures
    ∙ ctz_is c.args.a neg.result c.ranges.a.fits (omega (arith, neg.type_inv, neg.ensures)) (omega (arith, neg.ensures))
