use Rattle.std.proofs.Common.{ℕ, ◌+◌, ◌%◌, ◌^◌, refl, arith}
use Rattle.bits_shifts.proofs.Stairs.{place, place_is, top_npw2}
use Rattle.bits_shifts.proofs.lfs_npw2.Goals as goal

pub overflow_add-result : goal.overflow_add-result
overflow_add-result c = omega (arith, (place_is ((c.args.a + 0xffff_ffff) % 2 ^ 32) (omega arith)).1)

pub returns : goal.returns
returns c =
    let less : ℕ = (c.args.a + 0xffff_ffff) % 2 ^ 32 in
    let p = place_is less (omega arith) in
    top_npw2 c.args.a less (place less) refl p.1 p.0
