use Rattle.std.proofs.Common.{◌≡◌, ℕ, zero, suc, refl}
use lib.Count.{count_trailing_zeros}
use Rattle.format.specs.Arith.{ctz}
use Rattle.bits.proofs.lfs_ctz.Goals as goal

counted : (a : ℕ) → (a ≡ 0 → ⊥) → count_trailing_zeros 32 a ≡ ctz a
unfolding ctz
counted zero f = absurd (f refl)
counted (suc n) f = refl

pub returns-then-a-eq0 : goal.returns-then-a-eq0
unfolding ctz
returns-then-a-eq0 c = rw c.if-a-eq0.true

pub returns-else-a-eq0 : goal.returns-else-a-eq0
returns-else-a-eq0 c = counted _ c.if-a-eq0.false
