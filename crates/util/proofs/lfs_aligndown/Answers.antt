-- `util::lfs_aligndown` meets its contract: what is above the multiple is the remainder. Assumes nothing.
use Rattle.std.proofs.Common.{◌≡◌, ℕ, ◌-◌, ◌*◌, ◌/◌, ◌%◌, div-add-mod', arith, eq-eqb, ne_eqb}
use native.Mathlib.Nat.{mod-le}
use Rattle.format.specs.Arith.{align_down}
use Rattle.format.specs.declared.Refusal.TheVariants.{Invalid}
use Rattle.util.proofs.lfs_aligndown.Goals as goal
use Rattle.std.specs.Prelude.{Err, Ok}

refused : (a m : ℕ) → m ≡ 0 → Err Invalid ≡ align_down a m
unfolding align_down
refused a m e = rw (eq-eqb m 0 e)

aligned : (a m : ℕ) → (m ≡ 0 → ⊥) → Ok (a - a % m) ≡ align_down a m
unfolding align_down
aligned a m f = let e : a - a % m ≡ a / m * m = omega (arith, div-add-mod' a m) in rw (ne_eqb m 0 f, e)

pub returns-then-alignment-eq0 : goal.returns-then-alignment-eq0
returns-then-alignment-eq0 c = refused c.args.a c.args.alignment c.if-alignment-eq0.true

pub overflow_sub-below : goal.overflow_sub-below
overflow_sub-below c = mod-le c.args.a c.args.alignment

pub returns : goal.returns
returns c = aligned c.args.a c.args.alignment c.if-alignment-eq0.false
