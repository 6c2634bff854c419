-- A word of w bits read as signed, by a subtraction that fits: where its top bit is set it is -1 less the word's
-- distance m from all ones. One law for every width. Assumes nothing.
use mathlib.Core.Path.{◌≡◌, refl, sym, ap, ◌∙◌}
use Prim.Native.Nat.{ℕ, zero, suc, ◌+◌, ◌-◌, ◌%◌, ◌^◌, ◌<◌, ◌≤◌}
use native.Mathlib.Nat.{zero-add}
use native.Mathlib.Omega.{arith}
use lib.IntN.{ℤ, pos, negsuc, ◌-ℤ◌}
use Rattle.format.specs.Word.{minus32}
use mir.Syntax.{Width}
use mir.Val.{SFits, to_z, bits, hbits}
use mir.ValLaws.{pow-bits}
use mir.Facts.{to_z_pos, to_z-neg, sfits_to_z}

less : (n : ℕ) → negsuc 0 -ℤ pos n ≡ negsuc n
less zero = refl
less (suc n) = ap (λ (k : ℕ). negsuc (suc k)) (zero-add n)

module _ (w : Width) (n m : ℕ) (top : 2 ^ hbits w ≤ n) (makes : n + m + 1 ≡ 2 ^ bits w) where
  pub negative : negsuc 0 -ℤ to_z w m ≡ to_z w n
  negative =
      let h : m < 2 ^ hbits w = omega (arith, pow-bits w) in
      let e : n ≡ 2 ^ bits w - suc m = omega arith in
      ap (λ (z : ℤ). negsuc 0 -ℤ z) (to_z_pos w {n = m} h) ∙ less m ∙ sym (to_z-neg w m h) ∙ ap (to_z w) (sym e)

  pub negative_fits : SFits w (negsuc 0 -ℤ to_z w m)
  negative_fits = rw negative (sfits_to_z (record { fits = omega arith }))

-- what std's wrapping subtraction gives is the difference that the definition names
pub wraps : (r a b : ℕ) → r < 2 ^ 32 → a < 2 ^ 32 → b < 2 ^ 32 → (r + b) % 2 ^ 32 ≡ a → r ≡ minus32 a b
wraps r a b hr ha hb e = omega arith
