-- A splice counted from the lowest, as the code computes it: in 32 bits, where it is the same number, and plus 128 no
-- longer below 0.
-- Assumes nothing.
use mathlib.Core.Path.{◌≡◌, refl, ap, ◌∙◌}
use Prim.Native.Nat.{ℕ, suc, ◌^◌, ◌<◌}
use native.Mathlib.Omega.{arith}
use lib.IntN.{ℤ, pos, negsuc, ◌+ℤ◌, nat_abs}
use lib.Dec.{T}
use lib.Signed.{non_neg}
use mir.Syntax.{w8, w32}
use mir.Val.{SFits, Fits, to_z, of_z}
use mir.Facts.{to_z-of_z, sfits_to_z, sfits_widen}
use borrow.Author.Tests.{le-ltb}
use Rattle.format.specs.Tag.{tag_chunk, tag_splice}
use Rattle.tag.specs.Splice.{from_lowest}

pub splice_fits : (t : ℕ) → SFits w8 (tag_splice t)
splice_fits t = sfits_to_z {n = tag_chunk t} (record { fits = omega arith })

low : (z : ℤ) → SFits w8 z → from_lowest z < 2 ^ 8
low (pos n) h = let l : n < 2 ^ 7 = h.sfits in omega arith
low (negsuc n) h = omega arith

module _ (z : ℤ) (h : SFits w8 z) where
  pub wide_fits : SFits w32 (to_z w8 (of_z w8 z))
  wide_fits = rw (to_z-of_z {w = w8} {z = z} h) (sfits_widen tt h)

  -- the number in 32 bits
  abbrev pub wide : ℤ
  wide = to_z w32 (of_z w32 (to_z w8 (of_z w8 z)))

  wide_is : wide ≡ z
  wide_is = to_z-of_z wide_fits ∙ to_z-of_z h

  raised : (y : ℤ) → SFits w8 y → y +ℤ pos 128 ≡ pos (from_lowest y)
  raised (pos n) f = refl
  raised (negsuc n) f =
      let l : n < 2 ^ 7 = f.sfits in
      rw (le-ltb 128 (suc n) (omega arith)) (ap pos (omega arith))

  sum_is : wide +ℤ pos 128 ≡ pos (from_lowest z)
  sum_is = ap (λ (y : ℤ). y +ℤ pos 128) wide_is ∙ raised z h

  pub sum_fits : SFits w32 (wide +ℤ pos 128)
  sum_fits = rw sum_is (record { sfits = omega (arith, low z h) })

  again : to_z w32 (of_z w32 (wide +ℤ pos 128)) ≡ pos (from_lowest z)
  again = to_z-of_z sum_fits ∙ sum_is

  pub unsigned_fits : T (non_neg (to_z w32 (of_z w32 (wide +ℤ pos 128)))) × Fits w32
      (nat_abs (to_z w32 (of_z w32 (wide +ℤ pos 128))))
  unsigned_fits = rw again (tt, record { fits = omega (arith, low z h) })

  pub counted : (y : ℤ) → z ≡ y → (nat_abs (to_z w32 (of_z w32 (wide +ℤ pos 128))) ≡ from_lowest y) × (nat_abs
      (to_z w32 (of_z w32 (wide +ℤ pos 128))) < 2 ^ 8)
  counted y e = rw again (ap from_lowest e, low z h)
