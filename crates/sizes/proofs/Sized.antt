-- The numbers that a pair's sizes have where they fit. Assumes nothing.
use mathlib.Core.Path.{◌≡◌, refl}
use mathlib.Core.Bool.{Bool, true, false, not, ◌&&◌}
use Prim.Native.Nat.{ℕ, ◌%◌, ◌≤◌}
use native.Mathlib.Omega.{arith}
use lib.Dec.{leb, eqb}
use borrow.Author.Tests.{leb-true, eqb-true}
use Rattle.format.specs.Fetch.{geometry_fits, images_fit, pair_fits}
use Rattle.format.specs.declared.Geometry.{Geometry}

-- what both parts of a test say
pub both : (a b : Bool) → a && b ≡ true → (a ≡ true) × (b ≡ true)
both true b e = (refl, e)
both false b e = let z : ◌≡◌ {A = ℕ} 0 1 = cc in absurd (omega arith)

pub record Fitting (g : Geometry) : Type 0 where
  pub prog_low : 4 ≤ g.prog_size
  pub prog_high : g.prog_size ≤ 512
  pub block_low : 128 ≤ g.block_size
  pub block_high : g.block_size ≤ 32_768
  pub multiple : g.block_size % g.prog_size ≡ 0

pub record Sized (g : Geometry) (length0 length1 : ℕ) : Type 0 where
  pub geometry : Fitting g
  pub first : length0 ≡ g.block_size
  pub second : length1 ≡ g.block_size

module _ (g : Geometry) where
  pub fitting : geometry_fits g ≡ true → Fitting g
  unfolding geometry_fits
  fitting h =
      let p = g.prog_size in
      let s = g.block_size in
      let e1 = both (leb 4 p && leb p 512 && leb 128 s && leb s 32_768) (eqb (s % p) 0) h in
      let e2 = both (leb 4 p && leb p 512 && leb 128 s) (leb s 32_768) e1.0 in
      let e3 = both (leb 4 p && leb p 512) (leb 128 s) e2.0 in
      let e4 = both (leb 4 p) (leb p 512) e3.0 in
      record {
        prog_low = leb-true _ _ e4.0;
        prog_high = leb-true _ _ e4.1;
        block_low = leb-true _ _ e3.1;
        block_high = leb-true _ _ e2.1;
        multiple = eqb-true _ _ e1.1;
      }

  pub images_sized : (length0 length1 : ℕ) → images_fit g length0 length1 ≡ true → Sized g length0 length1
  images_sized length0 length1 h =
      let s = g.block_size in
      let e2 = both (geometry_fits g && eqb length0 s) (eqb length1 s) h in
      let e3 = both (geometry_fits g) (eqb length0 s) e2.0 in
      record { geometry = fitting e3.0; first = eqb-true _ _ e3.1; second = eqb-true _ _ e2.1 }

  pub sized : (length0 length1 n0 n1 : ℕ) → pair_fits g length0 length1 n0 n1 ≡ true → Sized g length0 length1
  unfolding pair_fits
  sized length0 length1 n0 n1 h =
      images_sized length0 length1 (both (images_fit g length0 length1) (not (eqb n0 n1)) h).0
