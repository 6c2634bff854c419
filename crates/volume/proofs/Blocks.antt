-- A volume that fits: its sizes, that the blocks with its numbers lie in it, and fetch by its tests. Assumes nothing.
use mathlib.Core.Path.{◌≡◌, sym, ap₂, ◌∙◌}
use mathlib.Core.Bool.{Bool, true, false, not, ◌&&◌}
use mathlib.Core.List.{List}
use Prim.Native.Nat.{ℕ, suc, ◌+◌, ◌-◌, ◌*◌, ◌/◌, ◌%◌, ◌≤◌, ◌<◌}
use native.Mathlib.Nat.{suc-mul, mul-le-mul_right, div-mul-le_self}
use native.Mathlib.Omega.{arith}
use lib.ListN.{length, take, drop}
use lib.Dec.{eqb}
use borrow.Author.Tests.{not-true, not-false, eq-eqb, ne_eqb, le-leb, lt-leb}
use Rattle.format.specs.Fetch.{geometry_fits, fetch_of}
use Rattle.format.specs.Volume.{volume_fits, blocks_in, block_in, fetch_in}
use Rattle.format.specs.declared.Geometry.{Geometry}
use Rattle.format.specs.declared.LfsPair.{LfsPair}
use Rattle.format.specs.declared.Refusal.TheVariants.{Invalid, Corrupt}
use Rattle.sizes.proofs.Sized.{Fitting, both, fitting}
use Rattle.std.specs.Prelude.{Err, Result}
use Rattle.format.specs.declared.Fetched.{Fetched}
use Rattle.format.specs.declared.Refusal.{Refusal}

module _ (g : Geometry) (vol : List ℕ) where
  abbrev size : ℕ
  size = g.block_size

  -- ---- the test; x is what `geometry_fits` answers
  module _ (x : Bool) (ex : x ≡ geometry_fits g) where
    pub unfit : not x ≡ true → false ≡ volume_fits g vol
    unfolding volume_fits
    unfit h = rw (sym ex ∙ not-true x h)

    pub fit : not x ≡ false → Fitting g
    fit h = fitting g (sym ex ∙ not-false x h)

    pub whole : not x ≡ false → not (eqb (length vol) 0) && eqb (length vol % size) 0 ≡ volume_fits g vol
    unfolding volume_fits
    whole h = rw (sym ex ∙ not-false x h)

  -- ---- the blocks
  module _ (fits : volume_fits g vol ≡ true) where
    pub volume_sized : Fitting g
    unfolding volume_fits
    volume_sized =
        fitting g (both (geometry_fits g) (not (eqb (length vol) 0))
        (both (geometry_fits g && not (eqb (length vol) 0)) (eqb (length vol % size) 0) fits).0).0

    pub block_inside : (n : ℕ) → n < blocks_in g vol → n * size + size ≤ length vol
    block_inside n h =
        let a : suc n * size ≤ length vol / size * size = mul-le-mul_right size h in
        omega (arith, a, suc-mul n size, div-mul-le_self (length vol) size)

    pub block_is : (n : ℕ) → take (n * size + size - n * size) (drop (n * size) vol) ≡ block_in g vol n
    unfolding block_in
    block_is n =
        let e : n * size + size - n * size ≡ size = omega arith in
        rw e

  -- ---- fetch, by its tests
  module _ (p : LfsPair) where
    pub same_numbers : p.n0 ≡ p.n1 → Err Invalid ≡ fetch_in g vol p
    unfolding fetch_in
    same_numbers h = rw (eq-eqb p.n0 p.n1 h)

    module _ (apart : p.n0 ≡ p.n1 → ⊥) where
      pub first_outside : blocks_in g vol ≤ p.n0 → Err Corrupt ≡ fetch_in g vol p
      unfolding fetch_in
      first_outside h = rw (ne_eqb p.n0 p.n1 apart, le-leb (blocks_in g vol) p.n0 h)

      module _ (in0 : p.n0 < blocks_in g vol) where
        pub second_outside : blocks_in g vol ≤ p.n1 → Err Corrupt ≡ fetch_in g vol p
        unfolding fetch_in
        second_outside h =
            rw (ne_eqb p.n0 p.n1 apart, lt-leb (blocks_in g vol) p.n0 in0, le-leb (blocks_in g vol) p.n1 h)

        pub both_inside : p.n1 < blocks_in g vol → (b0 b1 : List ℕ) → b0 ≡ block_in g vol p.n0
            → b1 ≡ block_in g vol p.n1 → (r : Result Fetched Refusal) → r ≡ fetch_of g b0 b1 p.n0 p.n1 0 0 → r ≡ fetch_in g vol p
        unfolding fetch_in
        both_inside in1 b0 b1 e0 e1 r er =
            rw (ne_eqb p.n0 p.n1 apart, lt-leb (blocks_in g vol) p.n0 in0, lt-leb (blocks_in g vol) p.n1 in1)
            (er ∙ ap₂ (λ (x y : List ℕ). fetch_of g x y p.n0 p.n1 0 0) e0 e1)
