-- What the test of a record tells: its end is inside both images, and which of them it was read from. Assumes nothing.
use mathlib.Core.Path.{◌≡◌, refl, sym}
use mathlib.Core.Bool.{Bool, true, false, not, cond, ◌&&◌}
use mathlib.Core.List.{List}
use Prim.Native.Nat.{ℕ, ◌≤◌}
use native.Mathlib.Omega.{arith}
use lib.Dec.{leb, eqb}
use lib.ListN.{length}
use borrow.Author.Tests.{leb-true, eq-eqb, ne_eqb}
use Rattle.format.specs.Pair.{pair_sync}
use Rattle.format.specs.Fetch.{pair_fits}
use Rattle.format.specs.Lookup.{record_fits, block_of}
use Rattle.format.specs.Writer.{block_at, is_second}
use Rattle.format.specs.declared.Geometry.{Geometry}
use Rattle.format.specs.declared.LfsMdir.{LfsMdir}
use Rattle.sizes.proofs.Sized.{Sized, both, sized}

module _ (g : Geometry) (l0 l1 n0 n1 : ℕ) (dir : LfsMdir) (h : record_fits g l0 l1 n0 n1 dir ≡ true) where
  tests : (pair_fits g l0 l1 n0 n1 && pair_sync dir.pair (record { n0 = n0; n1 = n1 }) ≡ true)
      × (leb dir.off g.block_size ≡ true)
  unfolding record_fits
  tests = both (pair_fits g l0 l1 n0 n1 && pair_sync dir.pair (record { n0 = n0; n1 = n1 }))
      (leb dir.off g.block_size) h

  pub record_sized : Sized g l0 l1
  record_sized = sized g l0 l1 n0 n1
      (both (pair_fits g l0 l1 n0 n1) (pair_sync dir.pair (record { n0 = n0; n1 = n1 })) tests.0).0

  pub end_inside : (dir.off ≤ l0) × (dir.off ≤ l1)
  end_inside =
      let l = leb-true dir.off g.block_size tests.1 in
      (omega (arith, record_sized.first), omega (arith, record_sized.second))

module _ (b0 b1 : List ℕ) (n0 : ℕ) (dir : LfsMdir) where
  pub block_first : dir.pair.n0 ≡ n0 → b0 ≡ block_of b0 b1 n0 dir
  block_first h = sym (rw (eq-eqb dir.pair.n0 n0 h))

  pub block_second : (dir.pair.n0 ≡ n0 → ⊥) → b1 ≡ block_of b0 b1 n0 dir
  block_second h = sym (rw (ne_eqb dir.pair.n0 n0 h))

  -- what holds of both images holds of the block
  pub of_block : (P : List ℕ → Type 0) → P b0 × P b1 → (b : List ℕ) → b ≡ block_of b0 b1 n0 dir → P b
  of_block P h b q = rw q (go (eqb dir.pair.n0 n0))
    where
      go : (first : Bool) → P (cond first b0 b1)
      go true = h.0
      go false = h.1

  -- so an end that is inside both is inside the block
  pub in_block : (e : ℕ) → (e ≤ length b0) × (e ≤ length b1) → (b : List ℕ) → b ≡ block_of b0 b1 n0 dir → e ≤ length b
  in_block e = of_block (λ b. e ≤ length b)

  -- the writer's name for the block
  pub block_same : block_of b0 b1 n0 dir ≡ block_at (is_second n0 dir) b0 b1
  block_same = go (eqb dir.pair.n0 n0)
    where
      go : (first : Bool) → cond first b0 b1 ≡ block_at (not first) b0 b1
      go true = refl
      go false = refl
