-- A pair whose sizes fit has blocks that `place` takes. Assumes nothing.
use mathlib.Core.Path.{◌≡◌}
use mathlib.Core.Bool.{true}
use mathlib.Core.List.{List}
use Prim.Native.Nat.{ℕ, ◌≤◌}
use native.Mathlib.Omega.{arith}
use lib.ListN.{length}
use Rattle.format.specs.Fetch.{images_fit}
use Rattle.format.specs.Lookup.{block_of}
use Rattle.format.specs.declared.Geometry.{Geometry}
use Rattle.format.specs.declared.LfsMdir.{LfsMdir}
use Rattle.sizes.proofs.Sized.{images_sized}
use Rattle.sizes.proofs.Records.{of_block}

-- b is the block of a record
pub block_bound : (g : Geometry) (b0 b1 : List ℕ) (n0 : ℕ) (m : LfsMdir)
    → images_fit g (length b0) (length b1) ≡ true → (b : List ℕ) → b ≡ block_of b0 b1 n0 m → length b ≤ 32_768
block_bound g b0 b1 n0 m fits =
    let s = images_sized g (length b0) (length b1) fits in
    of_block b0 b1 n0 m (λ b. length b ≤ 32_768)
    (omega (arith, s.first, s.geometry.block_high), omega (arith, s.second, s.geometry.block_high))
