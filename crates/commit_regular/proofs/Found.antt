-- Fetch's record says where the log of the block that it was read from ends. Assumes nothing.
use mathlib.Core.Path.{◌≡◌, refl, sym, ap, ◌∙◌}
use mathlib.Core.Logic.{◌≢◌}
use mathlib.Core.Bool.{Bool, true, false, not, cond}
use mathlib.Core.List.{List}
use Prim.Native.Nat.{ℕ, ◌≤◌}
use native.Mathlib.Omega.{arith}
use lib.Dec.{eqb}
use lib.ListN.{length}
use borrow.Author.Tests.{eq-eqb, ne_eqb}
use Rattle.format.specs.Fetch.{fetch_of}
use Rattle.format.specs.Lookup.{block_of}
use Rattle.format.specs.Writer.{block_at, is_second}
use Rattle.format.specs.declared.Geometry.{Geometry}
use Rattle.format.specs.declared.LfsMdir.{LfsMdir}
use Rattle.theory.specs.Fetch.FoundBlock.{Sized, found_sized, found_reads}
use Rattle.commit_regular.specs.Ends.{CommittedTo}
use Rattle.std.specs.Prelude.{Ok}
use Rattle.format.specs.Record.{fetched}

-- m is the record
module _ (g : Geometry) (b0 b1 : List ℕ) (n0 n1 count seed : ℕ) (m : LfsMdir) (s : ℕ)
    (f : Ok (fetched m s) ≡ fetch_of g b0 b1 n0 n1 count seed) where
  long : (w : Bool) → Sized g b0 b1 → 128 ≤ length (block_at w b0 b1)
  long false z = omega (arith, z.first, z.block.0)
  long true z = omega (arith, z.second, z.block.0)

  ends_at : (w : Bool) → is_second n0 m ≡ w → CommittedTo (block_at w b0 b1) m.off
  ends_at w e =
      let z = found_sized g b0 b1 n0 n1 count seed m s (sym f) in
      let a = found_reads g b0 b1 n0 n1 count seed m s (sym f) in
      let same : a.w ≡ w = sym a.place ∙ e in
      rw (← same) (record { word = omega (arith, long a.w z); ends = a.ends })

  -- b is the block that the record was read from
  pub ends_block : (b : List ℕ) → b ≡ block_of b0 b1 n0 m → CommittedTo b m.off
  ends_block b q = rw q (go (eqb m.pair.n0 n0) refl)
    where
      go : (first : Bool) → eqb m.pair.n0 n0 ≡ first → CommittedTo (cond first b0 b1) m.off
      go true e = ends_at false (ap not e)
      go false e = ends_at true (ap not e)

  pub ends_first : m.pair.n0 ≡ n0 → CommittedTo b0 m.off
  ends_first h = ends_at false (ap not (eq-eqb m.pair.n0 n0 h))

  pub ends_second : m.pair.n0 ≢ n0 → CommittedTo b1 m.off
  ends_second h = ends_at true (ap not (ne_eqb m.pair.n0 n0 h))
