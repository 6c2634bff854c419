-- The refetch: what the walk that goes on from a record leaves is what format's definition says of it; and refetch's
-- tests in order. Assumes nothing.
use mathlib.Core.Path.{◌≡◌, sym, ap, ◌∙◌}
use mathlib.Core.Bool.{Bool, true, false, ◌&&◌, ◌||◌}
use mathlib.Core.List.{List}
use Prim.Native.Nat.{ℕ}
use native.Mathlib.Omega.{arith}
use lib.Dec.{leb}
use lib.ListN.{length}
use Rattle.format.specs.Fetch.{too_high}
use Rattle.format.specs.Lookup.{record_fits, block_of}
use Rattle.format.specs.Refetch.{held_forward, refetch_fits, continued, refetch_of}
use Rattle.format.specs.declared.Geometry.{Geometry}
use Rattle.format.specs.declared.LfsMdir.{LfsMdir}
use Rattle.format.specs.declared.Refusal.TheVariants.{Invalid, Corrupt}
use Rattle.sizes.proofs.Sized.{both}
use Rattle.sizes.proofs.Records.{record_sized, end_inside, of_block}
use Rattle.fetch_walk.specs.Block.{walked_again}
use Rattle.fetch_walk.specs.Dir.{empty_dir}
use Rattle.fetch_walk.specs.declared.Taken.{Taken}
use Rattle.fetch_walk.specs.declared.dir.DirState.{DirState}
use Rattle.fetch_walk.specs.declared.Walked.{Walked}
use Rattle.fetch_walk.proofs.Folds.{again_within}
use Rattle.fetch.specs.Read.{Readable, answer_by}
use Rattle.fetch.specs.Known.{Known, known_by}
use Rattle.fetch.proofs.FromWalk.{again_is}
use Rattle.std.specs.Prelude.{Err, Result}
use Rattle.format.specs.declared.Fetched.{Fetched}
use Rattle.format.specs.declared.Refusal.{Refusal}

-- ---- a record without a forward check: d is what `empty` answers
pub held_none : (m : LfsMdir) (d : DirState) → m.fcrc.seen ≡ false → d ≡ empty_dir → d.fcrc ≡ held_forward m
unfolding empty_dir
held_none m d h e = ap (λ (x : DirState). x.fcrc) e ∙ sym (rw h)

-- ---- k and w are what `known` and `walk_again` answer
module _ (prog : ℕ) (b : List ℕ) (m : LfsMdir) (seed : ℕ) (k : Taken) (w : Walked) where
  pub known_readable : Known prog b m → k ≡ known_by seed m → w ≡ walked_again b k → Readable prog b w
  unfolding walked_again known_by
  known_readable sizes ek ew =
      let off : k.off ≡ m.off = ap (λ (x : Taken). x.off) ek in
      let end = ap (λ (x : Walked). x.taken.off) ew in
      record {
        divides = sizes.divides;
        high = sizes.high;
        within = omega (arith, end, again_within b k (omega (arith, off, sizes.within)));
      }

  -- r is what `answer` answers
  pub known_answers : (r : Result Fetched Refusal) → k ≡ known_by seed m → w ≡ walked_again b k
      → r ≡ answer_by prog m.pair m.rev b w → r ≡ continued prog b seed m
  known_answers r ek ew er =
      er ∙ ap (answer_by prog m.pair m.rev b) (ew ∙ ap (walked_again b) ek) ∙ again_is prog b seed m

-- ---- refetch, by its tests in order; p, h0 and h1 are what `record_fits` and `too_high` answer
module _ (g : Geometry) (b0 b1 : List ℕ) (n0 n1 count seed : ℕ) (m : LfsMdir) (p : Bool)
    (is : p ≡ record_fits g (length b0) (length b1) n0 n1 m) where
  fits_is : p && leb 8 m.off ≡ refetch_fits g (length b0) (length b1) n0 n1 m
  fits_is = ap (λ (x : Bool). x && leb 8 m.off) is

  pub refetch_invalid : p && leb 8 m.off ≡ false → Err Invalid ≡ refetch_of g b0 b1 n0 n1 count seed m
  unfolding refetch_of
  refetch_invalid h = sym (rw (← is, h))

  module _ (ok : p && leb 8 m.off ≡ true) where
    sound : record_fits g (length b0) (length b1) n0 n1 m ≡ true
    sound = sym is ∙ (both p (leb 8 m.off) ok).0

    first_known : Known g.prog_size b0 m
    first_known =
        let s = record_sized g (length b0) (length b1) n0 n1 m sound in
        record {
          divides = omega (arith, s.geometry.prog_low);
          high = omega (arith, s.first, s.geometry.block_high);
          within = (end_inside g (length b0) (length b1) n0 n1 m sound).0;
        }

    second_known : Known g.prog_size b1 m
    second_known =
        let s = record_sized g (length b0) (length b1) n0 n1 m sound in
        record {
          divides = omega (arith, s.geometry.prog_low);
          high = omega (arith, s.second, s.geometry.block_high);
          within = (end_inside g (length b0) (length b1) n0 n1 m sound).1;
        }

    -- b is the block that the record was read from
    pub block_known : (b : List ℕ) → b ≡ block_of b0 b1 n0 m → Known g.prog_size b m
    block_known = of_block b0 b1 n0 m (λ b. Known g.prog_size b m) (first_known, second_known)

    module _ (h0 h1 : Bool) (e0 : h0 ≡ too_high count n0) (e1 : h1 ≡ too_high count n1) where
      pub refetch_high : h0 || h1 ≡ true → Err Corrupt ≡ refetch_of g b0 b1 n0 n1 count seed m
      unfolding refetch_of
      refetch_high h = sym (rw (← is, ok, ← e0, ← e1, h))

      -- r is what `go_on` answers
      module _ (low : h0 || h1 ≡ false) (r : Result Fetched Refusal) where
        pub refetch_read : (b : List ℕ) → b ≡ block_of b0 b1 n0 m → r ≡ continued g.prog_size b seed m
            → r ≡ refetch_of g b0 b1 n0 n1 count seed m
        unfolding refetch_of
        refetch_read b q e = e ∙ ap (λ (x : List ℕ). continued g.prog_size x seed m) q
            ∙ sym (rw (← is, ok, ← e0, ← e1, low))
