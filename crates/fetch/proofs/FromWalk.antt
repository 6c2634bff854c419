-- What the code reads off a walk, from the tests that a branch made; and that of the block's own walk it is format's
-- record. Assumes nothing.
use mathlib.Core.Path.{◌≡◌, refl, sym, ap, ◌∙◌}
use mathlib.Core.Bool.{true, false}
use mathlib.Core.List.{List}
use Prim.Native.Nat.{ℕ, ◌+◌, ◌-◌, ◌%◌, ◌<◌, ◌≤◌}
use native.Mathlib.Omega.{arith}
use lib.Dec.{eqb}
use lib.ListN.{length, take, drop}
use borrow.Author.Tests.{eq-eqb, ne_eqb, lt-ltb, le-ltb, le-leb, lt-leb}
use Rattle.format.specs.Word.{le32, all_ones}
use Rattle.format.specs.Crc.{crc}
use Rattle.format.specs.Log.{log}
use Rattle.format.specs.Record.{seed_of}
use Rattle.format.specs.Fetch.{erased_of, mdir_of, few_enough}
use Rattle.format.specs.Refetch.{mdir_behind, continued}
use Rattle.format.specs.declared.LfsPair.{LfsPair}
use Rattle.format.specs.declared.LfsMdir.{LfsMdir}
use Rattle.format.specs.declared.Refusal.TheVariants.{TooMany}
use Rattle.fetch_walk.specs.Block.{walked_of, walked_again}
use Rattle.fetch_walk.specs.declared.Walked.{Walked}
use Rattle.fetch.specs.Read.{erased_by, mdir_by, answer_by}
use Rattle.fetch.specs.Known.{known_by}
use Rattle.std.specs.Prelude.{Err, Ok}
use Rattle.format.specs.Record.{fetched}

-- ---- the erased mark, from the tests in order
module _ (prog : ℕ) (b : List ℕ) (w : Walked) where
  pub not_straight : w.straight ≡ false → false ≡ erased_by prog b w
  unfolding erased_by
  not_straight h = simp h

  module _ (s : w.straight ≡ true) where
    pub not_multiple : (w.taken.off % prog ≡ 0 → ⊥) → false ≡ erased_by prog b w
    unfolding erased_by
    not_multiple h = simp (s, ne_eqb _ _ h)

    module _ (m : w.taken.off % prog ≡ 0) where
      pub not_seen : w.taken.dir.fcrc.seen ≡ false → false ≡ erased_by prog b w
      unfolding erased_by
      not_seen h = simp (s, eq-eqb _ _ m, h)

      module _ (f : w.taken.dir.fcrc.seen ≡ true) where
        pub no_room : length b < w.taken.off + w.taken.dir.fcrc.size → false ≡ erased_by prog b w
        unfolding erased_by
        no_room h = simp (s, eq-eqb _ _ m, f, lt-leb _ _ h)

        -- x is what `lfs_crc` answers
        pub with_room : (x : ℕ) → w.taken.off + w.taken.dir.fcrc.size ≤ length b
            → x ≡ crc all_ones (take (w.taken.off + w.taken.dir.fcrc.size - w.taken.off)
            (drop w.taken.off b))
            → eqb x w.taken.dir.fcrc.sum ≡ erased_by prog b w
        unfolding erased_by
        with_room x h e =
            let q : w.taken.off + w.taken.dir.fcrc.size - w.taken.off ≡ w.taken.dir.fcrc.size =
            omega arith in
            simp (s, eq-eqb _ _ m, f, le-leb _ _ h) (cc)

-- ---- the answer: k is what `mdir` answers
module _ (prog : ℕ) (pair : LfsPair) (rev : ℕ) (b : List ℕ) (w : Walked) (k : LfsMdir)
    (e : k ≡ mdir_by prog pair rev b w) where
  pub too_many : 1_023 < k.count → Err (TooMany (fetched k w.taken.seed)) ≡ answer_by prog pair rev b w
  unfolding answer_by
  too_many h = sym (ap (λ (d : LfsMdir). few_enough d w.taken.seed) (sym e) ∙ rw (lt-ltb 1_023 k.count h))

  pub few : k.count ≤ 1_023 → Ok (fetched k w.taken.seed) ≡ answer_by prog pair rev b w
  unfolding answer_by
  few h = sym (ap (λ (d : LfsMdir). few_enough d w.taken.seed) (sym e) ∙ rw (le-ltb 1_023 k.count h))

-- ---- of the block's own walk
pub answer_is : (prog n m : ℕ) (b : List ℕ) (seed : ℕ)
    → answer_by prog (record { n0 = n; n1 = m }) (le32 b) b (walked_of b seed)
    ≡ few_enough (mdir_of prog n m b (le32 b) (log b)) (seed_of seed (log b))
unfolding answer_by mdir_by walked_of mdir_of erased_by erased_of
answer_is prog n m b seed = refl

-- ---- of the walk that goes on from a record
pub again_is : (prog : ℕ) (b : List ℕ) (seed : ℕ) (m : LfsMdir)
    → answer_by prog m.pair m.rev b (walked_again b (known_by seed m)) ≡ continued prog b seed m
unfolding answer_by mdir_by walked_again known_by mdir_behind erased_by
again_is prog b seed m = refl
