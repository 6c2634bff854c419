-- Document 02, L6: the refetch from a record's end. Where record and seed are of a fetch, and what that fetch read is
-- unchanged, it is a fetch; so behind a commit, wherever it is stopped. And of any record: which refusals it gives,
-- when exactly, and that its answer decides. Assumes nothing.
use Rattle.std.specs.Prelude.{◌≡◌, ◌↔◌, Bool, not, cond, ◌||◌, List, ℕ, length, take, Err, Result}
use Rattle.std.proofs.Math.Path.{refl}
use Rattle.std.proofs.Math.Bool.{true, false}
use Rattle.format.specs.Log.{committed}
use Rattle.format.specs.Record.{seed_of}
use Rattle.format.specs.Fetch.{too_high, few_enough, fetch_of}
use Rattle.format.specs.Lookup.{block_of}
use Rattle.format.specs.Refetch.{refetch_fits, walk_behind, mdir_behind, refetch_of, known_to, Gave}
use Rattle.format.specs.Writer.{Images, commit_images}
use Rattle.format.specs.declared.Geometry.{Geometry}
use Rattle.format.specs.declared.LfsMdir.{LfsMdir}
use Rattle.format.specs.declared.Entry.{Entry}
use Rattle.format.specs.declared.Refusal.TheVariants.{Invalid, Corrupt}
use Rattle.theory.specs.Fetch.Refetched as theory
use Rattle.theory.proofs.Stopped.Refetch as commit
use Rattle.promises.specs.Decided.{Decides, decided}
use Rattle.promises.specs.Possible.{AnswerOr, FetchRefuses, fetch22, fetch84, through, few_possible}
use Rattle.promises.specs.Exactly.{apart, few_refuses}
use Rattle.promises.specs.Numbers.{FetchedTold, fetched_determined}
use Rattle.format.specs.declared.Fetched.{Fetched}
use Rattle.format.specs.declared.Refusal.{Refusal}

-- THE REFETCH IS A FETCH. A fetch of the images a0 and a1, from any seed and with any block count, gave the record m
-- and the seed s. In the images now, b0 and b1, the block that m was read from is unchanged up to the record's end and
-- in its last checksum, which reaches past an end that is less than eight bytes behind the check's tag (`known_to`); the
-- other block is unchanged. Both revisions are among these bytes. Then the refetch answers what a fetch of the images
-- now answers, from the first fetch's own seed: record, forward check, erased mark and seed, and every refusal. The
-- sizes and the block count of the two calls need not be the same.
pub refetch_is_fetch : (g g' : Geometry) (a0 a1 b0 b1 : List ℕ) (n0 n1 count count' seed : ℕ) (m : LfsMdir) (s : ℕ)
    → Gave (fetch_of g a0 a1 n0 n1 count seed) m s
    → take (known_to m) (block_of b0 b1 n0 m) ≡ take (known_to m) (block_of a0 a1 n0 m)
    → block_of b1 b0 n0 m ≡ block_of a1 a0 n0 m
    → refetch_of g' b0 b1 n0 n1 count' s m ≡ fetch_of g' b0 b1 n0 n1 count' seed
refetch_is_fetch g g' a0 a1 b0 b1 n0 n1 count count' seed m s =
    theory.refetched g g' a0 a1 b0 b1 n0 n1 count count' seed m s

-- BEHIND A COMMIT, after any number n of its stores, all of them or none; and also where it is refused: the refetch
-- from the record before it is a fetch.
pub refetch_behind_commit : (g : Geometry) (b0 b1 : List ℕ) (n0 n1 count seed rules e : ℕ) (entries : List Entry)
    (dat : List ℕ) (n : ℕ) (m : LfsMdir) (s : ℕ) → Gave (fetch_of g b0 b1 n0 n1 count seed) m s
    → (let i : Images = commit_images g b0 b1 n0 n1 count seed rules e entries dat n in
    refetch_of g i.b0 i.b1 n0 n1 count s m ≡ fetch_of g i.b0 i.b1 n0 n1 count seed)
refetch_behind_commit g b0 b1 n0 n1 count seed rules e entries dat n m s =
    commit.refetch_behind g b0 b1 n0 n1 count seed rules e entries dat n m s

-- ---- of any record, seed and images
module _ (g : Geometry) (b0 b1 : List ℕ) (n0 n1 count seed : ℕ) (m : LfsMdir) where
  fits : Bool
  fits = refetch_fits g (length b0) (length b1) n0 n1 m

  high : Bool
  high = too_high count n0 || too_high count n1

  -- what is read, and the seed behind it
  read : LfsMdir
  read = mdir_behind g.prog_size (block_of b0 b1 n0 m) m (walk_behind (block_of b0 b1 n0 m) m)

  behind : ℕ
  behind = seed_of seed (committed (walk_behind (block_of b0 b1 n0 m) m))

  -- refetch, of the answers to its two tests
  tested : Bool → Bool → Result Fetched Refusal
  tested f h = cond (not f) (Err Invalid) (cond h (Err Corrupt) (few_enough read behind))

  -- "A record whose end passes the block or is below 8, or whose pair isn't the given one, is -22", as a broken size or
  -- number is: exactly then
  pub refetch_invalid_exactly : (refetch_of g b0 b1 n0 n1 count seed m ≡ Err Invalid) ↔
      (refetch_fits g (length b0) (length b1) n0 n1 m ≡ false)
  unfolding refetch_of fits high tested read behind
  refetch_invalid_exactly = (only fits high, λ e. rw e)
    where
      only : (f h : Bool) → tested f h ≡ Err Invalid → f ≡ false
      only false h e = refl
      only true true e = apart (cc)
      only true false e = let z = few_refuses read behind Invalid e in apart (cc)

  -- -84 exactly if the record is sound, and a number is not below a non-zero block count: the bytes are not asked
  pub refetch_corrupt_exactly : refetch_fits g (length b0) (length b1) n0 n1 m ≡ true
      → (refetch_of g b0 b1 n0 n1 count seed m ≡ Err Corrupt) ↔ (too_high count n0 || too_high count n1 ≡ true)
  unfolding refetch_of fits high tested read behind
  refetch_corrupt_exactly sound = (λ e. only high (rw sound at e), λ h. rw (sound, h))
    where
      only : (h : Bool) → tested true h ≡ Err Corrupt → h ≡ true
      only true e = refl
      only false e = let z = few_refuses read behind Corrupt e in apart (cc)

  pub refetch_possible : AnswerOr FetchRefuses (refetch_of g b0 b1 n0 n1 count seed m)
  unfolding refetch_of read behind
  refetch_possible =
      through (AnswerOr FetchRefuses) (not (refetch_fits g (length b0) (length b1) n0 n1 m)) fetch22
      (through (AnswerOr FetchRefuses) (too_high count n0 || too_high count n1) fetch84 (few_possible read behind))

  pub refetch_told : FetchedTold seed (refetch_of g b0 b1 n0 n1 count seed m)
  refetch_told = fetched_determined seed _ refetch_possible

  pub refetch_decided : Decides (refetch_of g b0 b1 n0 n1 count seed m)
  refetch_decided = decided (refetch_of g b0 b1 n0 n1 count seed m)
