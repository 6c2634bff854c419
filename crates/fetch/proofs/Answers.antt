-- Which block answers: a log with no commit ends where it starts; the blocks in rank; and fetch's tests in order.
-- Assumes nothing.
use mathlib.Core.Path.{◌≡◌, refl, ap, ap₂, ◌∙◌}
use mathlib.Core.Bool.{true, false}
use mathlib.Core.List.{List, [], ◌∷◌}
use mathlib.Core.Logic.{◌≢◌}
use Prim.Native.Nat.{ℕ, ◌+◌, ◌≤◌}
use native.Mathlib.Omega.{arith}
use lib.ListN.{length}
use Rattle.format.specs.Word.{le32}
use Rattle.format.specs.Walk.{Event, ent, chk, inv, walk}
use Rattle.format.specs.Log.{kept_before, committed, log, event_length, span}
use Rattle.format.specs.Count.{second_first}
use Rattle.format.specs.View.{none, at, rank, view}
use Rattle.format.specs.Fetch.{pair_fits, too_high, viewed, fetch_of}
use Rattle.format.specs.declared.Geometry.{Geometry}
use Rattle.format.specs.declared.Refusal.TheVariants.{Invalid, Corrupt}
use Rattle.format.proofs.Words.{tag_length_ge}
use Rattle.sizes.proofs.Sized.{sized}
use Rattle.fetch_walk.specs.Block.{walked_of}
use Rattle.fetch_walk.specs.declared.Walked.{Walked}
use Rattle.fetch_walk.proofs.Folds.{log_within}
use Rattle.fetch.specs.Read.{Readable, Readables, answer_by, in_order}
use Rattle.fetch.proofs.FromWalk.{answer_is}
use Rattle.std.specs.Prelude.{Err, Result}
use Rattle.format.specs.declared.Fetched.{Fetched}
use Rattle.format.specs.declared.Refusal.{Refusal}

-- ---- a log with a commit is at least one check long
span_some : (es : List Event) → committed es ≢ [] → 4 ≤ span (committed es)
unfolding committed span event_length
span_some [] n = absurd (n refl)
span_some (chk t x ∷ es) n = omega (arith, tag_length_ge t)
span_some (ent t x ∷ es) n = go (committed es) n
  where
    go : (l : List Event) → kept_before (ent t x) l ≢ [] → 4 ≤ span (kept_before (ent t x) l)
    go [] n = absurd (n refl)
    go (y ∷ l) n = omega (arith, tag_length_ge t)
span_some (inv ∷ es) n = go (committed es) n (λ k. span_some es k)
  where
    go : (l : List Event) → kept_before inv l ≢ [] → (l ≢ [] → 4 ≤ span l) → 4 ≤ span (kept_before inv l)
    go [] n ih = absurd (n refl)
    go (y ∷ l) n ih = omega (arith, ih (λ q. let z : ◌≡◌ {A = ℕ} 0 1 = cc in omega arith))

-- w is what the walk over b leaves
module _ (b : List ℕ) (seed : ℕ) (w : Walked) (e : w ≡ walked_of b seed) where
  off_is : w.taken.off ≡ 4 + span (log b)
  unfolding walked_of
  off_is = ap (λ (v : Walked). v.taken.off) e

  some_log : (w.taken.off ≡ 4 → ⊥) → log b ≢ []
  unfolding span
  some_log h q = h (off_is ∙ ap (λ (l : List Event). 4 + span l) q)

  log_low : log b ≢ [] → 4 ≤ span (log b)
  unfolding log
  log_low n = span_some (walk b) n

  none_log : w.taken.off ≡ 4 → log b ≡ []
  none_log h = go (log b) refl
    where
      go : (l : List Event) → log b ≡ l → l ≡ []
      go [] q = refl
      go (x ∷ l) q = absurd (omega (arith, off_is, log_low (λ z. let y : ◌≡◌ {A = ℕ} 0 1 = cc in omega arith)))

  pub taken_within : 4 ≤ length b → w.taken.off ≤ length b
  taken_within h = omega (arith, off_is, log_within b h)

-- ---- the blocks in rank
rank_first : (r s : ℕ) (es fs : List Event) → es ≢ [] → rank false r s es fs ≡ at false r es
unfolding rank
rank_first r s [] fs n = absurd (n refl)
rank_first r s (e ∷ es) fs n = refl

rank_second : (r s : ℕ) (fs : List Event) → fs ≢ [] → rank false r s [] fs ≡ at true s fs
unfolding rank
rank_second r s [] n = absurd (n refl)
rank_second r s (f ∷ fs) n = refl

rank_none : (r s : ℕ) → rank false r s [] [] ≡ none
unfolding rank
rank_none r s = refl

-- w and v are what the two walks leave, x the revision that was read, r is what `answer` answers
module _ (prog n : ℕ) (b : List ℕ) (m : ℕ) (c : List ℕ) (seed : ℕ) (w : Walked) (e : w ≡ walked_of b seed) where
  pub first_answers : (x : ℕ) (r : Result Fetched Refusal) → (w.taken.off ≡ 4 → ⊥) → x ≡ le32 b
      → r ≡ answer_by prog (record { n0 = n; n1 = m }) x b w → r ≡ in_order prog n b m c seed
  unfolding in_order
  first_answers x r h ex er =
      er ∙ ap₂ (λ (y : ℕ) (u : Walked). answer_by prog (record { n0 = n; n1 = m }) y b u) ex e
      ∙ answer_is prog n m b seed
      ∙ rw (rank_first (le32 b) (le32 c) (log b) (log c) (some_log b seed w e h))

  module _ (empty : w.taken.off ≡ 4) (v : Walked) (f : v ≡ walked_of c seed) where
    pub second_answers : (x : ℕ) (r : Result Fetched Refusal) → (v.taken.off ≡ 4 → ⊥) → x ≡ le32 c
        → r ≡ answer_by prog (record { n0 = m; n1 = n }) x c v → r ≡ in_order prog n b m c seed
    unfolding in_order
    second_answers x r h ex er =
        er ∙ ap₂ (λ (y : ℕ) (u : Walked). answer_by prog (record { n0 = m; n1 = n }) y c u) ex f
        ∙ answer_is prog m n c seed
        ∙ rw (none_log b seed w e empty, rank_second (le32 b) (le32 c) (log c) (some_log c seed v f h))

    pub none_answers : v.taken.off ≡ 4 → Err Corrupt ≡ in_order prog n b m c seed
    unfolding in_order
    none_answers h = rw (none_log b seed w e empty, none_log c seed v f h, rank_none (le32 b) (le32 c))

-- the second tried first is the first tried first, the other way round
swapped : (prog n0 n1 : ℕ) (b0 b1 : List ℕ) (seed r s : ℕ) (es fs : List Event)
    → viewed prog n1 n0 b1 b0 seed (rank false s r fs es) ≡ viewed prog n0 n1 b0 b1 seed (rank true r s es fs)
unfolding rank
swapped prog n0 n1 b0 b1 seed r s [] [] = refl
swapped prog n0 n1 b0 b1 seed r s (e ∷ es) [] = refl
swapped prog n0 n1 b0 b1 seed r s [] (f ∷ fs) = refl
swapped prog n0 n1 b0 b1 seed r s (e ∷ es) (f ∷ fs) = refl

-- ---- the sizes that were tested, in either order of the blocks
module _ (g : Geometry) (b0 b1 : List ℕ) (n0 n1 : ℕ) (ok : pair_fits g (length b0) (length b1) n0 n1 ≡ true) where
  pub readables : Readables g.prog_size b0 b1
  readables =
      let s = sized g (length b0) (length b1) n0 n1 ok in
      record {
        divides = omega arith;
        low = omega arith;
        high = omega arith;
        other_low = omega arith;
        other_high = omega arith;
      }

  pub readables_swapped : Readables g.prog_size b1 b0
  readables_swapped = let r =
      readables in record {
        divides = r.divides;
        low = r.other_low;
        high = r.other_high;
        other_low = r.low;
        other_high = r.high;
      }

-- and of a block that was walked
module _ (prog : ℕ) (b c : List ℕ) (sizes : Readables prog b c) where
  pub walked_first : (seed : ℕ) (w : Walked) → w ≡ walked_of b seed → Readable prog b w
  walked_first seed w e = record {
    divides = sizes.divides;
    high = sizes.high;
    within = taken_within b seed w e sizes.low;
  }

  pub walked_second : (seed : ℕ) (w : Walked) → w ≡ walked_of c seed → Readable prog c w
  walked_second seed w e = record {
    divides = sizes.divides;
    high = sizes.other_high;
    within = taken_within c seed w e sizes.other_low;
  }

-- ---- fetch, by its tests in order
module _ (g : Geometry) (b0 b1 : List ℕ) (n0 n1 count seed : ℕ) where
  pub fetch_invalid : pair_fits g (length b0) (length b1) n0 n1 ≡ false
      → Err Invalid ≡ fetch_of g b0 b1 n0 n1 count seed
  unfolding fetch_of
  fetch_invalid h = simp h

  module _ (ok : pair_fits g (length b0) (length b1) n0 n1 ≡ true) where
    pub fetch_high : too_high count n0 ≡ true → Err Corrupt ≡ fetch_of g b0 b1 n0 n1 count seed
    unfolding fetch_of
    fetch_high h = simp (ok, h)

    module _ (low0 : too_high count n0 ≡ false) where
      pub fetch_high_2 : too_high count n1 ≡ true → Err Corrupt ≡ fetch_of g b0 b1 n0 n1 count seed
      unfolding fetch_of
      fetch_high_2 h = simp (ok, low0, h)

      -- v0 and v1 are the revisions that were read
      module _ (low1 : too_high count n1 ≡ false) (v0 v1 : ℕ) (e0 : v0 ≡ le32 b0) (e1 : v1 ≡ le32 b1) where
        pub fetch_second : second_first v0 v1 ≡ true → in_order g.prog_size n1 b1 n0 b0 seed
            ≡ fetch_of g b0 b1 n0 n1 count seed
        unfolding fetch_of in_order view
        fetch_second h = simp (ok, low0, low1, ← e0, ← e1, h)
            (swapped g.prog_size n0 n1 b0 b1 seed v0 v1 (log b0) (log b1))

        pub fetch_first : second_first v0 v1 ≡ false → in_order g.prog_size n0 b0 n1 b1 seed
            ≡ fetch_of g b0 b1 n0 n1 count seed
        unfolding fetch_of in_order view
        fetch_first h = simp (ok, low0, low1, ← e0, ← e1, h)
