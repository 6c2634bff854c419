-- The refusals of fetch hold exactly when document 01 says: none is made at any other time, and none is left out.
-- Assumes nothing.
use Rattle.std.specs.Prelude.{◌≡◌, Bool, not, cond, ◌||◌, List, [], ◌∷◌, ◌↔◌, ◌⊎◌, ℕ, ltb, length, Err, Ok, Result}
use Rattle.std.proofs.Math.Path.{refl}
use Rattle.std.proofs.Math.Bool.{true, false}
use Rattle.std.proofs.Math.Logic.{inl, inr}
use Rattle.std.proofs.Common.{arith}
use Rattle.format.specs.Word.{le32}
use Rattle.format.specs.Walk.{Event}
use Rattle.format.specs.Log.{log}
use Rattle.format.specs.Count.{second_first}
use Rattle.format.specs.Record.{seed_of}
use Rattle.format.specs.View.{View, none, at, rank, view}
use Rattle.format.specs.Fetch.{pair_fits, too_high, mdir_of, few_enough, viewed, fetch_of}
use Rattle.format.specs.declared.Geometry.{Geometry}
use Rattle.format.specs.declared.LfsMdir.{LfsMdir}
use Rattle.format.specs.declared.Refusal.{Refusal}
use Rattle.format.specs.declared.Refusal.TheVariants.{Invalid, Corrupt, TooMany}
use Rattle.format.specs.declared.Fetched.{Fetched}
use Rattle.format.specs.Record.{fetched}

-- two answers that are not equal
pub apart : {A : Type 0} → ◌≡◌ {A = ℕ} 0 1 → A
apart e = absurd (omega arith)

-- a block that answers is refused for its count only
pub few_refuses : (m : LfsMdir) (s : ℕ) (r : Refusal) → few_enough m s ≡ Err r → r ≡ TooMany (fetched m s)
few_refuses m s r h = go (ltb 1_023 m.count) h
  where
    go : (q : Bool) → cond q (Err (TooMany (fetched m s))) (Ok (fetched m s)) ≡ Err r → r ≡ TooMany (fetched m s)
    go true h = cc
    go false h = apart (cc)

module _ (prog n0 n1 : ℕ) (b0 b1 : List ℕ) (seed : ℕ) where
  not_invalid : {A : Type 0} (v : View) → viewed prog n0 n1 b0 b1 seed v ≡ Err Invalid → A
  not_invalid none h = apart (cc)
  not_invalid (at false rev es) h = let e = few_refuses (mdir_of prog n0 n1 b0 rev es) (seed_of seed es) Invalid h in
      apart (cc)
  not_invalid (at true rev es) h = let e = few_refuses (mdir_of prog n1 n0 b1 rev es) (seed_of seed es) Invalid h in apart
      (cc)

  corrupt_none : (v : View) → viewed prog n0 n1 b0 b1 seed v ≡ Err Corrupt → v ≡ none
  corrupt_none none h = refl
  corrupt_none (at false rev es) h = let e = few_refuses (mdir_of prog n0 n1 b0 rev es) (seed_of seed es) Corrupt h in
      apart (cc)
  corrupt_none (at true rev es) h = let e = few_refuses (mdir_of prog n1 n0 b1 rev es) (seed_of seed es) Corrupt h in
      apart (cc)

-- no block answers exactly when both logs are empty
rank_none : (q : Bool) (r s : ℕ) (es fs : List Event) → rank q r s es fs ≡ none → (es ≡ []) × (fs ≡ [])
unfolding rank
rank_none false r s [] [] h = (refl, refl)
rank_none false r s [] (f ∷ fs) h = apart (cc)
rank_none false r s (e ∷ es) fs h = apart (cc)
rank_none true r s [] [] h = (refl, refl)
rank_none true r s es (f ∷ fs) h = apart (cc)
rank_none true r s (e ∷ es) [] h = apart (cc)

none_rank : (q : Bool) (r s : ℕ) → rank q r s [] [] ≡ none
unfolding rank
none_rank false r s = refl
none_rank true r s = refl

module _ (g : Geometry) (b0 b1 : List ℕ) (n0 n1 count seed : ℕ) where
  fits : Bool
  fits = pair_fits g (length b0) (length b1) n0 n1

  high : Bool
  high = too_high count n0 || too_high count n1

  -- fetch, of the answers to its two tests
  tested : Bool → Bool → Result Fetched Refusal
  tested f h = cond (not f) (Err Invalid)
      (cond h (Err Corrupt) (viewed g.prog_size n0 n1 b0 b1 seed (view b0 b1)))

  -- "-22 | a size or number above is broken": exactly then
  pub invalid_exactly : (fetch_of g b0 b1 n0 n1 count seed ≡ Err Invalid) ↔
      (pair_fits g (length b0) (length b1) n0 n1 ≡ false)
  unfolding fetch_of fits high tested
  invalid_exactly = (only fits high, λ e. rw e)
    where
      only : (f h : Bool) → tested f h ≡ Err Invalid → f ≡ false
      only false h e = refl
      only true true e = apart (cc)
      only true false e = not_invalid g.prog_size n0 n1 b0 b1 seed (view b0 b1) e

  -- "-84 holds exactly when neither block begins with a valid commit, or a number is too high", the sizes and numbers
  -- being sound
  pub corrupt_exactly : pair_fits g (length b0) (length b1) n0 n1 ≡ true
      → (fetch_of g b0 b1 n0 n1 count seed ≡ Err Corrupt) ↔
      ((too_high count n0 || too_high count n1 ≡ true) ⊎ ((log b0 ≡ []) × (log b1 ≡ [])))
  unfolding fetch_of fits high tested view
  corrupt_exactly sound = (λ e. only high (rw sound at e), back)
    where
      only : (h : Bool) → tested true h ≡ Err Corrupt → (h ≡ true) ⊎ ((log b0 ≡ []) × (log b1 ≡ []))
      only true e = inl refl
      only false e = inr (rank_none (second_first (le32 b0) (le32 b1)) (le32 b0) (le32 b1) (log b0) (log b1)
          (corrupt_none g.prog_size n0 n1 b0 b1 seed (view b0 b1) e))

      empty : (h : Bool) → log b0 ≡ [] → log b1 ≡ [] → tested true h ≡ Err Corrupt
      empty true e f = refl
      empty false e f = rw (e, f, none_rank (second_first (le32 b0) (le32 b1)) (le32 b0) (le32 b1))

      back : (too_high count n0 || too_high count n1 ≡ true) ⊎ ((log b0 ≡ []) × (log b1 ≡ []))
          → fetch_of g b0 b1 n0 n1 count seed ≡ Err Corrupt
      back (inl h) = rw (sound, h)
      back (inr e) = rw sound (empty high e.0 e.1)
