-- Which block a found record is of, and what of the record the block's log says. Assumes nothing.
use Rattle.std.specs.Prelude.{◌≡◌, refl, Bool, cond, ◌&&◌, ◌||◌, List, ℕ, length, eqb, ltb, Err, Ok, Result}
use Rattle.std.proofs.Common.{sym, ◌∙◌, arith}
use Rattle.std.proofs.Math.Path.{ap}
use Rattle.std.proofs.Math.Bool.{true, false, not}
use borrow.Author.Tests.{eq-eqb, ne_eqb, eqb-false, not-true, not-false}
use Rattle.format.specs.Log.{log, log_end, log_end_tag}
use Rattle.format.specs.Record.{count_of, seed_of}
use Rattle.format.specs.View.{View, none, at, view}
use Rattle.format.specs.Fetch.{geometry_fits, pair_fits, too_high, mdir_of, few_enough, viewed, fetch_of}
use Rattle.format.specs.Writer.{block_at, is_second}
use Rattle.format.specs.declared.Geometry.{Geometry}
use Rattle.format.specs.declared.LfsMdir.{LfsMdir}
use Rattle.format.specs.declared.Refusal.{Refusal}
use Rattle.format.specs.declared.Refusal.TheVariants.{Corrupt, TooMany}
use Rattle.theory.specs.Walk.Step.{both_true}
use Rattle.theory.specs.Log.TwoBlocks.{view_at, view_log}
use Rattle.format.specs.declared.Fetched.{Fetched}
use Rattle.format.specs.Record.{fetched}
use Rattle.format.specs.Answer.{answer_mdir}

-- the record m is of the block at place w of the two: the first where w is false
pub record Answering (b0 b1 : List ℕ) (n0 : ℕ) (m : LfsMdir) : Type 0 where
  pub w : Bool
  pub rev : ℕ
  pub place : is_second n0 m ≡ w
  pub answers : view_at w (block_at w b0 b1) (block_at (not w) b0 b1) ≡ at w rev (log (block_at w b0 b1))
  pub end : m.off ≡ log_end (log (block_at w b0 b1))
  pub end_tag : m.etag ≡ log_end_tag (log (block_at w b0 b1))
  pub count : m.count ≡ count_of 0 (log (block_at w b0 b1))

refused_found : (r : Refusal) (m : LfsMdir) (s : ℕ) → Err r ≡ Ok (fetched m s) → ⊥
refused_found r m s h = let z : ◌≡◌ {A = ℕ} 0 1 = cc in omega arith

pub few_found : (k m : LfsMdir) (t s : ℕ) → few_enough k t ≡ Ok (fetched m s) → k ≡ m
few_found k m t s h = go (ltb 1_023 k.count) h
  where
    go : (b : Bool) → cond b (Err (TooMany (fetched k t))) (Ok (fetched k t)) ≡ Ok (fetched m s) → k ≡ m
    go true h = cc
    go false h = ap answer_mdir h

-- a test that did not refuse
pub past_test : (b : Bool) (r : Refusal) (f : Result Fetched Refusal) (m : LfsMdir) (s : ℕ) → cond b (Err r) f ≡ Ok (fetched m s)
    → (b ≡ false) × (f ≡ Ok (fetched m s))
past_test true r f m s h = absurd (refused_found r m s h)
past_test false r f m s h = (refl, h)

module _ (prog n0 n1 : ℕ) (b0 b1 : List ℕ) (seed : ℕ) (m : LfsMdir) (s : ℕ) (apart : eqb n0 n1 ≡ false) where
  viewed_answers : (v : View) → view b0 b1 ≡ v → viewed prog n0 n1 b0 b1 seed v ≡ Ok (fetched m s) → Answering b0 b1 n0 m
  unfolding mdir_of
  viewed_answers none h f = absurd (refused_found Corrupt m s f)
  viewed_answers (at false rev es) h f =
      let e : mdir_of prog n0 n1 b0 rev es ≡ m = few_found (mdir_of prog n0 n1 b0 rev es) m (seed_of seed es) s f in
      let l : log b0 ≡ es = (view_log false b0 b1 rev es h).0 in
      record {
        w = false;
        rev = rev;
        place = ap (λ (k : LfsMdir). is_second n0 k) (sym e) ∙ ap not (eq-eqb n0 n0 refl);
        answers = rw l h;
        end = ap (λ (k : LfsMdir). k.off) (sym e) ∙ ap log_end (sym l);
        end_tag = ap (λ (k : LfsMdir). k.etag) (sym e) ∙ ap log_end_tag (sym l);
        count = ap (λ (k : LfsMdir). k.count) (sym e) ∙ ap (count_of 0) (sym l);
      }
  viewed_answers (at true rev es) h f =
      let e : mdir_of prog n1 n0 b1 rev es ≡ m = few_found (mdir_of prog n1 n0 b1 rev es) m (seed_of seed es) s f in
      let l : log b1 ≡ es = (view_log true b1 b0 rev es h).0 in
      record {
        w = true;
        rev = rev;
        place = ap (λ (k : LfsMdir). is_second n0 k) (sym e)
            ∙ ap not (ne_eqb n1 n0 (λ q. eqb-false n0 n1 apart (sym q)));
        answers = rw l h;
        end = ap (λ (k : LfsMdir). k.off) (sym e) ∙ ap log_end (sym l);
        end_tag = ap (λ (k : LfsMdir). k.etag) (sym e) ∙ ap log_end_tag (sym l);
        count = ap (λ (k : LfsMdir). k.count) (sym e) ∙ ap (count_of 0) (sym l);
      }

-- fetch's record is of the block that its pair names first
pub found_answers : (g : Geometry) (b0 b1 : List ℕ) (n0 n1 count seed : ℕ) (m : LfsMdir) (s : ℕ)
    → fetch_of g b0 b1 n0 n1 count seed ≡ Ok (fetched m s) → Answering b0 b1 n0 m
unfolding fetch_of pair_fits
found_answers g b0 b1 n0 n1 count seed m s h =
    let p = past_test (not (pair_fits g (length b0) (length b1) n0 n1)) _ _ m s h in
    let q = past_test (too_high count n0 || too_high count n1) _ _ m s p.1 in
    let r = both_true (geometry_fits g && eqb (length b0) g.block_size && eqb (length b1) g.block_size)
    (not (eqb n0 n1)) (not-false _ p.0) in
    viewed_answers g.prog_size n0 n1 b0 b1 seed m s (not-true (eqb n0 n1) r.1) (view b0 b1) refl q.1
