-- A build of one block, by its tests: where its log ends, and whether it is regular. Assumes nothing.
use mathlib.Core.Path.{◌≡◌, refl, sym, ap, ◌∙◌}
use mathlib.Core.Logic.{◌≢◌}
use mathlib.Core.Bool.{Bool, true, false, not, and-false}
use mathlib.Core.List.{List}
use Prim.Native.Nat.{ℕ, ◌-◌, ◌≤◌, ◌<◌}
use native.Mathlib.Omega.{arith}
use lib.ListN.{length, take, drop, length-take}
use lib.Dec.{ltb}
use borrow.Author.Tests.{ne_eqb, eq-eqb, le-ltb, lt-ltb, not-true, not-false}
use Rattle.format.specs.Log.{log, log_end}
use Rattle.format.specs.Regular.{Regular}
use Rattle.format.specs.Index.{log_to, ends_at, indexable, built, indexed_as, table_as}
use Rattle.format.specs.declared.Rules.{Rules}
use Rattle.format.specs.declared.Refusal.TheVariants.{Irregular}
use Rattle.format.proofs.Growing.{widest}
use Rattle.fetch_walk.specs.Block.{walked_of}
use Rattle.fetch_walk.specs.declared.Walked.{Walked}
use Rattle.commit_regular.specs.Ends.{CommittedTo}
use Rattle.index_pass.specs.Run.{Buildable}
use Rattle.index.specs.Blocks.{InBlock, block_answer, block_table, indexed_in, tabled_in}
use Rattle.std.specs.Prelude.{Err, Result, Option}
use Rattle.format.specs.declared.Refusal.{Refusal}

-- the part of a block up to an end
abbrev pub front : List ℕ → ℕ → List ℕ
front b end = take (end - 0) (drop 0 b)

pub front_is : (b : List ℕ) (end : ℕ) → front b end ≡ take end b
front_is b end = let e : end - 0 ≡ end = omega arith in ap (λ (n : ℕ). take n b) e

-- what is answered and left: of the test x, and of what the table v comes to
abbrev pub Answers : Bool → Option (List ℕ) → List ℕ → Result ℕ Refusal → List ℕ → Type 0
Answers x v T r new = (r ≡ block_answer x v) × (new ≡ block_table x T v)

pub refuses : (x : Bool) (v : Option (List ℕ)) (T : List ℕ) → x ≡ false
    → Answers x v T (Err Irregular) T
unfolding block_answer block_table
refuses x v T h = rw h (refl, refl)

pub accepts : (x : Bool) (v : Option (List ℕ)) (T : List ℕ) → x ≡ true → (r : Result ℕ Refusal) (new : List ℕ)
    → r ≡ indexed_as v → new ≡ table_as (length T) v → Answers x v T r new
unfolding block_answer block_table
accepts x v T h r new er en = rw h (er, en)

-- ---- a commit ends there, or none
pub no_end_low : (b : List ℕ) (end : ℕ) → end ≤ 4 → ends_at b end ≡ false
no_end_low b end h = rw (le-ltb 4 end h)

module _ (b : List ℕ) (end : ℕ) (high : 4 < end) where
  pub no_end : log_end (log_to b end) ≢ end → ends_at b end ≡ false
  no_end h = rw (ne_eqb (log_end (log_to b end)) end h) (and-false (ltb 4 end))

  pub an_end : log_end (log_to b end) ≡ end → ends_at b end ≡ true
  an_end h = rw (lt-ltb 4 end high, eq-eqb (log_end (log_to b end)) end h)

-- w is what the walk over that part answers
pub walked_end : (b : List ℕ) (end : ℕ) (w : Walked) → w ≡ walked_of (front b end) 0
    → w.taken.off ≡ log_end (log_to b end)
unfolding walked_of
walked_end b end w ew = ap (λ (v : Walked). v.taken.off) ew ∙ ap (λ (l : List ℕ). log_end (log l)) (front_is b end)

-- ---- regular or not: the rule that was asked for is r, and x is what `log_regular` answers
module _ (b : List ℕ) (end : ℕ) (k : InBlock b end) (ends : ends_at b end ≡ true) (high : 4 < end)
    (is : log_end (log_to b end) ≡ end) where
  front_long : length (front b end) ≡ end
  front_long = ap length (front_is b end) ∙ length-take end b ∙ omega (arith, k.inside)

  pub front_committed : CommittedTo (front b end) end
  front_committed = record {
    word = omega (arith, front_long);
    ends = sym (ap (λ (l : List ℕ). log_end (log l)) (front_is b end) ∙ is);
  }

  module _ (r : Rules) (x : Bool) (ex : x ≡ Regular r (log (front b end))) where
    test_is : indexable r b end ≡ x
    test_is = sym (ex ∙ rw (front_is b end, ends))

    pub not_indexable : not x ≡ true → indexable r b end ≡ false
    not_indexable h = test_is ∙ not-true x h

    pub is_indexable : not x ≡ false → indexable r b end ≡ true
    is_indexable h = test_is ∙ not-false x h

    pub front_buildable : not x ≡ false → Buildable (front b end) end
    front_buildable h = record {
      word = omega (arith, front_long);
      small = omega (arith, front_long, k.inside, k.small);
      ends = front_committed.ends;
      regular = widest r (log (front b end)) (sym ex ∙ not-false x h);
    }

-- ---- the function, by its tests
module _ (r : Rules) (b : List ℕ) (end : ℕ) (T : List ℕ) where
  abbrev Done : Result ℕ Refusal → List ℕ → Type 0
  Done y new = (y ≡ indexed_in r b end (length T)) × (new ≡ tabled_in r b end T)

  off_end : ends_at b end ≡ false → Done (Err Irregular) T
  off_end h = refuses (indexable r b end) (built (length T) (log_to b end)) T (rw h)

  pub block_low : end ≤ 4 → Done (Err Irregular) T
  block_low h = off_end (no_end_low b end h)

  module _ (k : InBlock b end) (high : 4 < end) (w : Walked) (ew : w ≡ walked_of (front b end) 0) where
    pub block_off : w.taken.off ≢ end → Done (Err Irregular) T
    block_off h = off_end (no_end b end high (λ e. h (walked_end b end w ew ∙ e)))

    module _ (at : w.taken.off ≡ end) where
      is_end : log_end (log_to b end) ≡ end
      is_end = sym (walked_end b end w ew) ∙ at

      there : ends_at b end ≡ true
      there = an_end b end high is_end

      pub block_committed : CommittedTo (front b end) end
      block_committed = front_committed b end k there high is_end

      module _ (x : Bool) (ex : x ≡ Regular r (log (front b end))) where
        pub block_irregular : not x ≡ true → Done (Err Irregular) T
        block_irregular h = refuses (indexable r b end) (built (length T) (log_to b end)) T
            (not_indexable b end k there high is_end r x ex h)

        module _ (h : not x ≡ false) where
          pub block_buildable : Buildable (front b end) end
          block_buildable = front_buildable b end k there high is_end r x ex h

          pub block_built : (i : Result ℕ Refusal) (new : List ℕ) → i ≡ indexed_as (built (length T) (log (front b end)))
              → new ≡ table_as (length T) (built (length T) (log (front b end))) → Done i new
          block_built i new ei en =
              let e : built (length T) (log (front b end)) ≡ built (length T) (log_to b end) =
              ap (λ (l : List ℕ). built (length T) (log l)) (front_is b end) in
              accepts (indexable r b end) (built (length T) (log_to b end)) T
              (is_indexable b end k there high is_end r x ex h) i new (ei ∙ ap indexed_as e)
              (en ∙ ap (table_as (length T)) e)
