-- Document 02, L8: "A log that grows by one commit shall be able to extend the table, with the same table as building
-- afresh." A build reads what stands before the record's end, which a commit leaves as it is; so the table from before
-- a commit, extended to what fetch gives behind it, is the one that is built there. Assumes nothing.
use Rattle.std.specs.Prelude.{◌≡◌, refl, ◌⊎◌, Bool, true, not, ◌&&◌, ◌||◌, length, take, leb, Ok, Result}
use Rattle.std.proofs.Common.{sym, ◌∙◌, inl, inr, arith, take-take}
use Rattle.std.proofs.Math.Path.{ap}
use mathlib.Core.List.{List}
use Prim.Native.Nat.{ℕ, ◌≤◌}
use Rattle.format.specs.Commit.{Item}
use Rattle.format.specs.Pair.{pair_sync}
use Rattle.format.specs.Fetch.{too_high, pair_fits, fetch_of}
use Rattle.format.specs.Lookup.{record_fits, block_of}
use Rattle.format.specs.Refetch.{refetch_fits, walk_behind, mdir_behind, refetch_of, known_to}
use Rattle.format.specs.Regular.{rules_fit, rules_of}
use Rattle.format.specs.Writer.{Images, accepted, verdict_of, commit_images, unlimited}
use Rattle.format.specs.Index.{indexable, index_of, index_table, extend_of, extend_table}
use Rattle.format.specs.Machine.{Machine}
use Rattle.format.specs.Stopped.{Shows, ReadsAs, unmarked}
use Rattle.format.specs.declared.Geometry.{Geometry}
use Rattle.format.specs.declared.LfsMdir.{LfsMdir}
use Rattle.format.specs.declared.LfsPair.{LfsPair}
use Rattle.format.specs.declared.Entry.{Entry}
use Rattle.theory.specs.Walk.Step.{both_true}
use Rattle.theory.specs.Fetch.FoundRecord.{few_found, past_test}
use Rattle.theory.specs.Fetch.FoundBlock.{found_sized}
use Rattle.theory.proofs.Stopped.Shown.{found_tested}
use Rattle.theory.proofs.Stopped.Refetch.{commit_front}
use Rattle.promises.specs.Refetch.{refetch_behind_commit}
use Rattle.promises.specs.Stopped.{commit_stopped}
use Rattle.promises.specs.Index.{places_built, index_fetched, index_extends}
use Rattle.format.specs.declared.Fetched.{Fetched}
use Rattle.format.specs.declared.Refusal.{Refusal}
use Rattle.format.specs.Record.{fetched}
use Rattle.format.specs.Answer.{answer_mdir}

-- A build reads of both images their lengths, and of the record's block what stands before its end.
pub index_same : (g : Geometry) (a0 a1 b0 b1 : List ℕ) (n0 n1 : ℕ) (dir : LfsMdir) (rules : ℕ) (table : List ℕ)
    → length a0 ≡ length b0 → length a1 ≡ length b1
    → take dir.off (block_of a0 a1 n0 dir) ≡ take dir.off (block_of b0 b1 n0 dir)
    → (index_of g a0 a1 n0 n1 dir rules table ≡ index_of g b0 b1 n0 n1 dir rules table)
    × (index_table g a0 a1 n0 n1 dir rules table ≡ index_table g b0 b1 n0 n1 dir rules table)
unfolding index_of index_table
index_same g a0 a1 b0 b1 n0 n1 dir rules table l0 l1 same = rw (l0, l1, same) (refl, refl)

-- two answers of one fetch
one_record : {f : Result Fetched Refusal} (m k : LfsMdir) (s t : ℕ) → f ≡ Ok (fetched m s) → f ≡ Ok (fetched k t) → m ≡ k
one_record m k s t h q = ap answer_mdir (sym h ∙ q)

module _ (g : Geometry) (b0 b1 : List ℕ) (n0 n1 count seed rules e : ℕ) (entries : List Entry) (dat : List ℕ) (n : ℕ)
    (second : Bool) (is : List Item) (size : ℕ)
    (accepts : verdict_of g b0 b1 n0 n1 count seed rules e entries dat ≡ accepted second is size)
    (old dir : LfsMdir) (s t : ℕ) (before : fetch_of g b0 b1 n0 n1 count seed ≡ Ok (fetched old s)) where
  abbrev i : Images
  i = commit_images g b0 b1 n0 n1 count seed rules e entries dat n

  -- before the old record's end the block is as it was
  front : take old.off (block_of i.b0 i.b1 n0 old) ≡ take old.off (block_of b0 b1 n0 old)
  front =
      let k : ℕ = known_to old in
      sym (take-take old.off k (block_of i.b0 i.b1 n0 old) (omega arith))
      ∙ ap (take old.off) (commit_front g b0 b1 n0 n1 count seed rules e entries dat n old s before second is size
      accepts)
      ∙ take-take old.off k (block_of b0 b1 n0 old) (omega arith)

  module _ (behind : fetch_of g i.b0 i.b1 n0 n1 count seed ≡ Ok (fetched dir t)) where
    -- the new record goes on from the old one
    goes_on : (old.pair ≡ dir.pair) × (old.off ≤ dir.off)
    unfolding refetch_of mdir_behind
    goes_on =
        let b : List ℕ = block_of i.b0 i.b1 n0 old in
        let p = past_test (not (refetch_fits g (length i.b0) (length i.b1) n0 n1 old)) _ _ dir t
        (refetch_behind_commit g b0 b1 n0 n1 count seed rules e entries dat n old s (inl before) ∙ behind) in
        let q = past_test (too_high count n0 || too_high count n1) _ _ dir t p.1 in
        let m = few_found (mdir_behind g.prog_size b old (walk_behind b old)) dir _ t q.1 in
        (ap (λ (x : LfsMdir). x.pair) m, omega (arith, ap (λ (x : LfsMdir). x.off) m))

    -- it fits, and its log is regular up to a commit boundary
    abbrev Fit : Type 0
    Fit = (record_fits g (length i.b0) (length i.b1) n0 n1 dir ≡ true)
        × (indexable (rules_of rules) (block_of i.b0 i.b1 n0 dir) dir.off ≡ true)

    module _ (table : List ℕ) (k : ℕ) (made : index_of g b0 b1 n0 n1 old rules table ≡ Ok k) where
      -- stopped early, the pair reads as before, and the record ends where the old one did
      as_before : ReadsAs g n0 n1 b0 b1 i.b0 i.b1 → Fit
      unfolding record_fits
      as_before r =
          let low = (found_tested g b0 b1 n0 n1 count seed old s before).low in
          let now = found_tested g i.b0 i.b1 n0 n1 count seed dir t behind in
          let u = places_built g b0 b1 n0 n1 old rules table k made in
          let m : r.before ≡ old = one_record r.before old (r.read seed) s (r.fetched count seed low) before in
          let o : r.after ≡ dir = one_record r.after dir (r.read seed) t (r.refetched count seed low) behind in
          let same : unmarked dir ≡ unmarked old = rw (m, o) at r.same in
          let end : dir.off ≡ old.off = ap (λ (x : LfsMdir). x.off) same in
          let pair : dir.pair ≡ old.pair = ap (λ (x : LfsMdir). x.pair) same in
          let fits = (both_true (record_fits g (length b0) (length b1) n0 n1 old) (rules_fit rules) u.fits).0 in
          let inside = (both_true (pair_fits g (length b0) (length b1) n0 n1
          && pair_sync old.pair (record { n0 = n0; n1 = n1 })) (leb old.off g.block_size) fits).1 in
          (rw (now.fits, now.pair, end) inside, rw (end, pair, front) u.regular)

      -- finished, its log is regular by the rule
      fit : Fit
      fit =
          let at = commit_stopped g b0 b1 n0 n1 count seed rules e entries dat n second is size accepts in
          go at.either at.finished
        where
          f : Images
          f = commit_images g b0 b1 n0 n1 count seed rules e entries dat unlimited

          go : {N : Machine} → ((i.b0 ≡ f.b0) × (i.b1 ≡ f.b1)) ⊎ ReadsAs g n0 n1 b0 b1 i.b0 i.b1
              → Shows g n0 n1 (rules_of rules) f.b0 f.b1 N → Fit
          go (inr r) there = as_before r
          go (inl all) there =
              let low = (found_tested g b0 b1 n0 n1 count seed old s before).low in
              let q : fetch_of g i.b0 i.b1 n0 n1 count seed ≡ Ok (fetched there.dir (there.read seed)) =
              rw (all.0, all.1) (there.fetched count seed low) in
              let m : there.dir ≡ dir = one_record there.dir dir (there.read seed) t q behind in
              let r = index_fetched g i.b0 i.b1 n0 n1 count seed rules dir t behind
              (rw (all.0, all.1, ← m) there.regular) in
              (r.0, r.1)

      grown : (extend_of g i.b0 i.b1 n0 n1 old dir rules (index_table g b0 b1 n0 n1 old rules table)
          ≡ index_of g i.b0 i.b1 n0 n1 dir rules table)
          × (extend_table g i.b0 i.b1 n0 n1 old dir rules (index_table g b0 b1 n0 n1 old rules table)
          ≡ index_table g i.b0 i.b1 n0 n1 dir rules table)
      grown =
          let u = places_built g b0 b1 n0 n1 old rules table k made in
          let ruled = (both_true (record_fits g (length b0) (length b1) n0 n1 old) (rules_fit rules) u.fits).1 in
          let x = found_sized g b0 b1 n0 n1 count seed old s before in
          let y = found_sized g i.b0 i.b1 n0 n1 count seed dir t behind in
          let same = index_same g i.b0 i.b1 b0 b1 n0 n1 old rules table (y.first ∙ sym x.first)
          (y.second ∙ sym x.second) front in
          rw (← same.1) (index_extends g i.b0 i.b1 n0 n1 old dir rules table k (same.0 ∙ made)
          (ap (λ (p : LfsPair). p.n0) goes_on.0) goes_on.1 (rw (fit.0, ruled) refl) fit.1)

-- BEHIND A COMMIT, an accepted one, after any number n of its stores, all of them or none. A build by the same rule
-- left a table for the record from before. Extended to the record that fetch gives now, it is the table of a build for
-- that record, with the same answer, -221 too.
pub index_behind_commit : (g : Geometry) (b0 b1 : List ℕ) (n0 n1 count seed rules e : ℕ) (entries : List Entry)
    (dat : List ℕ) (n : ℕ) (second : Bool) (is : List Item) (size : ℕ) (old dir : LfsMdir) (s t : ℕ)
    (table : List ℕ) (k : ℕ)
    → verdict_of g b0 b1 n0 n1 count seed rules e entries dat ≡ accepted second is size
    → fetch_of g b0 b1 n0 n1 count seed ≡ Ok (fetched old s)
    → index_of g b0 b1 n0 n1 old rules table ≡ Ok k
    → (let i : Images = commit_images g b0 b1 n0 n1 count seed rules e entries dat n in
    fetch_of g i.b0 i.b1 n0 n1 count seed ≡ Ok (fetched dir t)
    → (extend_of g i.b0 i.b1 n0 n1 old dir rules (index_table g b0 b1 n0 n1 old rules table)
    ≡ index_of g i.b0 i.b1 n0 n1 dir rules table)
    × (extend_table g i.b0 i.b1 n0 n1 old dir rules (index_table g b0 b1 n0 n1 old rules table)
    ≡ index_table g i.b0 i.b1 n0 n1 dir rules table))
index_behind_commit g b0 b1 n0 n1 count seed rules e entries dat n second is size old dir s t table k accepts before
    made behind =
    grown g b0 b1 n0 n1 count seed rules e entries dat n second is size accepts old dir s t before behind table k made
