-- The laws that the answers cite. Assumes nothing.
use mathlib.Core.Path.{◌≡◌, refl, sym, ap, ◌∙◌, subst}
use mathlib.Core.Bool.{Bool, true, false, not, cond}
use mathlib.Core.List.{List}
use mathlib.Core.Logic.{inl}
use Prim.Native.Nat.{ℕ, ◌-◌, ◌≤◌}
use lib.ListN.{length}
use Rattle.std.specs.Prelude.{Err, Ok, Result}
use Rattle.format.specs.Fetch.{images_fit, fetch_of}
use Rattle.format.specs.Refetch.{refetch_of}
use Rattle.format.specs.Lookup.{block_of}
use Rattle.format.specs.Regular.{rules_of}
use Rattle.format.specs.Writer.{Verdict, answer_of, verdict_of, unlimited, commit_images, commit_of, commit_stores_of}
use Rattle.format.specs.Writer.{commit_fits}
use Rattle.format.specs.Stopped.{CommitStopped, CommitLeaves, CommitStoresLeaves}
use Rattle.format.specs.declared.Geometry.{Geometry}
use Rattle.format.specs.declared.LfsMdir.{LfsMdir}
use Rattle.format.specs.declared.Entry.{Entry}
use Rattle.format.specs.declared.Fetched.{Fetched}
use Rattle.format.specs.declared.Refusal.{Refusal}
use Rattle.format.specs.declared.Refusal.TheVariants.{Invalid}
use Rattle.sizes.proofs.Sized.{Sized, images_sized}
use Rattle.theory.specs.Commit.AcceptedVerdict.{fits_images}
use Rattle.theory.proofs.Stopped.Commit.{stopped_commit}
use Rattle.theory.proofs.Stopped.Refetch.{refetch_behind}
use Rattle.commit_steps.specs.Steps.{and_then, started_of, begun_of, decided_of, placed_of}
use Rattle.commit_steps.proofs.Bounds.{block_bound}
use Rattle.commit_steps.specs.declared.Judging.{Judging}
use Rattle.commit_steps.specs.declared.Laying.{Laying}
use Rattle.commit.specs.Passes.{Left, left, ran_of}
use Rattle.commit.proofs.Whole.{Ran, ran_images, ran_answers, ran_made, ran}

-- ---- a commit that is begun has tested the sizes: they are no refusal between the passes, and what `place` asks holds
module _ (g : Geometry) (b0 b1 : List ℕ) (n0 n1 count seed rules byte n : ℕ) (dat : List ℕ) (j : Judging)
    (begun : begun_of g b0 b1 n0 n1 count seed rules byte n dat ≡ Ok j) where
  begun_fits : images_fit g (length b0) (length b1) ≡ true
  unfolding begun_of
  begun_fits = go (commit_fits g (length b0) (length b1) n0 n1 rules byte n (length dat)) refl begun
    where
      go : (x : Bool) → commit_fits g (length b0) (length b1) n0 n1 rules byte n (length dat) ≡ x
          → cond (not x) (Err Invalid)
          (and_then (fetch_of g b0 b1 n0 n1 count seed)
          (λ f. started_of (rules_of rules) (block_of b0 b1 n0 f.dir) f)) ≡ Ok j
          → images_fit g (length b0) (length b1) ≡ true
      go false e h = cc
      go true e h = fits_images g (length b0) (length b1) n0 n1 rules byte n (length dat) e

  pub begun_sized : Sized g (length b0) (length b1)
  begun_sized = images_sized g (length b0) (length b1) begun_fits

  -- b is the block of a record
  pub block_long : (m : LfsMdir) (b : List ℕ) → b ≡ block_of b0 b1 n0 m → length b ≤ 32_768
  block_long m = block_bound g b0 b1 n0 m begun_fits

  pub begun_decides : (k : Judging) (stores : ℕ)
      → decided_of g b0 b1 n0 n1 byte k stores ≡ placed_of byte k g.prog_size (block_of b0 b1 n0 k.old.dir) stores
  unfolding decided_of
  begun_decides k stores = rw begun_fits

-- ---- the answers: t, x and y are what `run` answers and leaves
module _ (g : Geometry) (b0 b1 : List ℕ) (n0 n1 count seed rules byte : ℕ) (es : List Entry) (dat : List ℕ) where
  abbrev v : Verdict
  v = verdict_of g b0 b1 n0 n1 count seed rules byte es dat

  abbrev F : Result Fetched Refusal
  F = fetch_of g b0 b1 n0 n1 count seed

  module _ (t : Result Laying Refusal) (x y : List ℕ) where
    module _ (said : left t x y ≡ ran_of g b0 b1 n0 n1 count seed rules byte es dat unlimited) where
      committed : (r : Result Fetched Refusal)
          → r ≡ and_then t (λ l. refetch_of g x y n0 n1 count l.old.seed l.old.dir)
          → (r ≡ commit_of g b0 b1 n0 n1 count seed rules byte es dat)
          × CommitLeaves g b0 b1 n0 n1 count seed rules byte es dat x y
      unfolding commit_of commit_images
      committed r e =
          let h : Ran byte F b0 b1 unlimited v (left t x y) =
          subst (λ (u : Left). Ran byte F b0 b1 unlimited v u) (sym said)
          (ran g b0 b1 n0 n1 count seed rules byte es dat unlimited) in
          let i = ran_images byte F b0 b1 unlimited v (left t x y) h in
          let ex : x ≡ (commit_images g b0 b1 n0 n1 count seed rules byte es dat unlimited).b0 = i.0 in
          let ey : y ≡ (commit_images g b0 b1 n0 n1 count seed rules byte es dat unlimited).b1 = i.1 in
          let again : (l : Laying) → F ≡ Ok l.old
          → refetch_of g x y n0 n1 count l.old.seed l.old.dir ≡ fetch_of g x y n0 n1 count seed =
          λ l f. rw (ex, ey) (refetch_behind g b0 b1 n0 n1 count seed rules byte es dat unlimited
          l.old.dir l.old.seed (inl f)) in
          let answers : r ≡ commit_of g b0 b1 n0 n1 count seed rules byte es dat =
          e ∙ ran_answers byte F b0 b1 unlimited v (left t x y) h
          (λ l. refetch_of g x y n0 n1 count l.old.seed l.old.dir) (fetch_of g x y n0 n1 count seed) again
          ∙ (λ k. answer_of (fetch_of g (ex k) (ey k) n0 n1 count seed) v) in
          (answers, (ex, ey, stopped_commit g b0 b1 n0 n1 count seed rules byte es dat))

      pub commit_refused : (r : Refusal) (a : Result Fetched Refusal) → t ≡ Err r → a ≡ Err r
          → (a ≡ commit_of g b0 b1 n0 n1 count seed rules byte es dat)
          × CommitLeaves g b0 b1 n0 n1 count seed rules byte es dat x y
      commit_refused r a h e = committed a (e ∙ ap (λ (u : Result Laying Refusal).
          and_then u (λ l. refetch_of g x y n0 n1 count l.old.seed l.old.dir)) (sym h))

      pub commit_done : (l : Laying) (a : Result Fetched Refusal) → t ≡ Ok l
          → a ≡ refetch_of g x y n0 n1 count l.old.seed l.old.dir
          → (a ≡ commit_of g b0 b1 n0 n1 count seed rules byte es dat)
          × CommitLeaves g b0 b1 n0 n1 count seed rules byte es dat x y
      commit_done l a h e = committed a (e ∙ ap (λ (u : Result Laying Refusal).
          and_then u (λ k. refetch_of g x y n0 n1 count k.old.seed k.old.dir)) (sym h))

    module _ (n : ℕ) (said : left t x y ≡ ran_of g b0 b1 n0 n1 count seed rules byte es dat n) where
      stored : (r : Result ℕ Refusal) → r ≡ and_then t (λ l. Ok (n - l.run.left))
          → (r ≡ commit_stores_of g b0 b1 n0 n1 count seed rules byte es dat n)
          × CommitStoresLeaves g b0 b1 n0 n1 count seed rules byte es dat n x y
      unfolding commit_stores_of commit_images
      stored r e =
          let h : Ran byte F b0 b1 n v (left t x y) =
          subst (λ (u : Left). Ran byte F b0 b1 n v u) (sym said)
          (ran g b0 b1 n0 n1 count seed rules byte es dat n) in
          let i = ran_images byte F b0 b1 n v (left t x y) h in
          let ex : x ≡ (commit_images g b0 b1 n0 n1 count seed rules byte es dat n).b0 = i.0 in
          let ey : y ≡ (commit_images g b0 b1 n0 n1 count seed rules byte es dat n).b1 = i.1 in
          let demand : CommitStopped g b0 b1 n0 n1 count seed rules byte es dat x y =
          rw (ex, ey) (stopped_commit g b0 b1 n0 n1 count seed rules byte es dat n) in
          (e ∙ ran_made byte F b0 b1 n v (left t x y) h, (ex, ey, demand))

      pub stores_refused : (r : Refusal) (a : Result ℕ Refusal) → t ≡ Err r → a ≡ Err r
          → (a ≡ commit_stores_of g b0 b1 n0 n1 count seed rules byte es dat n)
          × CommitStoresLeaves g b0 b1 n0 n1 count seed rules byte es dat n x y
      stores_refused r a h e =
          stored a (e ∙ ap (λ (u : Result Laying Refusal). and_then u (λ l. Ok (n - l.run.left))) (sym h))

      pub stores_made : (l : Laying) (k : ℕ) → t ≡ Ok l → k ≡ n - l.run.left
          → (◌≡◌ {A = Result ℕ Refusal} (Ok k) (commit_stores_of g b0 b1 n0 n1 count seed rules byte es dat n))
          × CommitStoresLeaves g b0 b1 n0 n1 count seed rules byte es dat n x y
      stores_made l k h e =
          stored (Ok k) (ap Ok e ∙ ap (λ (u : Result Laying Refusal). and_then u (λ l. Ok (n - l.run.left))) (sym h))
