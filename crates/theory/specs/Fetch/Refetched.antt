-- DOCUMENT 02, L6: behind a record that a fetch gave, a refetch is a fetch, as long as what was read of the block and
-- the other block are unchanged. Assumes nothing.
use Rattle.std.proofs.Math.Path.{◌≡◌, refl, sym, ap}
use Rattle.std.proofs.Common.{subst, ◌∙◌, inl, inr, arith, add_assoc, length-append, take-append-drop, length-take-le}
use Rattle.std.specs.Prelude.{◌≢◌, not, cond, ◌&&◌, ◌||◌, ℕ, ◌+◌, ◌%◌, ◌≤◌, drop, leb, ltb, Err, Ok, Result}
use Rattle.std.proofs.Math.Bool.{Bool, true, false}
use mathlib.Core.List.{List, [], ◌++◌}
use Rattle.std.proofs.Math.ListN.{length, take}
use Rattle.std.proofs.Math.Dec.{eqb}
use borrow.Author.Tests.{eq-eqb, ne_eqb, eqb-false, le-leb, not-false}
use Rattle.format.specs.Word.{le32, all_ones}
use Rattle.format.specs.Kind.{is_check}
use Rattle.format.specs.Walk.{Event, walk_from, walk}
use Rattle.format.specs.Log.{committed, log, span, log_end, log_end_tag, stopped_straight}
use Rattle.format.specs.Record.{no_tail, no_forward, forward_of, seed_of}
use Rattle.format.specs.View.{View, none, at, view}
use Rattle.format.specs.Pair.{pair_sync}
use Rattle.format.specs.Fetch.{pair_fits, too_high, forward_fits, erased_of, mdir_of, few_enough, viewed, fetch_of}
use Rattle.format.specs.Lookup.{record_fits, block_of}
use Rattle.format.specs.Refetch.{held_forward, mdir_behind, continued, refetch_of, known_to, Gave}
use Rattle.format.specs.declared.Geometry.{Geometry}
use Rattle.format.specs.declared.LfsFcrc.{LfsFcrc}
use Rattle.format.specs.declared.LfsMdir.{LfsMdir}
use Rattle.format.specs.declared.Refusal.{Refusal}
use Rattle.format.specs.declared.Refusal.TheVariants.{Invalid, Corrupt, TooMany}
use Rattle.theory.specs.Walk.Locality.{le32_front}
use Rattle.theory.specs.Log.Folds.{span_app, tag_app, count_app, tail_of_app, split_of_app, forward_app, seed_app}
use Rattle.theory.specs.Log.Folds.{forward_or_none}
use Rattle.theory.specs.Log.Continued.{log_read, log_whole, some_long, log_read_within, log_straight}
use Rattle.theory.specs.Log.Continued.{walk_continues}
use Rattle.theory.specs.Log.Continued.{log_continues}
use Rattle.theory.specs.Log.TwoBlocks.{view_at, view_log, view_grow, app_some}
use Rattle.theory.specs.Fetch.FoundBlock.{Sized, pair_sized}
use Rattle.format.specs.declared.Fetched.{Fetched}
use Rattle.format.specs.Record.{fetched}
use Rattle.format.specs.Answer.{answer_mdir, answer_seed}

-- ---- what a fetch gave
few_gave : (k m : LfsMdir) (t s : ℕ) → Gave (few_enough k t) m s → (k ≡ m) × (t ≡ s)
few_gave k m t s h = go (ltb 1_023 k.count) h
  where
    go : (b : Bool) → Gave (cond b (Err (TooMany (fetched k t))) (Ok (fetched k t))) m s → (k ≡ m) × (t ≡ s)
    go true (inl e) = (cc, cc)
    go true (inr e) = (ap answer_mdir e, ap (answer_seed 0) e)
    go false (inl e) = (ap answer_mdir e, ap (answer_seed 0) e)
    go false (inr e) = (cc, cc)

-- a test that did not refuse
gave_past : (b : Bool) (r : Refusal) (f : Result Fetched Refusal) (m : LfsMdir) (s : ℕ) → (r ≡ TooMany (fetched m s) → ⊥)
    → Gave (cond b (Err r) f) m s → (b ≡ false) × Gave f m s
gave_past true r f m s n (inl e) = absurd (let z : ◌≡◌ {A = ℕ} 0 1 = cc in omega arith)
gave_past true r f m s n (inr e) = absurd (n (cc))
gave_past false r f m s n h = (refl, h)

-- ---- one block: x is read first, and y stands there now
module _ (x y : List ℕ) (four : 4 ≤ length x) (some : log x ≢ [])
    (same : take (log_read (log x)) y ≡ take (log_read (log x)) x) where
  abbrev es : List Event
  es = log x

  abbrev known : ℕ
  known = log_read (log x)

  -- the walk over y from the end of x's log
  abbrev on : List Event
  on = walk_from all_ones (log_end_tag (log x)) (drop (log_end (log x)) y)

  abbrev pre : List ℕ
  pre = take (log_read (log x)) x

  within : log_read (log x) ≤ length x
  within = log_read_within x four some

  pre_long : length (take (log_read (log x)) x) ≡ log_read (log x)
  pre_long = length-take-le known x within

  y_is : take (log_read (log x)) x ++ drop (log_read (log x)) y ≡ y
  y_is = ap (λ (l : List ℕ). l ++ drop known y) (sym same) ∙ take-append-drop known y

  x_is : take (log_read (log x)) x ++ drop (log_read (log x)) x ≡ x
  x_is = take-append-drop known x

  pub within_now : log_read (log x) ≤ length y
  within_now = omega (arith, pre_long, ap length y_is, length-append (take known x) (drop known y))

  pub walk_on : walk y ≡ log x ++ on
  walk_on = rw y_is at (walk_continues pre (drop known x) es (ap log x_is) some (omega (arith, pre_long))
      (drop known y))

  pub log_on : log y ≡ log x ++ committed on
  log_on = rw y_is at (log_continues pre (drop known x) es (ap log x_is) some (omega (arith, pre_long)) (drop known y))

  pub rev_same : le32 x ≡ le32 y
  rev_same = ap le32 (sym x_is) ∙ le32_front pre (drop known x) (drop known y) (omega (arith, pre_long)) ∙ ap le32 y_is

  pub seed_same : (seed : ℕ) → seed_of (seed_of seed (log x)) (committed on) ≡ seed_of seed (log y)
  seed_same seed = sym (ap (seed_of seed) log_on ∙ seed_app es (committed on) seed)

  -- the record of y is x's, gone on
  module _ (prog prog' n k v : ℕ) where
    abbrev old : LfsMdir
    old = mdir_of prog n k x v (log x)

    forward_same : forward_of no_forward (log x ++ committed on) ≡ forward_of (held_forward old) (committed on)
    unfolding mdir_of
    forward_same = forward_app es (committed on) no_forward
        ∙ ap (λ (f : LfsFcrc). forward_of f (committed on)) (sym (forward_or_none es no_forward refl))

    end_same : log_end (log x ++ committed on) ≡ old.off + span (committed on)
    unfolding mdir_of
    end_same = ap (λ (j : ℕ). 4 + j) (span_app es (committed on)) ∙ sym (add_assoc 4 (span es) (span (committed on)))

    straight_same : stopped_straight false (walk y) ≡ stopped_straight (is_check old.etag) on
    unfolding mdir_of
    straight_same = ap (stopped_straight false) walk_on ∙ log_straight x on

    parts_same : mdir_of prog' n k y v (log x ++ committed on) ≡ mdir_behind prog' y old on
    unfolding mdir_of mdir_behind erased_of
    parts_same = λ i. record {
      pair = record { n0 = n; n1 = k };
      rev = v;
      off = end_same i;
      etag = tag_app es (committed on) all_ones i;
      count = count_app es (committed on) 0 i;
      erased = straight_same i && eqb (end_same i % prog') 0 && forward_fits y (end_same i) (forward_same i);
      split = split_of_app es (committed on) false i;
      tail = tail_of_app es (committed on) no_tail i;
      fcrc = forward_same i;
    }

    pub record_same : mdir_behind prog' y old on ≡ mdir_of prog' n k y v (log y)
    record_same = sym (ap (mdir_of prog' n k y v) log_on ∙ parts_same)

-- ---- two blocks: x answered at place w, o is the other, and y stands in x's place now
module _ (w : Bool) (x y o : List ℕ) (four : 4 ≤ length x) (v : ℕ) (h : view_at w x o ≡ at w v (log x))
    (same : take (log_read (log x)) y ≡ take (log_read (log x)) x) where
  some : log x ≢ []
  some = (view_log w x o v (log x) h).1

  pub view_on : view_at w y o ≡ at w v (log y)
  view_on = view_grow w x y o v (log x) h (rev_same x y four some same)
      (rw (log_on x y four some same) (app_some (log x) (committed (on x y four some same)) some))

  pub answer_on : (prog prog' n k seed : ℕ)
      → continued prog' y (seed_of seed (log x)) (mdir_of prog n k x v (log x))
      ≡ few_enough (mdir_of prog' n k y v (log y)) (seed_of seed (log y))
  unfolding mdir_of
  answer_on prog prog' n k seed = λ i. few_enough (record_same x y four some same prog prog' n k v i)
      (seed_same x y four some same seed i)

-- ---- both calls, on the images b0 and b1
module _ (g : Geometry) (b0 b1 : List ℕ) (n0 n1 count seed : ℕ) (m : LfsMdir) (s : ℕ) where
  -- the record passes refetch's tests, and behind them both calls answer alike
  record Agree : Type 0 where
    sync : pair_sync m.pair (record { n0 = n0; n1 = n1 }) ≡ true
    ends : m.off ≤ g.block_size
    some : 8 ≤ m.off
    same : continued g.prog_size (block_of b0 b1 n0 m) s m
        ≡ viewed g.prog_size n0 n1 b0 b1 seed (view b0 b1)

  alike : (pair_fits g (length b0) (length b1) n0 n1 ≡ true → Agree)
      → refetch_of g b0 b1 n0 n1 count s m ≡ fetch_of g b0 b1 n0 n1 count seed
  unfolding refetch_of record_fits fetch_of
  alike h = go (pair_fits g (length b0) (length b1) n0 n1) h
    where
      T : Bool
      T = too_high count n0 || too_high count n1

      go : (q : Bool) → (q ≡ true → Agree)
          → cond (not (q && pair_sync m.pair (record { n0 = n0; n1 = n1 }) && leb m.off g.block_size
          && leb 8 m.off)) (Err Invalid)
          (cond T (Err Corrupt) (continued g.prog_size (block_of b0 b1 n0 m) s m))
          ≡ cond (not q) (Err Invalid)
          (cond T (Err Corrupt) (viewed g.prog_size n0 n1 b0 b1 seed (view b0 b1)))
      go false h = refl
      go true h = let a = h refl in rw (
        a.sync,
        le-leb m.off g.block_size a.ends,
        le-leb 8 m.off a.some,
        a.same,
      )

-- THE REFETCH: m and s are what a fetch of a0 and a1 gave
module _ (g g' : Geometry) (a0 a1 b0 b1 : List ℕ) (n0 n1 count count' seed : ℕ) where
  abbrev Refetches : LfsMdir → ℕ → Type 0
  Refetches m s = take (known_to m) (block_of b0 b1 n0 m) ≡ take (known_to m) (block_of a0 a1 n0 m)
      → block_of b1 b0 n0 m ≡ block_of a1 a0 n0 m
      → refetch_of g' b0 b1 n0 n1 count' s m ≡ fetch_of g' b0 b1 n0 n1 count' seed

  module _ (fits : pair_fits g (length a0) (length a1) n0 n1 ≡ true) (prog : ℕ) where
    sizes : Sized g a0 a1
    sizes = (pair_sized g a0 a1 n0 n1 fits).0

    first_again : (rev : ℕ) → view a0 a1 ≡ at false rev (log a0)
        → Refetches (mdir_of prog n0 n1 a0 rev (log a0)) (seed_of seed (log a0))
    unfolding mdir_of
    first_again rev h known other =
        let here : eqb n0 n0 ≡ true = eq-eqb n0 n0 refl in
        let four : 4 ≤ length a0 = omega (arith, sizes.first, sizes.block.0) in
        let same : take (log_read (log a0)) b0 ≡ take (log_read (log a0)) a0 = rw here at known in
        let rest : b1 ≡ a1 = rw here at other in
        let some = (view_log false a0 a1 rev (log a0) h).1 in
        alike g' b0 b1 n0 n1 count' seed (mdir_of prog n0 n1 a0 rev (log a0)) (seed_of seed (log a0)) (λ ok. record {
          sync = rw (here, eq-eqb n1 n1 refl);
          ends = omega (arith, (pair_sized g' b0 b1 n0 n1 ok).0.first, within_now a0 b0 four some same);
          some = omega (arith, some_long (log a0) (log_whole a0) some);
          same = rw here (answer_on false a0 b0 a1 four rev h same prog g'.prog_size n0 n1 seed
              ∙ ap (viewed g'.prog_size n0 n1 b0 b1 seed) (sym (ap (view b0) rest
              ∙ view_on false a0 b0 a1 four rev h same)));
        })

    second_again : (rev : ℕ) → view a0 a1 ≡ at true rev (log a1)
        → Refetches (mdir_of prog n1 n0 a1 rev (log a1)) (seed_of seed (log a1))
    unfolding mdir_of
    second_again rev h known other =
        let gone : eqb n1 n0 ≡ false =
        ne_eqb n1 n0 (λ e. eqb-false n0 n1 (pair_sized g a0 a1 n0 n1 fits).1 (sym e)) in
        let four : 4 ≤ length a1 = omega (arith, sizes.second, sizes.block.0) in
        let same : take (log_read (log a1)) b1 ≡ take (log_read (log a1)) a1 = rw gone at known in
        let rest : b0 ≡ a0 = rw gone at other in
        let some = (view_log true a1 a0 rev (log a1) h).1 in
        alike g' b0 b1 n0 n1 count' seed (mdir_of prog n1 n0 a1 rev (log a1)) (seed_of seed (log a1)) (λ ok. record {
          sync = rw (gone, eq-eqb n1 n1 refl, eq-eqb n0 n0 refl);
          ends = omega (arith, (pair_sized g' b0 b1 n0 n1 ok).0.second, within_now a1 b1 four some same);
          some = omega (arith, some_long (log a1) (log_whole a1) some);
          same = rw gone (answer_on true a1 b1 a0 four rev h same prog g'.prog_size n1 n0 seed
              ∙ ap (viewed g'.prog_size n0 n1 b0 b1 seed) (sym (ap (λ (l : List ℕ). view l b1) rest
              ∙ view_on true a1 b1 a0 four rev h same)));
        })

    viewed_again : (m : LfsMdir) (s : ℕ) (v : View) → view a0 a1 ≡ v → Gave (viewed prog n0 n1 a0 a1 seed v) m s
        → Refetches m s
    viewed_again m s none h (inl e) = absurd (let z : ◌≡◌ {A = ℕ} 0 1 = cc in omega arith)
    viewed_again m s none h (inr e) = absurd (let z : ◌≡◌ {A = ℕ} 0 1 = cc in omega arith)
    viewed_again m s (at false r es) h f =
        let e = few_gave (mdir_of prog n0 n1 a0 r es) m (seed_of seed es) s f in
        let l : log a0 ≡ es = (view_log false a0 a1 r es h).0 in
        subst (λ (d : LfsMdir). Refetches d s) e.0 (subst (Refetches (mdir_of prog n0 n1 a0 r es)) e.1
        (rw l at (first_again r (rw l h))))
    viewed_again m s (at true r es) h f =
        let e = few_gave (mdir_of prog n1 n0 a1 r es) m (seed_of seed es) s f in
        let l : log a1 ≡ es = (view_log true a1 a0 r es h).0 in
        subst (λ (d : LfsMdir). Refetches d s) e.0 (subst (Refetches (mdir_of prog n1 n0 a1 r es)) e.1
        (rw l at (second_again r (rw l h))))

  pub refetched : (m : LfsMdir) (s : ℕ) → Gave (fetch_of g a0 a1 n0 n1 count seed) m s → Refetches m s
  unfolding fetch_of
  refetched m s gave =
      let p = gave_past (not (pair_fits g (length a0) (length a1) n0 n1)) Invalid _ m s
      (λ e. let z : ◌≡◌ {A = ℕ} 0 1 = cc in omega arith) gave in
      let q = gave_past (too_high count n0 || too_high count n1) Corrupt _ m s
      (λ e. let z : ◌≡◌ {A = ℕ} 0 1 = cc in omega arith) p.1 in
      viewed_again (not-false _ p.0) g.prog_size m s (view a0 a1) refl q.1
