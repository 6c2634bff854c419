-- Images whose view is the old one, and whose answering block is the old one up to the end of its log, read as the old
-- images did. Assumes nothing.
use Rattle.std.specs.Prelude.{◌≡◌, Bool, cond, ◌&&◌, List, ℕ, ◌≤◌, length, take, ltb, Err, Ok}
use Rattle.std.proofs.Math.Path.{refl, ap}
use Rattle.std.proofs.Common.{sym, ◌∙◌, le_refl}
use Rattle.std.proofs.Math.Bool.{true, false, not}
use Rattle.std.proofs.Math.Dec.{eqb}
use borrow.Author.Tests.{eq-eqb, ne_eqb, eqb-false, not-true, le-ltb}
use Rattle.format.specs.Walk.{Event}
use Rattle.format.specs.Log.{log_end, log_end_tag}
use Rattle.format.specs.Record.{count_of, seed_of}
use Rattle.format.specs.View.{at, view}
use Rattle.format.specs.Fetch.{geometry_fits, pair_fits, mdir_of, few_enough, viewed, fetch_of}
use Rattle.format.specs.Lookup.{record_fits, searched, slice_answer, slice_buffer, getslice_fits, getslice_of}
use Rattle.format.specs.Lookup.{getslice_buffer}
use Rattle.format.specs.Writer.{block_at, is_second}
use Rattle.format.specs.declared.Geometry.{Geometry}
use Rattle.format.specs.declared.LfsMdir.{LfsMdir}
use Rattle.format.specs.declared.LfsGstate.{LfsGstate}
use Rattle.format.specs.declared.Refusal.TheVariants.{TooMany}
use Rattle.theory.specs.Walk.Step.{both_true}
use Rattle.theory.specs.Log.TwoBlocks.{view_at}
use Rattle.format.specs.Look.{HitIn}
use Rattle.theory.specs.Lookup.AtStart.{searched_in, back_same, slice_same}
use Rattle.theory.proofs.Stopped.Shown.{found_tested, fetch_viewed}
use Rattle.format.specs.Stopped.{unmarked, Finds, ReadsAs}
use Rattle.format.specs.Record.{fetched}

-- ---- n is the answering block's number, k the other's; x stood in it, and y stands in it now
module _ (prog n k v : ℕ) (es : List Event) (x y : List ℕ) (same : take (log_end es) y ≡ take (log_end es) x)
    (long : length y ≡ length x) where
  searched_same : (gdisk : LfsGstate) (mask key : ℕ) → searched y (mdir_of prog n k y v es) gdisk mask key
      ≡ searched x (mdir_of prog n k x v es) gdisk mask key
  unfolding searched mdir_of
  searched_same gdisk mask key = rw (back_same (log_end es) y x same (log_end es) (log_end_tag es) (le_refl (log_end es)))

  inside : (gdisk : LfsGstate) (mask key : ℕ) → HitIn (log_end es) (searched x (mdir_of prog n k x v es) gdisk mask key)
  unfolding mdir_of
  inside gdisk mask key = searched_in (log_end es) x (mdir_of prog n k x v es) gdisk mask key (le_refl (log_end es))

  sliced_same : (gdisk : LfsGstate) (mask key : ℕ) (buffer : List ℕ)
      → (slice_answer y 0 (length buffer) (searched y (mdir_of prog n k y v es) gdisk mask key)
      ≡ slice_answer x 0 (length buffer) (searched x (mdir_of prog n k x v es) gdisk mask key))
      × (slice_buffer y 0 buffer (searched y (mdir_of prog n k y v es) gdisk mask key)
      ≡ slice_buffer x 0 buffer (searched x (mdir_of prog n k x v es) gdisk mask key))
  sliced_same gdisk mask key buffer =
      rw (searched_same gdisk mask key)
      (slice_same (log_end es) y x same buffer (searched x (mdir_of prog n k x v es) gdisk mask key)
      (inside gdisk mask key) long)

-- ---- fetch on two blocks whose view is known: w tells which answers
abbrev number_at : Bool → ℕ → ℕ → ℕ
number_at w n0 n1 = cond w n1 n0

-- two images of the right sizes and numbers, with a view of few slots, are found: from every seed, for every block
-- count
module _ (g : Geometry) (n0 n1 : ℕ) (i0 i1 : List ℕ) (fits : pair_fits g (length i0) (length i1) n0 n1 ≡ true) (v : ℕ)
    (es : List Event) (few : ltb 1_023 (count_of 0 es) ≡ false) where
  abbrev record_at : Bool → LfsMdir
  record_at w = mdir_of g.prog_size (number_at w n0 n1) (number_at w n1 n0) (block_at w i0 i1) v es

  few_finds : (w : Bool) (t : ℕ) → few_enough (record_at w) t ≡ Ok (fetched (record_at w) t)
  unfolding mdir_of
  few_finds w t = rw few

  pub finds_view : (w : Bool) → view_at w (block_at w i0 i1) (block_at (not w) i0 i1) ≡ at w v es
      → Finds g n0 n1 i0 i1 (record_at w) (λ seed. seed_of seed es)
  finds_view false h count seed low =
      fetch_viewed g i0 i1 n0 n1 count seed fits low ∙ ap (viewed g.prog_size n0 n1 i0 i1 seed) h
      ∙ few_finds false (seed_of seed es)
  finds_view true h count seed low =
      fetch_viewed g i0 i1 n0 n1 count seed fits low ∙ ap (viewed g.prog_size n0 n1 i0 i1 seed) h
      ∙ few_finds true (seed_of seed es)

-- ---- a pair that was found, and images of the same lengths
few_counted : (k m : LfsMdir) (t s : ℕ) → few_enough k t ≡ Ok (fetched m s) → ltb 1_023 k.count ≡ false
few_counted k m t s h = go (ltb 1_023 k.count) h
  where
    go : (b : Bool) → cond b (Err (TooMany (fetched k t))) (Ok (fetched k t)) ≡ Ok (fetched m s) → b ≡ false
    go true h = cc
    go false h = refl

module _ (g : Geometry) (n0 n1 count seed : ℕ) (b0 b1 i0 i1 : List ℕ) (long0 : length i0 ≡ length b0)
    (long1 : length i1 ≡ length b1) (m : LfsMdir) (s : ℕ) (f : fetch_of g b0 b1 n0 n1 count seed ≡ Ok (fetched m s))
    (v : ℕ) (es : List Event) where
  abbrev prog : ℕ
  prog = g.prog_size

  old_fits : pair_fits g (length b0) (length b1) n0 n1 ≡ true
  old_fits = (found_tested g b0 b1 n0 n1 count seed m s f).fits

  new_fits : pair_fits g (length i0) (length i1) n0 n1 ≡ true
  new_fits = rw (long0, long1) old_fits

  apart : eqb n1 n0 ≡ false
  unfolding pair_fits
  apart =
      let t = both_true (geometry_fits g && eqb (length b0) g.block_size && eqb (length b1) g.block_size)
      (not (eqb n0 n1)) old_fits in
      ne_eqb n1 n0 (λ e. eqb-false n0 n1 (not-true (eqb n0 n1) t.1) (sym e))

  -- the answering block is found by its number
  numbered : (w : Bool) (c0 c1 : List ℕ) → cond (eqb (number_at w n0 n1) n0) c0 c1 ≡ block_at w c0 c1
  numbered false c0 c1 = ap (λ (c : Bool). cond c c0 c1) (eq-eqb n0 n0 refl)
  numbered true c0 c1 = ap (λ (c : Bool). cond c c0 c1) apart

  long_at : (w : Bool) → length (block_at w i0 i1) ≡ length (block_at w b0 b1)
  long_at false = long0
  long_at true = long1

  abbrev old : Bool → LfsMdir
  old w = mdir_of prog (number_at w n0 n1) (number_at w n1 n0) (block_at w b0 b1) v es

  abbrev new : Bool → LfsMdir
  new w = mdir_of prog (number_at w n0 n1) (number_at w n1 n0) (block_at w i0 i1) v es

  looked_up : (w : Bool) → take (log_end es) (block_at w i0 i1) ≡ take (log_end es) (block_at w b0 b1)
      → (gdisk : LfsGstate) (mask key : ℕ) (buffer : List ℕ)
      → (getslice_of g i0 i1 n0 n1 (new w) gdisk mask key 0 buffer ≡ getslice_of g b0 b1 n0 n1 (old w) gdisk mask key 0
      buffer)
      × (getslice_buffer g i0 i1 n0 n1 (new w) gdisk mask key 0 buffer
      ≡ getslice_buffer g b0 b1 n0 n1 (old w) gdisk mask key 0 buffer)
  unfolding getslice_of getslice_buffer getslice_fits record_fits mdir_of
  looked_up w same gdisk mask key buffer =
      let r = sliced_same prog (number_at w n0 n1) (number_at w n1 n0) v es (block_at w b0 b1) (block_at w i0 i1) same
      (long_at w) gdisk mask key buffer in
      rw (long0, long1, numbered w b0 b1, numbered w i0 i1, r.0, r.1) (refl, refl)

  marks : (w : Bool) → unmarked (new w) ≡ unmarked (old w)
  unfolding mdir_of
  marks w = refl

  counts : (w : Bool) → (old w).count ≡ count_of 0 es
  unfolding mdir_of
  counts w = refl

  found : viewed prog n0 n1 b0 b1 seed (view b0 b1) ≡ Ok (fetched m s)
  found =
      sym (fetch_viewed g b0 b1 n0 n1 count seed old_fits (found_tested g b0 b1 n0 n1 count seed m s f).low) ∙ f

  -- what was found counts few slots
  found_few : (w : Bool) → view_at w (block_at w b0 b1) (block_at (not w) b0 b1) ≡ at w v es
      → ltb 1_023 (count_of 0 es) ≡ false
  found_few false h =
      rw (counts false) at (few_counted (old false) m (seed_of seed es) s (sym (ap (viewed prog n0 n1 b0 b1 seed) h)
      ∙ found))
  found_few true h =
      rw (counts true) at (few_counted (old true) m (seed_of seed es) s (sym (ap (viewed prog n0 n1 b0 b1 seed) h)
      ∙ found))

  pub reads_as : (w : Bool) → view_at w (block_at w b0 b1) (block_at (not w) b0 b1) ≡ at w v es
      → view_at w (block_at w i0 i1) (block_at (not w) i0 i1) ≡ at w v es
      → take (log_end es) (block_at w i0 i1) ≡ take (log_end es) (block_at w b0 b1) → ReadsAs g n0 n1 b0 b1 i0 i1
  reads_as w h k same =
      record {
        before = old w;
        after = new w;
        read = λ seed. seed_of seed es;
        fetched = finds_view g n0 n1 b0 b1 old_fits v es (found_few w h) w h;
        refetched = finds_view g n0 n1 i0 i1 new_fits v es (found_few w h) w k;
        same = marks w;
        lookups = looked_up w same;
      }

  -- ---- a finished pair is found
  pub refound : count_of 0 es ≤ 1_023 → (w : Bool) → view_at w (block_at w i0 i1) (block_at (not w) i0 i1) ≡ at w v es
      → fetch_of g i0 i1 n0 n1 count seed ≡ Ok (fetched (new w) (seed_of seed es))
  refound few w h =
      finds_view g n0 n1 i0 i1 new_fits v es (le-ltb 1_023 (count_of 0 es) few) w h count seed
      (found_tested g b0 b1 n0 n1 count seed m s f).low

  pub refound_place : (w : Bool) → is_second n0 (new w) ≡ w
  unfolding mdir_of
  refound_place false = ap not (eq-eqb n0 n0 refl)
  refound_place true = ap not apart
