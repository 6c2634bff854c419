-- A pair with a log that is regular, by either rule, shows the machine of that log: fetch's record counts its slots,
-- and the directory lookups, by `lfs_dir_getslice`'s own definition on the bytes, answer what the machine has. Assumes
-- nothing.
use Rattle.std.specs.Prelude.{◌≡◌, ◌≢◌, Bool, true, false, not, cond, ◌&&◌, ◌||◌, List, [], ℕ, ◌+◌, ◌^◌, ◌≤◌, ◌<◌, length, ltb, eqb, Err, Ok}
use Rattle.std.proofs.Math.Path.{refl, ap}
use Rattle.std.proofs.Common.{sym, ◌∙◌, arith}
use borrow.Author.Tests.{le-leb, ltb-true, eq-eqb, not-false}
use Rattle.format.specs.Log.{log, log_end, log_end_tag}
use Rattle.format.specs.Gstate.{gstate_has_move_here}
use Rattle.format.specs.Pair.{pair_sync}
use Rattle.format.specs.View.{View, none, at, view}
use Rattle.format.specs.Fetch.{pair_fits, too_high, mdir_of, few_enough, viewed, fetch_of}
use Rattle.format.specs.Record.{seed_of}
use Rattle.format.specs.Back.{back}
use Rattle.format.specs.Look.{wlook}
use Rattle.format.specs.Lookup.{record_fits, block_of, has_ids, searched_from, searched, longest_buffer, getslice_fits}
use Rattle.format.specs.Lookup.{getslice_of, getslice_buffer}
use Rattle.format.specs.Regular.{Regular}
use Rattle.format.specs.declared.Rules.{Rules}
use Rattle.format.specs.declared.Rules.TheVariants.{Littlefs}
use Rattle.format.proofs.Growing.{widest}
use Rattle.format.specs.Tag.{tag_of}
use Rattle.format.specs.Directory.{dir_of}
use Rattle.format.specs.Writer.{block_at, is_second}
use Rattle.format.specs.declared.Geometry.{Geometry}
use Rattle.format.specs.declared.LfsMdir.{LfsMdir}
use Rattle.format.specs.declared.LfsGstate.{LfsGstate}
use Rattle.format.specs.declared.Refusal.TheVariants.{TooMany}
use Rattle.theory.specs.Walk.Step.{both_true}
use Rattle.theory.specs.Lookup.Masks.{query_name, query_struct, query_attr}
use Rattle.theory.specs.Lookup.ByMask.{holds, Answers}
use Rattle.theory.specs.Lookup.OnBlock.{RegularLog, regular_searchable, block_lookup}
use Rattle.theory.specs.Lookup.MoveState.{move_found}
use Rattle.theory.specs.Commit.Tested.{regular_log}
use Rattle.theory.specs.Lookup.SlotSearch.{log_inside}
use Rattle.theory.specs.Fetch.FoundRecord.{few_found, past_test}
use Rattle.theory.specs.Fetch.FoundBlock.{Reads, found_sized, found_reads}
use Rattle.theory.proofs.Compact.AcceptedVerdict.{slots_counted}
use Rattle.format.specs.Machine.{machine_of, Ask, name, struct, attribute, move, ask_mask, ask_key, ask_fits, ask_id, asked}
use Rattle.format.specs.Machine.{held_word, held_buffer}
use Rattle.format.specs.Answer.{got_word}
use Rattle.theory.specs.Fetch.Places.{block_length}
use Rattle.theory.specs.Lookup.AtStart.{back_in, wlook_in, slice_held}
use Rattle.theory.specs.Lookup.MoveAnswer.{move_answer_lem}
use Rattle.format.specs.Stopped.{Finds, Shows}
use Rattle.format.specs.Record.{fetched}
use Rattle.format.specs.Answer.{answer_mdir}

-- ---- the search, on the bytes of a block with a regular log
module _ (x : List ℕ) (some : log x ≢ []) (regular : Regular Littlefs (log x) ≡ true) where
  pub ask_found : (a : Ask) (size : ℕ) → ask_fits (machine_of (log x)) a ≡ true → size < 2 ^ 10
      → (holds x (wlook (has_ids (ask_mask a)) (ask_mask a) (ask_key a size) 0
      (back x (log_end (log x)) (log_end_tag (log x)))) ≡ asked (machine_of (log x)) a)
      × Answers (ask_id a) (wlook (has_ids (ask_mask a)) (ask_mask a) (ask_key a size) 0
      (back x (log_end (log x)) (log_end_tag (log x))))
  unfolding tag_of
  ask_found (name id) size h k =
      block_lookup x (log x) _ _ 0 size id refl some (regular_searchable (log x) (regular_log x (log x) refl regular))
      query_name k (ltb-true id (length (dir_of (log x))) h)
  ask_found (struct id) size h k =
      block_lookup x (log x) _ _ 1 size id refl some (regular_searchable (log x) (regular_log x (log x) refl regular))
      query_struct k (ltb-true id (length (dir_of (log x))) h)
  ask_found (attribute id u) size h k =
      let r = both_true (ltb id (length (dir_of (log x)))) (ltb u 0x100) h in
      block_lookup x (log x) _ _ (2 + u) size id refl some
      (regular_searchable (log x) (regular_log x (log x) refl regular)) (query_attr u (ltb-true u 0x100 r.1)) k
      (ltb-true id (length (dir_of (log x))) r.0)
  ask_found move size h k =
      let r : RegularLog (log x) = regular_log x (log x) refl regular in (
        move_found x (log x) size refl some r.base.reg r.base.eight (omega arith),
        move_answer_lem x size some regular r.base.reg (omega arith),
      )

-- ---- a record that fetch found passes the lookups' own test
same_numbers : (n0 n1 : ℕ) → (pair_sync (record { n0 = n0; n1 = n1 }) (record { n0 = n0; n1 = n1 }) ≡ true)
    × (pair_sync (record { n0 = n1; n1 = n0 }) (record { n0 = n0; n1 = n1 }) ≡ true)
same_numbers n0 n1 = (
  rw (eq-eqb n0 n0 refl, eq-eqb n1 n1 refl),
  rw (eq-eqb n0 n0 refl, eq-eqb n1 n1 refl) (or_true (eqb n1 n0 && eqb n0 n1)),
)
  where
    or_true : (b : Bool) → b || true ≡ true
    or_true true = refl
    or_true false = refl

viewed_pair : (prog n0 n1 : ℕ) (b0 b1 : List ℕ) (seed : ℕ) (v : View) (m : LfsMdir) (s : ℕ)
    → viewed prog n0 n1 b0 b1 seed v ≡ Ok (fetched m s)
    → pair_sync m.pair (record { n0 = n0; n1 = n1 }) ≡ true
unfolding mdir_of
viewed_pair prog n0 n1 b0 b1 seed none m s h = cc
viewed_pair prog n0 n1 b0 b1 seed (at false rev es) m s h =
    let e : mdir_of prog n0 n1 b0 rev es ≡ m = few_found (mdir_of prog n0 n1 b0 rev es) m (seed_of seed es) s h in
    rw (← e) (same_numbers n0 n1).0
viewed_pair prog n0 n1 b0 b1 seed (at true rev es) m s h =
    let e : mdir_of prog n1 n0 b1 rev es ≡ m = few_found (mdir_of prog n1 n0 b1 rev es) m (seed_of seed es) s h in
    rw (← e) (same_numbers n0 n1).1

-- what fetch tested before it answered
pub record Tested (g : Geometry) (b0 b1 : List ℕ) (n0 n1 count : ℕ) (m : LfsMdir) : Type 0 where
  pub fits : pair_fits g (length b0) (length b1) n0 n1 ≡ true
  pub low : too_high count n0 || too_high count n1 ≡ false
  pub pair : pair_sync m.pair (record { n0 = n0; n1 = n1 }) ≡ true

pub found_tested : (g : Geometry) (b0 b1 : List ℕ) (n0 n1 count seed : ℕ) (m : LfsMdir) (s : ℕ)
    → fetch_of g b0 b1 n0 n1 count seed ≡ Ok (fetched m s) → Tested g b0 b1 n0 n1 count m
unfolding fetch_of
found_tested g b0 b1 n0 n1 count seed m s h =
    let p = past_test (not (pair_fits g (length b0) (length b1) n0 n1)) _ _ m s h in
    let q = past_test (too_high count n0 || too_high count n1) _ _ m s p.1 in
    record {
      fits = not-false _ p.0;
      low = q.0;
      pair = viewed_pair g.prog_size n0 n1 b0 b1 seed (view b0 b1) m s q.1;
    }

-- ---- what fetch finds once it finds from every seed, and for every block count that the numbers pass
few_again : (k m : LfsMdir) (t s u : ℕ) → few_enough k t ≡ Ok (fetched m s) → few_enough k u ≡ Ok (fetched m u)
few_again k m t s u h = go (ltb 1_023 k.count) h
  where
    go : (b : Bool) → cond b (Err (TooMany (fetched k t))) (Ok (fetched k t)) ≡ Ok (fetched m s)
        → cond b (Err (TooMany (fetched k u))) (Ok (fetched k u)) ≡ Ok (fetched m u)
    go true h = cc
    go false h = ap (λ (x : LfsMdir). Ok (fetched x u)) (ap answer_mdir h)

viewed_again : (prog n0 n1 : ℕ) (b0 b1 : List ℕ) (seed : ℕ) (v : View) (m : LfsMdir) (s : ℕ)
    → viewed prog n0 n1 b0 b1 seed v ≡ Ok (fetched m s)
    → (read : ℕ → ℕ) × ((u : ℕ) → viewed prog n0 n1 b0 b1 u v ≡ Ok (fetched m (read u)))
viewed_again prog n0 n1 b0 b1 seed none m s h = (λ u. u, λ u. cc)
viewed_again prog n0 n1 b0 b1 seed (at false rev es) m s h =
    (λ u. seed_of u es, λ u. few_again (mdir_of prog n0 n1 b0 rev es) m (seed_of seed es) s (seed_of u es) h)
viewed_again prog n0 n1 b0 b1 seed (at true rev es) m s h =
    (λ u. seed_of u es, λ u. few_again (mdir_of prog n1 n0 b1 rev es) m (seed_of seed es) s (seed_of u es) h)

-- fetch is what it makes of the view, where its tests pass
pub fetch_viewed : (g : Geometry) (b0 b1 : List ℕ) (n0 n1 count seed : ℕ)
    → pair_fits g (length b0) (length b1) n0 n1 ≡ true
    → too_high count n0 || too_high count n1 ≡ false
    → fetch_of g b0 b1 n0 n1 count seed ≡ viewed g.prog_size n0 n1 b0 b1 seed (view b0 b1)
unfolding fetch_of
fetch_viewed g b0 b1 n0 n1 count seed fits low = rw (fits, low)

pub found_anywhere : (g : Geometry) (b0 b1 : List ℕ) (n0 n1 count seed : ℕ) (m : LfsMdir) (s : ℕ)
    → fetch_of g b0 b1 n0 n1 count seed ≡ Ok (fetched m s) → (read : ℕ → ℕ) × Finds g n0 n1 b0 b1 m read
found_anywhere g b0 b1 n0 n1 count seed m s h =
    let t = found_tested g b0 b1 n0 n1 count seed m s h in
    let v = viewed_again g.prog_size n0 n1 b0 b1 seed (view b0 b1) m s
    (sym (fetch_viewed g b0 b1 n0 n1 count seed t.fits t.low) ∙ h) in
    (v.0, λ count' seed' low. fetch_viewed g b0 b1 n0 n1 count' seed' t.fits low ∙ v.1 seed')

-- a record's block, by either name
pub block_is : (b0 b1 : List ℕ) (n0 : ℕ) (m : LfsMdir) (w : Bool) → is_second n0 m ≡ w
    → block_of b0 b1 n0 m ≡ block_at w b0 b1
block_is b0 b1 n0 m w h = go (eqb m.pair.n0 n0) w h
  where
    go : (c w : Bool) → not c ≡ w → cond c b0 b1 ≡ block_at w b0 b1
    go true true h = cc
    go true false h = refl
    go false true h = refl
    go false false h = cc

off : {A : Type 0} (c : Bool) (p q : A) → cond (c && false) p q ≡ q
off true p q = refl
off false p q = refl

-- ---- THE DIRECTORY LOOKUPS ARE THE MACHINE'S
module _ (g : Geometry) (b0 b1 : List ℕ) (n0 n1 count seed : ℕ) (m : LfsMdir) (s : ℕ)
    (f : fetch_of g b0 b1 n0 n1 count seed ≡ Ok (fetched m s)) where
  module _ (r : Rules) (w : Bool) (place : is_second n0 m ≡ w) (ruled : Regular r (log (block_at w b0 b1)) ≡ true) where
    abbrev x : List ℕ
    x = block_at w b0 b1

    regular : Regular Littlefs (log (block_at w b0 b1)) ≡ true
    regular = widest r (log (block_at w b0 b1)) ruled

    reads : Reads b0 b1 n0 m
    reads = found_reads g b0 b1 n0 n1 count seed m s f

    same : reads.w ≡ w
    same = sym reads.place ∙ place

    block : block_of b0 b1 n0 m ≡ block_at w b0 b1
    block = block_is b0 b1 n0 m w place

    long : length (block_at w b0 b1) ≡ g.block_size
    long = block_length g b0 b1 w (found_sized g b0 b1 n0 n1 count seed m s f)

    end : m.off ≡ log_end (log (block_at w b0 b1))
    end = rw same at reads.ends

    tag : m.etag ≡ log_end_tag (log (block_at w b0 b1))
    tag = rw same at reads.end_tag

    some : log (block_at w b0 b1) ≢ []
    some = rw same at reads.some

    inside : m.off ≤ length (block_at w b0 b1)
    inside =
        rw end
        (log_inside x (log x) refl (regular_log x (log x) refl regular).base.reg
        (omega (arith, long, (found_sized g b0 b1 n0 n1 count seed m s f).block.0)))

    fits : (buffer : List ℕ) → length buffer ≤ longest_buffer → getslice_fits g b0 b1 n0 n1 m buffer ≡ true
    unfolding getslice_fits record_fits
    fits buffer h =
        let t = found_tested g b0 b1 n0 n1 count seed m s f in
        rw (
          t.fits,
          t.pair,
          le-leb m.off g.block_size (rw long at inside),
          le-leb (length buffer) longest_buffer h,
        )

    still : (mask key : ℕ) (gdisk : LfsGstate) → gstate_has_move_here gdisk m.pair ≡ false
        → searched x m gdisk mask key ≡ searched_from x m mask key 0
    unfolding searched
    still mask key gdisk h = rw h (off (has_ids mask) _ _)

    pub ask_answered : (a : Ask) (gdisk : LfsGstate) (size : ℕ) (buffer : List ℕ)
        → ask_fits (machine_of (log (block_at w b0 b1))) a ≡ true → gstate_has_move_here gdisk m.pair ≡ false
        → size < 2 ^ 10 → length buffer ≤ longest_buffer
        → (got_word (getslice_of g b0 b1 n0 n1 m gdisk (ask_mask a) (ask_key a size) 0 buffer)
        ≡ held_word (ask_id a) (asked (machine_of (log (block_at w b0 b1))) a))
        × (getslice_buffer g b0 b1 n0 n1 m gdisk (ask_mask a) (ask_key a size) 0 buffer
        ≡ held_buffer buffer (asked (machine_of (log (block_at w b0 b1))) a))
    unfolding getslice_of getslice_buffer
    ask_answered a gdisk size buffer ha hm hs hb =
        let k = ask_found x some regular a size ha hs in
        let i = wlook_in (length x) (has_ids (ask_mask a)) (ask_mask a) (ask_key a size) 0
        (back x (log_end (log x)) (log_end_tag (log x)))
        (back_in x (log_end (log x)) (log_end_tag (log x)) (length x) (rw end at inside)) in
        let s = slice_held x buffer (ask_id a) (wlook (has_ids (ask_mask a)) (ask_mask a) (ask_key a size) 0
        (back x (log_end (log x)) (log_end_tag (log x)))) i k.1 in
        rw (fits buffer hb, block, still (ask_mask a) (ask_key a size) gdisk hm, end, tag, ← k.0) s

    pub shows : Shows g n0 n1 r b0 b1 (machine_of (log (block_at w b0 b1)))
    shows =
        record {
          dir = m;
          read = (found_anywhere g b0 b1 n0 n1 count seed m s f).0;
          fetched = (found_anywhere g b0 b1 n0 n1 count seed m s f).1;
          slots = rw same at reads.count' ∙ slots_counted x regular;
          split = rw same at reads.split';
          tail = rw same at reads.tail';
          regular = rw block ruled;
          lookups = ask_answered;
        }
