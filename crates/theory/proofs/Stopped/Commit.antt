-- DEMAND 3, COMMIT: an accepted call, stopped after any number of its stores. Assumes nothing.
use Rattle.std.specs.Prelude.{◌≡◌, refl, ◌⊎◌, Bool, not, cond, length, take, Ok}
use Rattle.std.proofs.Common.{sym, ap, subst, ◌∙◌, inl, inr, arith, le_refl}
use Rattle.std.proofs.Math.Bool.{true, false}
use mathlib.Core.List.{List, [], ◌∷◌, ◌++◌, append_assoc}
use Prim.Native.Nat.{ℕ, ◌+◌, ◌≤◌, min}
use Rattle.std.proofs.Math.Nat.{min-eq_right, min-le_right}
use Rattle.std.proofs.Math.ListN.{drop}
use Rattle.std.proofs.Math.Seq.{length-paste, take-take, length-take-le}
use Rattle.std.proofs.lemmas.List.{take-append-le}
use Rattle.format.specs.Word.{all_ones}
use Rattle.format.specs.Walk.{Event}
use Rattle.format.specs.Log.{log, log_end, log_end_tag}
use Rattle.format.specs.View.{at}
use Rattle.format.specs.Record.{no_forward, forward_of, seed_of}
use Rattle.format.specs.Fetch.{erased_of, mdir_of, fetch_of}
use Rattle.format.specs.Regular.{Regular, rules_of}
use Rattle.format.specs.Erased.{validity_fits}
use Rattle.format.specs.Commit.{Item, check_tag, commit_bytes, written}
use Rattle.format.specs.Stores.{entries_length, appending}
use Rattle.format.specs.Entries.{items_of}
use Rattle.format.specs.Writer.{accepted, commit_fits, block_at, is_second, verdict_of, Images, stored_to, images_after}
use Rattle.format.specs.Writer.{unit_check, forward_item, carries, all_stores, unlimited, commit_images}
use Rattle.format.specs.declared.Geometry.{Geometry}
use Rattle.format.specs.declared.LfsMdir.{LfsMdir}
use Rattle.format.specs.declared.Entry.{Entry}
use Rattle.format.specs.declared.Refusal.TheVariants.{Invalid}
use Rattle.format.proofs.Growing.{widest}
use Rattle.theory.specs.Log.TwoBlocks.{view_at, view_log}
use Rattle.theory.specs.Log.Stores.{commit_events, events_end}
use Rattle.theory.specs.Blocks.Append.{length_commit, AppendOk, AfterAppend}
use Rattle.theory.specs.Commit.Acceptance.{Accepts, finished_regular}
use Rattle.theory.proofs.Commit.Acceptance.{accepted_stopped}
use Rattle.theory.specs.Commit.Acceptance as writing
use Rattle.theory.specs.Fetch.FoundRecord.{found_answers}
use Rattle.theory.specs.Fetch.FoundBlock.{found_sized}
use Rattle.theory.specs.Commit.AcceptedVerdict.{past, found_then, AppendsTo}
use Rattle.theory.proofs.Commit.AcceptedVerdict.{accepted_commit}
use Rattle.format.specs.Machine.{Machine, machine_of, ran}
use Rattle.format.specs.Stopped.{Shows, ReadsAs, CommitStopped}
use Rattle.theory.specs.Fetch.Places.{same_place, both_blocks, lengths, few_slots, block_length}
use Rattle.theory.proofs.Stopped.Shown.{found_tested, shows}
use Rattle.theory.proofs.Stopped.ReadsAsBefore.{reads_as, refound, refound_place}
use Rattle.theory.proofs.Stopped.ErasedBehind.{forward_held, append_erased, carried_items, carried_aligned}
use Rattle.theory.proofs.Stopped.ErasedBehind.{carried_unit}
use Rattle.theory.specs.Commit.MachineAfter.{commit_ran}
use Rattle.theory.specs.Commit.ForwardCheck.{with_ran}
use Rattle.format.specs.Record.{fetched}

-- ---- a commit
module _ (g : Geometry) (b0 b1 : List ℕ) (n0 n1 count seed rules e : ℕ) (entries : List Entry) (dat : List ℕ) (w : Bool)
    (is : List Item) (size : ℕ)
    (h : verdict_of g b0 b1 n0 n1 count seed rules e entries dat ≡ accepted w is size) where
  abbrev x : List ℕ
  x = block_at w b0 b1

  abbrev o : List ℕ
  o = block_at (not w) b0 b1

  pub commit_found : (m : LfsMdir) × (s : ℕ) × (fetch_of g b0 b1 n0 n1 count seed ≡ Ok (fetched m s))
  unfolding verdict_of
  commit_found =
      let f = found_then (fetch_of g b0 b1 n0 n1 count seed) _ w is size
      (past (not (commit_fits g (length b0) (length b1) n0 n1 rules e (length entries) (length dat))) Invalid _ w is size
      h
      ).1 in
      (f.m, f.s, f.found)

  pub appends : AppendsTo (rules_of rules) e g.prog_size b0 b1 entries dat w is size
  appends = accepted_commit g b0 b1 n0 n1 count seed rules e entries dat w is size h

  pub takes : Accepts e (block_at w b0 b1) (log (block_at w b0 b1)) is size
  takes = appends.accepts

  place : is_second n0 commit_found.0 ≡ w
  place =
      let a = found_answers g b0 b1 n0 n1 count seed commit_found.0 commit_found.1 commit_found.2 in
      a.place ∙ same_place b0 b1 a.w w a.rev appends.rev (log (block_at a.w b0 b1)) (log (block_at w b0 b1))
      a.answers appends.answers

  -- the images after n stores: only the block that answers is altered
  pub commit_written : (n : ℕ) → (block_at w (commit_images g b0 b1 n0 n1 count seed rules e entries dat n).b0
      (commit_images g b0 b1 n0 n1 count seed rules e entries dat n).b1 ≡ stored_to e x is size n)
      × (block_at (not w) (commit_images g b0 b1 n0 n1 count seed rules e entries dat n).b0
      (commit_images g b0 b1 n0 n1 count seed rules e entries dat n).b1 ≡ o)
  unfolding commit_images
  commit_written n = rw h (go w)
    where
      go : (v : Bool) → (let i : Images = images_after e n b0 b1 (accepted v is size) in
          (block_at v i.b0 i.b1 ≡ stored_to e (block_at v b0 b1) is size n)
          × (block_at (not v) i.b0 i.b1 ≡ block_at (not v) b0 b1))
      go false = (refl, refl)
      go true = (refl, refl)

  pub ok : AppendOk e (block_at w b0 b1) (log (block_at w b0 b1)) is (check_tag e size)
  ok = writing.accepted e x (log x) is size takes

  pub bytes_length : length (commit_bytes all_ones (log_end_tag (log x)) is (check_tag e size)) ≡ all_stores is
  bytes_length = length_commit is all_ones (log_end_tag (log x)) (check_tag e size) ok.items

  pub room : log_end (log x) + all_stores is ≤ length x
  room = omega (arith, ok.fits, ok.check.long)

  pub stored_length : (k : ℕ) → k ≤ all_stores is → length (appending x (log x) is (check_tag e size) k) ≡ length x
  unfolding appending
  stored_length k hk = length-paste x (log_end (log x)) (commit_bytes all_ones (log_end_tag (log x)) is (check_tag e size)) k
      (omega (arith, room)) (omega (arith, bytes_length))

  pub stored_front : (k : ℕ) → take (log_end (log x)) (appending x (log x) is (check_tag e size) k) ≡ take (log_end
      (log x)) x
  unfolding appending
  stored_front k =
      let E : ℕ = log_end (log x) in
      let N : List ℕ = commit_bytes all_ones (log_end_tag (log x)) is (check_tag e size) in
      rw (append_assoc (take E x) (take k N) (drop (E + k) x))
      (take-append-le E (take E x) (take k N ++ drop (E + k) x)
      (omega (arith, room, length-take-le E x (omega (arith, room)))) ∙ take-take E E x (le_refl E))

  all_stores_lem : min unlimited (all_stores is) ≡ all_stores is
  all_stores_lem =
      let z = found_sized g b0 b1 n0 n1 count seed commit_found.0 commit_found.1 commit_found.2 in
      min-eq_right (omega (arith, room, block_length g b0 b1 w z, z.block.1))

  module _ (n : ℕ) where
    abbrev i : Images
    i = commit_images g b0 b1 n0 n1 count seed rules e entries dat n

    image_lengths : (length i.b0 ≡ length b0) × (length i.b1 ≡ length b1)
    image_lengths =
        lengths w i.b0 i.b1 b0 b1
        (ap length (commit_written n).0 ∙ stored_length (min n (all_stores is)) (min-le_right n (all_stores is)))
        (ap length (commit_written n).1)

  abbrev f : Images
  f = commit_images g b0 b1 n0 n1 count seed rules e entries dat unlimited

  finished_block : block_at w f.b0 f.b1 ≡ appending x (log x) is (check_tag e size) (all_stores is)
  finished_block = (commit_written unlimited).0 ∙ ap (appending x (log x) is (check_tag e size)) all_stores_lem

  after : (k : ℕ) → k ≤ all_stores is → AfterAppend w o appends.rev (log x) is (check_tag e size)
      (appending x (log x) is (check_tag e size) k) (appending x (log x) is (check_tag e size) (all_stores is))
  after k hk = accepted_stopped e x (log x) is size takes w o appends.rev appends.answers k hk

  commit_either : (n : ℕ) → (((i n).b0 ≡ f.b0) × ((i n).b1 ≡ f.b1)) ⊎ ReadsAs g n0 n1 b0 b1 (i n).b0 (i n).b1
  commit_either n = go (after (min n (all_stores is)) (min-le_right n (all_stores is))).either
    where
      go : (appending x (log x) is (check_tag e size) (min n (all_stores is)) ≡ appending x (log x) is (check_tag e size)
          (all_stores is))
          ⊎ (view_at w (appending x (log x) is (check_tag e size) (min n (all_stores is))) o ≡ at w appends.rev (log x))
          → (((i n).b0 ≡ f.b0) × ((i n).b1 ≡ f.b1)) ⊎ ReadsAs g n0 n1 b0 b1 (i n).b0 (i n).b1
      go (inl e) =
          inl (both_blocks w (i n).b0 (i n).b1 f.b0 f.b1 ((commit_written n).0 ∙ e ∙ sym finished_block)
          ((commit_written n).1 ∙ sym (commit_written unlimited).1))
      go (inr e) =
          inr (reads_as g n0 n1 count seed b0 b1 (i n).b0 (i n).b1 (image_lengths n).0 (image_lengths n).1
          commit_found.0 commit_found.1 commit_found.2 appends.rev (log x) w
          appends.answers (rw ((commit_written n).0, (commit_written n).1) e)
          (rw (commit_written n).0 (stored_front (min n (all_stores is)))))

  -- ---- the finished pair
  abbrev finished_log : List Event
  finished_log = log x ++ commit_events all_ones (log_end_tag (log x)) is (check_tag e size)

  finished_view : view_at w (block_at w f.b0 f.b1) (block_at (not w) f.b0 f.b1)
      ≡ at w appends.rev finished_log
  finished_view = rw (finished_block, (commit_written unlimited).1) (after 0 (omega arith)).finished

  finished_log_lem : log (block_at w f.b0 f.b1) ≡ finished_log
  finished_log_lem = (view_log w (block_at w f.b0 f.b1) (block_at (not w) f.b0 f.b1) appends.rev finished_log
      finished_view).0

  regular_finished : Regular (rules_of rules) finished_log ≡ true
  regular_finished = finished_regular e x (log x) is size takes (rules_of rules) appends.ruled

  pub commit_found_again : fetch_of g f.b0 f.b1 n0 n1 count seed
      ≡ Ok (fetched (mdir_of g.prog_size (cond w n1 n0) (cond w n0 n1) (block_at w f.b0 f.b1) appends.rev
      finished_log) (seed_of seed finished_log))
  commit_found_again =
      let L = image_lengths unlimited in
      refound g n0 n1 count seed b0 b1 f.b0 f.b1 L.0 L.1 commit_found.0 commit_found.1
      commit_found.2 appends.rev finished_log
      (few_slots (block_at w f.b0 f.b1) finished_log finished_log_lem
      (widest (rules_of rules) finished_log regular_finished)) w finished_view

  -- its end tag has the validity bit that fits the erased byte
  pub commit_fits_lem : validity_fits e (log_end_tag finished_log) ≡ true
  commit_fits_lem = rw (events_end (log x) all_ones (log_end_tag (log x)) is (check_tag e size)) ok.flips

  pub commit_finished : Shows g n0 n1 (rules_of rules) f.b0 f.b1
      (ran (machine_of (log x)) (written (items_of dat entries) []))
  commit_finished =
      let L = image_lengths unlimited in
      let p = refound_place g n0 n1 count seed b0 b1 f.b0 f.b1 L.0 L.1 commit_found.0 commit_found.1
      commit_found.2 appends.rev finished_log w in
      let s = shows g f.b0 f.b1 n0 n1 count seed _ _ commit_found_again (rules_of rules) w p
      (rw finished_log_lem regular_finished) in
      let q : machine_of (log (block_at w f.b0 f.b1)) ≡ ran (machine_of (log x)) (written (items_of dat entries) [])
      = ap machine_of finished_log_lem ∙ commit_ran (log x) all_ones (log_end_tag (log x)) is (check_tag e size)
      ∙ ap (λ (l : List Item). ran (machine_of (log x)) (written l [])) appends.items
      ∙ with_ran e g.prog_size (length x) (log_end (log x)) (items_of dat entries) (machine_of (log x)) in
      subst (λ (M : Machine). Shows g n0 n1 (rules_of rules) f.b0 f.b1 M) q s

  -- the call's own fetch of it
  pub commit_refetched : (m : LfsMdir) × (s : ℕ) × (fetch_of g f.b0 f.b1 n0 n1 count seed ≡ Ok (fetched m s))
  commit_refetched =
      let low = (found_tested g b0 b1 n0 n1 count seed commit_found.0 commit_found.1 commit_found.2).low in
      (commit_finished.dir, commit_finished.read seed, commit_finished.fetched count seed low)

  -- behind a commit that carried a forward check the mark is yes, and the record holds the check
  module _ (carried : carries g.prog_size (length x) (log_end (log x) + entries_length (items_of dat entries))
      ≡ true) where
    abbrev prog : ℕ
    prog = g.prog_size

    laid_is : is ≡ items_of dat entries ++ (forward_item (unit_check e prog) ∷ [])
    laid_is = carried_items e prog (length x) (log_end (log x)) (items_of dat entries) is size appends.sized.0
        appends.sized.1 appends.items appends.rounded' carried

    pub commit_held : forward_of no_forward finished_log ≡ unit_check e prog
    commit_held = rw laid_is
        (forward_held e (log x) all_ones (log_end_tag (log x)) (items_of dat entries) (check_tag e size) prog)

    pub commit_erased : erased_of prog (block_at w f.b0 f.b1) finished_log ≡ true
    commit_erased =
        rw finished_block
        (append_erased e prog appends.sized.0 x (log x) is (check_tag e size) ok
        (carried_aligned e prog (length x) (log_end (log x)) (items_of dat entries) is size appends.sized.0
        appends.sized.1 appends.items appends.rounded' carried)
        (carried_unit e prog (length x) (log_end (log x)) (items_of dat entries) is size appends.sized.0
        appends.sized.1 appends.items appends.rounded' carried)
        commit_held)

  pub commit_before : Shows g n0 n1 (rules_of rules) b0 b1 (machine_of (log x))
  commit_before = shows g b0 b1 n0 n1 count seed commit_found.0 commit_found.1 commit_found.2
      (rules_of rules) w place appends.ruled

-- DEMAND 3, COMMIT
pub stopped_commit : (g : Geometry) (b0 b1 : List ℕ) (n0 n1 count seed rules e : ℕ) (entries : List Entry)
    (dat : List ℕ)
    (n : ℕ)
    → CommitStopped g b0 b1 n0 n1 count seed rules e entries dat
    (commit_images g b0 b1 n0 n1 count seed rules e entries dat n).b0
    (commit_images g b0 b1 n0 n1 count seed rules e entries dat n).b1
stopped_commit g b0 b1 n0 n1 count seed rules e entries dat n w is size h =
    record {
      either = commit_either g b0 b1 n0 n1 count seed rules e entries dat w is size h n;
      old = commit_before g b0 b1 n0 n1 count seed rules e entries dat w is size h;
      finished = commit_finished g b0 b1 n0 n1 count seed rules e entries dat w is size h;
    }
