-- DEMAND 3, COMPACTION: an accepted call, stopped after any number of its stores. Assumes nothing.
use Rattle.std.specs.Prelude.{◌≡◌, ◌⊎◌, Bool, true, false, not, cond, take, Ok}
use Rattle.std.proofs.Math.Path.{refl, sym, ap}
use Rattle.std.proofs.Common.{subst, ◌∙◌, inl, inr, arith}
use mathlib.Core.List.{List, [], ◌∷◌, ◌++◌}
use Prim.Native.Nat.{ℕ, zero, suc, ◌+◌, ◌-◌, ◌^◌, ◌<◌, min}
use Rattle.std.proofs.Math.Nat.{min-eq_right}
use Rattle.std.proofs.Math.ListN.{length, length-append}
use Rattle.format.specs.Word.{le32, all_ones, to_le32}
use Rattle.format.specs.Crc.{crc}
use Rattle.format.specs.Walk.{Event}
use Rattle.format.specs.Log.{log, log_end, log_end_tag}
use Rattle.format.specs.View.{at}
use Rattle.format.specs.Record.{no_forward, forward_of, seed_of}
use Rattle.format.specs.Fetch.{erased_of, mdir_of, fetch_of}
use Rattle.format.specs.Regular.{Regular, rules_of}
use Rattle.format.specs.Directory.{dir_of}
use Rattle.format.specs.Commit.{Item, check_tag}
use Rattle.format.specs.Erased.{erased, validity_fits}
use Rattle.format.specs.Stores.{fill, compact_bytes, compacted, compacting}
use Rattle.format.specs.Writer.{check_length, unit_check, forward_item, carries, writes_fit, block_at, is_second, Images}
use Rattle.format.specs.Writer.{unlimited}
use Rattle.format.specs.Compaction.{compact_accepted, compact_check_at, compact_stores, compacted_to, compact_verdict}
use Rattle.format.specs.Compaction.{compaction_items, compact_images}
use Rattle.format.specs.declared.Geometry.{Geometry}
use Rattle.format.specs.declared.Rules.TheVariants.{Document}
use Rattle.format.specs.declared.LfsMdir.{LfsMdir}
use Rattle.format.specs.declared.Refusal.TheVariants.{Invalid}
use Rattle.format.proofs.Growing.{widest}
use Rattle.theory.specs.Walk.Erased.{length_fill, length_erased}
use Rattle.theory.specs.Log.TwoBlocks.{view_at, view_log}
use Rattle.theory.specs.Log.Stores.{CommitFits, commit_events, events_end}
use Rattle.theory.specs.Blocks.Append.{fill_all}
use Rattle.theory.specs.Blocks.Compact.{AfterCompact}
use Rattle.theory.proofs.Compact.Acceptance.{compact_fits, compacted_regular}
use Rattle.theory.specs.Fetch.FoundRecord.{found_answers}
use Rattle.theory.specs.Fetch.FoundBlock.{found_sized}
use Rattle.theory.proofs.Compact.AcceptedVerdict.{found_then, laid_behind, CompactsTo, accepted_compaction}
use Rattle.theory.proofs.Compact.AcceptedVerdict.{compaction_written, compaction_length, compaction_stopped}
use Rattle.theory.proofs.Compact.AcceptedVerdict.{past, compaction_keeps}
use Rattle.format.specs.Machine.{Machine, machine_of}
use Rattle.format.specs.Stopped.{Bytes, Shows, ReadsAs, CompactStopped}
use Rattle.theory.proofs.Stopped.Shown.{found_tested, shows}
use Rattle.theory.proofs.Stopped.ReadsAsBefore.{reads_as, refound, refound_place}
use Rattle.theory.proofs.Stopped.ErasedBehind.{forward_held, carried_items, carried_aligned, carried_unit}
use Rattle.theory.proofs.Stopped.ErasedBehind as behind
use Rattle.theory.specs.Fetch.Places.{same_place, both_blocks, lengths, few_slots, block_length}
use Rattle.format.specs.Record.{fetched}

word_fits : (b : List ℕ) → Bytes b → le32 b < 2 ^ 32
unfolding le32
word_fits b h = omega (arith, h 0, h 1, h 2, h 3)

pub block_bytes : (w : Bool) (b0 b1 : List ℕ) → Bytes b0 → Bytes b1 → Bytes (block_at w b0 b1)
block_bytes false b0 b1 h k = h
block_bytes true b0 b1 h k = k

not_not : (w : Bool) → not (not w) ≡ w
not_not true = refl
not_not false = refl

-- seen from the other block
turned : (w : Bool) (x y : List ℕ) → view_at w x y ≡ view_at (not w) y x
turned true x y = refl
turned false x y = refl

module _ (g : Geometry) (b0 b1 : List ℕ) (n0 n1 count seed rules e : ℕ) (w : Bool) (rev : ℕ) (is : List Item) (size : ℕ)
    (h : compact_verdict g b0 b1 n0 n1 count seed rules e ≡ compact_accepted w rev is size)
    (bytes : Bytes (block_at w b0 b1)) where
  abbrev x : List ℕ
  x = block_at w b0 b1

  abbrev o : List ℕ
  o = block_at (not w) b0 b1

  abbrev rest : ℕ
  rest = length o - (compact_check_at is + check_length)

  abbrev finished : List ℕ
  finished = compacted e rev is (check_tag e size) rest

  abbrev finished_log : List Event
  finished_log = commit_events (crc all_ones (to_le32 rev)) all_ones is (check_tag e size)

  compact_found : (m : LfsMdir) × (s : ℕ) × (fetch_of g b0 b1 n0 n1 count seed ≡ Ok (fetched m s))
  unfolding compact_verdict
  compact_found = found_then (rules_of rules) e g.prog_size b0 b1 n0
      (fetch_of g b0 b1 n0 n1 count seed) w rev is size
      (past (not (writes_fit rules e)) Invalid _ w rev is size h).1

  pub compacts : CompactsTo (rules_of rules) e g b0 b1 w rev is size
  compacts = accepted_compaction g b0 b1 n0 n1 count seed rules e w rev is size h

  place : is_second n0 compact_found.0 ≡ w
  place =
      let a = found_answers g b0 b1 n0 n1 count seed compact_found.0 compact_found.1 compact_found.2 in
      a.place ∙ same_place b0 b1 a.w w a.rev (le32 x) (log (block_at a.w b0 b1)) (log x) a.answers
      compacts.answers

  bytes_length : length (compact_bytes rev is (check_tag e size)) + rest ≡ length o
  unfolding compacted
  bytes_length =
      sym (ap (λ (k : ℕ). length (compact_bytes rev is (check_tag e size)) + k) (length_erased e rest))
      ∙ sym (length-append (compact_bytes rev is (check_tag e size)) (erased e rest))
      ∙ compaction_length g b0 b1 n0 n1 count seed rules e w rev is size h

  image_length : (n : ℕ) → length (compacting e o rev is (check_tag e size) rest n) ≡ length o
  unfolding compacting
  image_length zero = refl
  image_length (suc k) =
      length-append (fill e k (compact_bytes rev is (check_tag e size))) (erased e rest)
      ∙ rw (length_fill e k (compact_bytes rev is (check_tag e size)), length_erased e rest) bytes_length

  abbrev i : ℕ → Images
  i n = compact_images g b0 b1 n0 n1 count seed rules e n

  abbrev f : Images
  f = compact_images g b0 b1 n0 n1 count seed rules e unlimited

  left : (n : ℕ) → (block_at (not w) (i n).b0 (i n).b1 ≡ compacted_to e o rev is size n)
      × (block_at w (i n).b0 (i n).b1 ≡ x)
  left n = compaction_written g b0 b1 n0 n1 count seed rules e w rev is size h n

  image_lengths : (n : ℕ) → (length (i n).b0 ≡ length b0) × (length (i n).b1 ≡ length b1)
  image_lengths n = lengths w (i n).b0 (i n).b1 b0 b1 (ap length (left n).1)
      (ap length (left n).0 ∙ image_length (min n (compact_stores is)))

  all_stores_lem : min unlimited (compact_stores is) ≡ compact_stores is
  all_stores_lem =
      let z = found_sized g b0 b1 n0 n1 count seed compact_found.0 compact_found.1 compact_found.2 in
      min-eq_right (omega (arith, compacts.room, block_length g b0 b1 (not w) z, z.block.1))

  whole : compacting e o rev is (check_tag e size) rest (suc (compact_check_at is + check_length)) ≡ finished
  unfolding compacting compacted
  whole =
      ap (λ (l : List ℕ). l ++ erased e rest)
      (fill_all e (compact_check_at is + check_length) (compact_bytes rev is (check_tag e size))
      (omega (arith, bytes_length, compacts.room)))

  finished_block : block_at (not w) f.b0 f.b1 ≡ finished
  finished_block =
      let n : min unlimited (compact_stores is) ≡ suc (compact_check_at is + check_length) = all_stores_lem ∙ omega arith in
      (left unlimited).0 ∙ ap (compacting e o rev is (check_tag e size) rest) n ∙ whole

  after : (n : ℕ) → AfterCompact w x (le32 x) (log x) is (check_tag e size) (compacted_to e o rev is size n) finished
  after n = compaction_stopped g b0 b1 n0 n1 count seed rules e w rev is size h (word_fits x bytes) n

  compact_either : (n : ℕ) → (((i n).b0 ≡ f.b0) × ((i n).b1 ≡ f.b1)) ⊎ ReadsAs g n0 n1 b0 b1 (i n).b0 (i n).b1
  compact_either n = go (after n).either
    where
      go : (compacted_to e o rev is size n ≡ finished)
          ⊎ (view_at w x (compacted_to e o rev is size n) ≡ at w (le32 x) (log x))
          → (((i n).b0 ≡ f.b0) × ((i n).b1 ≡ f.b1)) ⊎ ReadsAs g n0 n1 b0 b1 (i n).b0 (i n).b1
      go (inl e) =
          inl
          (both_blocks w (i n).b0 (i n).b1 f.b0 f.b1 ((left n).1 ∙ sym (left unlimited).1)
          ((left n).0 ∙ e ∙ sym finished_block))
      go (inr e) =
          inr (reads_as g n0 n1 count seed b0 b1 (i n).b0 (i n).b1 (image_lengths n).0 (image_lengths n).1
          compact_found.0 compact_found.1 compact_found.2 (le32 x) (log x) w
          compacts.answers (rw ((left n).0, (left n).1) e) (ap (take (log_end (log x))) (left n).1))

  -- ---- the finished pair
  finished_view : view_at (not w) (block_at (not w) f.b0 f.b1) (block_at (not (not w)) f.b0 f.b1)
      ≡ at (not w) rev finished_log
  finished_view =
      rw (not_not w, finished_block, (left unlimited).1)
      (sym (turned w x finished) ∙ (after 0).finished ∙ rw compacts.next)

  finished_log_lem : log (block_at (not w) f.b0 f.b1) ≡ finished_log
  finished_log_lem = (view_log (not w) (block_at (not w) f.b0 f.b1) (block_at (not (not w)) f.b0 f.b1) rev
      finished_log finished_view).0

  regular_finished : Regular Document finished_log ≡ true
  regular_finished = rw (compacts.next, compacts.items)
      (compacted_regular e x (le32 x) (log x) (laid_behind e g.prog_size x) size rest compacts.compacts)

  same_machine : machine_of finished_log ≡ machine_of (log x)
  same_machine =
      let k = compaction_keeps g b0 b1 n0 n1 count seed rules e w rev is size h in
      let d : dir_of finished_log ≡ dir_of (log x) = rw compacts.next (after 0).same in
      rw (d, k.0, k.1, k.2)

  pub compact_found_again : fetch_of g f.b0 f.b1 n0 n1 count seed
      ≡ Ok (fetched (mdir_of g.prog_size (cond (not w) n1 n0) (cond (not w) n0 n1)
      (block_at (not w) f.b0 f.b1) rev finished_log) (seed_of seed finished_log))
  compact_found_again =
      let L = image_lengths unlimited in
      refound g n0 n1 count seed b0 b1 f.b0 f.b1 L.0 L.1 compact_found.0 compact_found.1
      compact_found.2 rev finished_log
      (few_slots (block_at (not w) f.b0 f.b1) finished_log finished_log_lem
      (widest Document finished_log regular_finished)) (not w) finished_view

  -- its end tag has the validity bit that fits the erased byte
  pub compact_end_fits : validity_fits e (log_end_tag finished_log) ≡ true
  compact_end_fits = rw (events_end [] (crc all_ones (to_le32 rev)) all_ones is (check_tag e size))
      (compact_fits e x (le32 x) (log x) (laid_behind e g.prog_size x) size rest compacts.compacts).flips

  pub compact_finished : Shows g n0 n1 Document f.b0 f.b1 (machine_of (log x))
  compact_finished =
      let L = image_lengths unlimited in
      let p = refound_place g n0 n1 count seed b0 b1 f.b0 f.b1 L.0 L.1 compact_found.0 compact_found.1
      compact_found.2 rev finished_log (not w) in
      let s = shows g f.b0 f.b1 n0 n1 count seed _ _ compact_found_again Document (not w) p
      (rw finished_log_lem regular_finished) in
      subst (λ (M : Machine). Shows g n0 n1 Document f.b0 f.b1 M) (ap machine_of finished_log_lem ∙ same_machine) s

  -- the call's own fetch of it
  pub compact_refetched : (m : LfsMdir) × (s : ℕ) × (fetch_of g f.b0 f.b1 n0 n1 count seed ≡ Ok (fetched m s))
  compact_refetched =
      let low = (found_tested g b0 b1 n0 n1 count seed compact_found.0 compact_found.1 compact_found.2).low in
      (compact_finished.dir, compact_finished.read seed, compact_finished.fetched count seed low)

  -- behind a compaction that carried a forward check the mark is yes, and the record holds the check
  module _ (carried : carries g.prog_size (length x) (compact_check_at (compaction_items (log x))) ≡ true) where
    abbrev prog : ℕ
    prog = g.prog_size

    abbrev I : List Item
    I = compaction_items (log x)

    laid_is : is ≡ I ++ (forward_item (unit_check e prog) ∷ [])
    laid_is = carried_items e prog (length x) 4 I is size compacts.sized.0 compacts.sized.1 compacts.laid
        compacts.rounded' carried

    pub compact_held : forward_of no_forward finished_log ≡ unit_check e prog
    compact_held = rw laid_is (forward_held e [] (crc all_ones (to_le32 rev)) all_ones I (check_tag e size) prog)

    pub compact_erased : erased_of prog (block_at (not w) f.b0 f.b1) finished_log ≡ true
    compact_erased =
        let unit = carried_unit e prog (length x) 4 I is size compacts.sized.0 compacts.sized.1 compacts.laid
        compacts.rounded' carried in
        let fits = compact_fits e x (le32 x) (log x) (laid_behind e prog x) size rest compacts.compacts in
        rw finished_block
        (behind.compact_erased e prog compacts.sized.0 rev is (check_tag e size) rest
        (subst (λ (l : List Item). CommitFits e (crc all_ones (to_le32 rev)) all_ones l (check_tag e size) rest)
        (sym compacts.items) (rw compacts.next fits))
        (carried_aligned e prog (length x) 4 I is size compacts.sized.0 compacts.sized.1 compacts.laid
        compacts.rounded' carried)
        (omega (arith, unit, compacts.room, long)) compact_held)
      where
        long : length o ≡ length x
        long =
            let z = found_sized g b0 b1 n0 n1 count seed compact_found.0 compact_found.1 compact_found.2 in
            block_length g b0 b1 (not w) z ∙ sym (block_length g b0 b1 w z)

  pub compact_before : Shows g n0 n1 (rules_of rules) b0 b1 (machine_of (log x))
  compact_before = shows g b0 b1 n0 n1 count seed compact_found.0 compact_found.1 compact_found.2
      (rules_of rules) w place compacts.ruled

-- DEMAND 3, COMPACTION
pub stopped_compaction : (g : Geometry) (b0 b1 : List ℕ) (n0 n1 count seed rules e n : ℕ) → Bytes b0 → Bytes b1
    → CompactStopped g b0 b1 n0 n1 count seed rules e (compact_images g b0 b1 n0 n1 count seed rules e n).b0
    (compact_images g b0 b1 n0 n1 count seed rules e n).b1
stopped_compaction g b0 b1 n0 n1 count seed rules e n y0 y1 w rev is size h =
    let y = block_bytes w b0 b1 y0 y1 in
    record {
      either = compact_either g b0 b1 n0 n1 count seed rules e w rev is size h y n;
      old = compact_before g b0 b1 n0 n1 count seed rules e w rev is size h y;
      finished = compact_finished g b0 b1 n0 n1 count seed rules e w rev is size h y;
    }
