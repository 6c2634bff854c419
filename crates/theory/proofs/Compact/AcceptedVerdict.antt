-- An accepted verdict of a compaction is the acceptance that demand 3 rests on (Acceptance.antt), and so demand 3 for
-- its stores; and what the finished block's record keeps: tail, split mark and move state. Assumes nothing.
use Rattle.std.specs.Prelude.{◌≡◌, refl, Bool, not, cond, ltb, Err, Ok, Result, None}
use Rattle.std.proofs.Math.Path.{sym, ap}
use Rattle.std.proofs.Common.{subst, ◌∙◌}
use Rattle.std.proofs.Math.Bool.{true, false}
use mathlib.Core.List.{List, [], ◌++◌, append_assoc, map, reverse}
use Prim.Native.Nat.{ℕ, ◌+◌, ◌-◌, ◌^◌, ◌≤◌, ◌<◌, min}
use native.Mathlib.Omega.{arith}
use Rattle.std.proofs.Math.ListN.{length, length-append}
use borrow.Author.Tests.{le-leb, ltb-false, not-false}
use Rattle.format.specs.Word.{le32, to_le32, plus32, all_ones}
use Rattle.format.specs.Tag.{tag_length}
use Rattle.format.specs.Crc.{crc}
use Rattle.format.specs.Walk.{Event}
use Rattle.format.specs.Log.{log}
use Rattle.format.specs.Record.{count_of, no_tail, tail_of, split_of}
use Rattle.format.specs.View.{at}
use Rattle.format.specs.Fetch.{fetch_of}
use Rattle.format.specs.Regular.{Regular, rules_fit, rules_of}
use Rattle.format.specs.declared.Rules.{Rules}
use Rattle.format.specs.declared.Rules.TheVariants.{Littlefs}
use Rattle.format.specs.Directory.{dir_of, move_of}
use Rattle.format.specs.Commit.{Item, commit_bytes, check_tag, written}
use Rattle.format.specs.Erased.{erased_fits, erased}
use Rattle.format.specs.Stores.{entries_length, coincides, compact_bytes, compacted, compacting}
use Rattle.format.specs.Writer.{check_length, rounded_end, check_size, carried_for, forward_items, with_forward, block_at}
use Rattle.format.specs.Writer.{writes_fit, Images}
use Rattle.format.specs.Machine.{Machine, machine_of, ran}
use Rattle.format.specs.declared.LfsFcrc.{LfsFcrc}
use Rattle.format.specs.Compaction.{compaction_items, compact_check_at, CompactVerdict, compact_refused, compact_accepted}
use Rattle.format.specs.Compaction.{placed_anew, compactable, compact_fetched, compact_verdict, compact_stores, compacted_to}
use Rattle.format.specs.Compaction.{compact_images_after, compact_images}
use Rattle.format.specs.declared.Geometry.{Geometry}
use Rattle.format.specs.declared.LfsMdir.{LfsMdir}
use Rattle.format.specs.declared.Refusal.{Refusal}
use Rattle.format.specs.declared.Refusal.TheVariants.{Invalid, Irregular, NoSpace, Coincidence}
use Rattle.format.proofs.Words.{length_to_le32}
use Rattle.format.proofs.Growing.{widest}
use Rattle.theory.specs.Walk.Step.{both_true}
use Rattle.theory.specs.Walk.Erased.{length_erased}
use Rattle.theory.specs.Log.Stores.{commit_events}
use Rattle.theory.specs.Log.TwoBlocks.{view_at}
use Rattle.theory.specs.Blocks.Append.{length_commit}
use Rattle.theory.specs.Blocks.Compact.{compact_items, AfterCompact}
use Rattle.theory.proofs.Blocks.Compact.{compact_good}
use Rattle.theory.specs.Lookup.SlotCount.{length_dir_of}
use Rattle.theory.specs.Blocks.SlotItems.{OkSlots, ok_dir_of}
use Rattle.theory.specs.Directory.Machine.{most_slots}
use Rattle.theory.specs.Commit.Tested.{regular_log, regular_loads, regular_count, items_ok}
use Rattle.theory.specs.Rules.FetchCount.{regular_slots}
use Rattle.theory.specs.Walk.ReadBack.{AllGood}
use Rattle.theory.proofs.Compact.MoveCarried.{MoveOk, regular_move}
use Rattle.theory.proofs.Compact.Acceptance.{Compacts, compact_fits, compact_stopped}
use Rattle.theory.proofs.Compact.EntriesListed.{listed}
use Rattle.theory.proofs.Compact.BehindSlots.{behind_items, behind_loose, move_kept, tail_kept}
use Rattle.theory.specs.Rules.LooseEntry.{AllLoose, loose_app, loose_made, loose_hold, loose_still}
use Rattle.theory.specs.Fetch.FoundRecord.{found_answers}
use Rattle.theory.specs.Commit.AcceptedVerdict.{check_size_lem}
use Rattle.theory.specs.Directory.Rebuild.{rebuild}
use Rattle.theory.specs.Blocks.ActItems.{to_item}
use Rattle.theory.specs.Blocks.OtherItems.{check_length_lem}
use Rattle.theory.specs.Commit.MachineAfter.{commit_ran}
use Rattle.theory.specs.Commit.ForwardCheck.{silent_loose, carried_silent, with_ran}
use Rattle.theory.specs.Fetch.FoundBlock.{Sized, found_sized, view_rev}
use Rattle.format.specs.declared.Fetched.{Fetched}
use Rattle.format.specs.Record.{fetched}

-- ---- the tests, passed
pub past : (b : Bool) (r : Refusal) (v : CompactVerdict) (w : Bool) (rev : ℕ) (is : List Item) (size : ℕ)
    → cond b (compact_refused r) v ≡ compact_accepted w rev is size
    → (b ≡ false) × (v ≡ compact_accepted w rev is size)
past true r v w rev is size h = (cc, cc)
past false r v w rev is size h = (refl, h)

-- what compaction writes behind the slots of a log
abbrev pub behind_of : List Event → List Item
behind_of es = behind_items (split_of false es) (tail_of no_tail es) (move_of None es)

-- format's entries are the theory's
pub compaction_items_lem : (es : List Event) → compaction_items es ≡ compact_items (dir_of es) (behind_of es)
unfolding compaction_items
compaction_items_lem es = sym (listed (dir_of es) (behind_of es))

-- all that is laid behind the slots of the block x: the forward check, or none, comes last
abbrev pub laid_behind : ℕ → ℕ → List ℕ → List Item
laid_behind e prog x = behind_of (log x)
    ++ forward_items (carried_for e prog (length x) (compact_check_at (compaction_items (log x))))

pub laid_items : (e prog : ℕ) (x : List ℕ)
    → with_forward e prog (length x) 4 (compaction_items (log x)) ≡ compact_items (dir_of (log x)) (laid_behind e prog x)
unfolding with_forward compact_items
laid_items e prog x =
    let F : List Item = forward_items (carried_for e prog (length x) (compact_check_at (compaction_items (log x)))) in
    ap (λ (l : List Item). l ++ F) (compaction_items_lem (log x))
    ∙ append_assoc (map to_item (reverse (rebuild 0 (dir_of (log x)) []))) (behind_of (log x)) F

-- of a block whose log is regular, by littlefs's rule, the wider one: its slots are counted, and the entries are well
-- made
module _ (x : List ℕ) (regular : Regular Littlefs (log x) ≡ true) where
  slots_ok : OkSlots (dir_of (log x))
  slots_ok = ok_dir_of (log x) (regular_loads x (log x) refl regular)

  pub slots_counted : count_of 0 (log x) ≡ length (dir_of (log x))
  slots_counted = regular_slots (log x) regular
      ∙ sym (length_dir_of (log x) (regular_log x (log x) refl regular).base.rules)

  pub slots_few : length (dir_of (log x)) ≤ most_slots
  slots_few = rw (length_dir_of (log x) (regular_log x (log x) refl regular).base.rules)
      (regular_count x (log x) refl regular)

  module _ (e prog : ℕ) where
    laid_loose : AllLoose (laid_behind e prog x)
    laid_loose =
        let F : LfsFcrc = carried_for e prog (length x) (compact_check_at (compaction_items (log x))) in
        loose_app (behind_of (log x)) (forward_items F)
        (behind_loose (split_of false (log x)) (tail_of no_tail (log x)) (move_of None (log x))
        (regular_move x (log x) refl regular))
        (silent_loose (forward_items F) (carried_silent F))

    pub compaction_good : AllGood (with_forward e prog (length x) 4 (compaction_items (log x)))
    compaction_good =
        let ts : List Item = laid_behind e prog x in
        let ok = items_ok ts (length (dir_of (log x))) (loose_made ts laid_loose) slots_few
        (loose_hold ts (length (dir_of (log x))) laid_loose) in
        rw (laid_items e prog x) (compact_good (dir_of (log x)) ts slots_ok (omega (arith, slots_few)) ok.good)

-- the block x answers, o is the other; both are one block long
module _ (r : Rules) (e : ℕ) (byte : erased_fits e ≡ true) (prog : ℕ) (some : 4 ≤ prog) (most : prog ≤ 512)
    (x o : List ℕ) (long : length o ≡ length x) where
  -- what an accepted compaction of x is
  pub record Placed (second : Bool) (rev : ℕ) (is : List Item) (size : ℕ) (w : Bool) : Type 0 where
    pub place : second ≡ w
    pub next : rev ≡ plus32 (le32 x) 1
    pub items : is ≡ compact_items (dir_of (log x)) (laid_behind e prog x)
    pub laid : is ≡ with_forward e prog (length x) 4 (compaction_items (log x))
    pub rounded' : size ≡ check_size prog (compact_check_at is)
    pub room : compact_check_at is + check_length ≤ length o
    pub ruled : Regular r (log x) ≡ true
    pub compacts : Compacts e x (le32 x) (log x) (laid_behind e prog x) size
        (length o - (compact_check_at is + check_length))

  pub placed : (second w : Bool) (rev : ℕ) (is : List Item) (size : ℕ)
      → compactable r e prog second x (log x) ≡ compact_accepted w rev is size → Placed second rev is size w
  unfolding compactable placed_anew
  placed second w rev is size h =
      let es : List Event = log x in
      let ts : List Item = laid_behind e prog x in
      let I : List Item = with_forward e prog (length x) 4 (compaction_items es) in
      let p = past (not (Regular r es)) Irregular _ w rev is size h in
      let q = past (ltb (length x) (rounded_end prog (compact_check_at I))) NoSpace _ w rev is size p.1 in
      let c = past (coincides e (crc all_ones (to_le32 (plus32 (le32 x) 1))) all_ones I
      (check_tag e (check_size prog (compact_check_at I)))) Coincidence _ w rev is size q.1 in
      let regular : Regular Littlefs es ≡ true = widest r es (not-false _ p.0) in
      let loose = laid_loose x regular e prog in
      let k = check_size_lem prog (compact_check_at I) some most in
      let fits : rounded_end prog (compact_check_at I) ≤ length o =
      rw long (ltb-false (length x) (rounded_end prog (compact_check_at I)) q.0) in
      let same : I ≡ is = cc in
      let sized : check_size prog (compact_check_at I) ≡ size = cc in
      record {
        place = cc;
        next = cc;
        items = sym same ∙ laid_items e prog x;
        laid = sym same;
        rounded' = rw (← sized, ← same) refl;
        room = rw (← same) (omega (arith, fits, k.2, k.0));
        ruled = not-false _ p.0;
        compacts =
            rw (← sized, ← same)
            (record {
              byte = byte;
              old = refl;
              regular = regular;
              made = loose_made ts loose;
              hold = loose_hold ts (length (dir_of es)) loose;
              still = loose_still ts loose;
              check = rw (
                le-leb 4 (check_size prog (compact_check_at I)) k.0,
                le-leb (check_size prog (compact_check_at I)) 1_022 k.1,
              );
              room = le-leb (tag_length (check_tag e (check_size prog (compact_check_at I))))
                  (8 + (length o - (compact_check_at I + check_length)))
                  (omega (
                    arith,
                    fits,
                    k.2,
                    k.0,
                    check_length_lem e (check_size prog (compact_check_at I)) (omega
                        (arith, k.1)),
                  ));
              lucky = ap (λ (l : List Item). coincides e (crc all_ones (to_le32 (plus32 (le32 x) 1))) all_ones l
                  (check_tag e (check_size prog (compact_check_at I)))) (sym (laid_items e prog x))
                  ∙ c.0;
            });
      }

-- ---- the verdict
pub found_then : (r : Rules) (e prog : ℕ) (b0 b1 : List ℕ) (n0 : ℕ) (f : Result Fetched Refusal) (w : Bool) (rev : ℕ) (is : List Item)
    (size : ℕ) → compact_fetched r e prog b0 b1 n0 f ≡ compact_accepted w rev is size
    → (m : LfsMdir) × (s : ℕ) × (f ≡ Ok (fetched m s))
found_then r e prog b0 b1 n0 (Err q) w rev is size h = absurd (let z : ◌≡◌ {A = ℕ} 0 1 = cc in omega arith)
found_then r e prog b0 b1 n0 (Ok f) w rev is size h = (f.dir, f.seed, refl)

-- an accepted compaction: the block x at place w answers and o, the other, is written
pub record CompactsTo (r : Rules) (e : ℕ) (g : Geometry) (b0 b1 : List ℕ) (w : Bool) (rev : ℕ) (is : List Item)
    (size : ℕ) : Type 0 where
  pub answers : view_at w (block_at w b0 b1) (block_at (not w) b0 b1) ≡ at w (le32 (block_at w b0 b1))
      (log (block_at w b0 b1))
  pub next : rev ≡ plus32 (le32 (block_at w b0 b1)) 1
  pub sized : (4 ≤ g.prog_size) × (g.prog_size ≤ 512)
  pub items : is ≡ compact_items (dir_of (log (block_at w b0 b1))) (laid_behind e g.prog_size (block_at w b0 b1))
  pub laid : is ≡ with_forward e g.prog_size (length (block_at w b0 b1)) 4 (compaction_items (log (block_at w b0 b1)))
  pub rounded' : size ≡ check_size g.prog_size (compact_check_at is)
  pub room : compact_check_at is + check_length ≤ length (block_at (not w) b0 b1)
  pub ruled : Regular r (log (block_at w b0 b1)) ≡ true
  pub compacts : Compacts e (block_at w b0 b1) (le32 (block_at w b0 b1)) (log (block_at w b0 b1))
      (laid_behind e g.prog_size (block_at w b0 b1)) size
      (length (block_at (not w) b0 b1) - (compact_check_at is + check_length))

module _ (g : Geometry) (b0 b1 : List ℕ) (n0 n1 count seed rules e : ℕ) (w : Bool) (rev : ℕ) (is : List Item) (size : ℕ)
    (h : compact_verdict g b0 b1 n0 n1 count seed rules e ≡ compact_accepted w rev is size) where
  pub accepted_compaction : CompactsTo (rules_of rules) e g b0 b1 w rev is size
  unfolding compact_verdict
  accepted_compaction =
      let v = past (not (writes_fit rules e)) Invalid _ w rev is size h in
      let k = v.1 in
      let byte = (both_true (rules_fit rules) (erased_fits e) (not-false _ v.0)).1 in
      let f = found_then (rules_of rules) e g.prog_size b0 b1 n0
      (fetch_of g b0 b1 n0 n1 count seed) w rev is size k in
      let z = found_sized g b0 b1 n0 n1 count seed f.0 f.1 f.2 in
      let a = found_answers g b0 b1 n0 n1 count seed f.0 f.1 f.2 in
      let t : compactable (rules_of rules) e g.prog_size a.w (block_at a.w b0 b1) (log (block_at a.w b0 b1))
      ≡ compact_accepted w rev is size =
      rw (f.2, a.place) at k in
      let same = lengths a.w z in
      let p = placed (rules_of rules) e byte g.prog_size z.prog.0 z.prog.1 (block_at a.w b0 b1)
      (block_at (not a.w) b0 b1) same
      a.w w rev is size t in
      rw (← p.place)
      (record {
        answers = a.answers ∙ ap (λ (v : ℕ). at a.w v (log (block_at a.w b0 b1)))
            (view_rev a.w (block_at a.w b0 b1) (block_at (not a.w) b0 b1) a.rev _ a.answers);
        next = p.next;
        sized = z.prog;
        items = p.items;
        laid = p.laid;
        rounded' = p.rounded';
        room = p.room;
        ruled = p.ruled;
        compacts = p.compacts;
      })
    where
      lengths : (v : Bool) → Sized g b0 b1 → length (block_at (not v) b0 b1) ≡ length (block_at v b0 b1)
      lengths false z = z.second ∙ sym z.first
      lengths true z = z.first ∙ sym z.second

  -- the two blocks, the erased bytes behind the commit, and the log that is finished
  abbrev x : List ℕ
  x = block_at w b0 b1

  abbrev o : List ℕ
  o = block_at (not w) b0 b1

  abbrev rest : ℕ
  rest = length o - (compact_check_at is + check_length)

  abbrev finished : List ℕ
  finished = compacted e rev is (check_tag e size) rest

  abbrev finished_log : List Event
  finished_log = commit_events (crc all_ones (to_le32 rev)) all_ones is (check_tag e size)

  -- the images after n stores: only the block that did not answer is altered
  pub compaction_written : (n : ℕ)
      → (block_at (not w) (compact_images g b0 b1 n0 n1 count seed rules e n).b0
      (compact_images g b0 b1 n0 n1 count seed rules e n).b1
      ≡ compacted_to e o rev is size n)
      × (block_at w (compact_images g b0 b1 n0 n1 count seed rules e n).b0
      (compact_images g b0 b1 n0 n1 count seed rules e n).b1 ≡ x)
  unfolding compact_images
  compaction_written n = rw h (go w)
    where
      go : (v : Bool) → (let i : Images = compact_images_after e n b0 b1 (compact_accepted v rev is size) in
          (block_at (not v) i.b0 i.b1 ≡ compacted_to e (block_at (not v) b0 b1) rev is size n)
          × (block_at v i.b0 i.b1 ≡ block_at v b0 b1))
      go false = (refl, refl)
      go true = (refl, refl)

  -- the finished bytes are as many as the block's
  pub compaction_length : length finished ≡ length o
  unfolding compacted compact_bytes
  compaction_length =
      let a = accepted_compaction in
      let good = (compact_fits e x (le32 x) (log x) (laid_behind e g.prog_size x) size rest a.compacts).items in
      let sum : ℕ = crc all_ones (to_le32 rev) in
      let n : length (commit_bytes sum all_ones is (check_tag e size)) ≡ entries_length is + 8 =
      length_commit is sum all_ones (check_tag e size) (rw a.items good) in
      rw (
        length-append (to_le32 rev ++ commit_bytes sum all_ones is (check_tag e size)) (erased e rest),
        length-append (to_le32 rev) (commit_bytes sum all_ones is (check_tag e size)),
        length_to_le32 rev,
        n,
        length_erased e
            rest,
      )
      (omega (arith, a.room))

  -- DEMAND 3: after n stores, the finished block or the old view; what the finished pair is, and that its directory is
  -- the old one
  pub compaction_stopped : le32 x < 2 ^ 32 → (n : ℕ)
      → AfterCompact w x (le32 x) (log x) is (check_tag e size) (compacted_to e o rev is size n) finished
  compaction_stopped word n =
      let a = accepted_compaction in
      let k : ℕ = min n (compact_stores is) in
      rw a.next
      (subst (λ (l : List Item). AfterCompact w x (le32 x) (log x) l (check_tag e size)
      (compacting e o (plus32 (le32 x) 1) l (check_tag e size) rest k)
      (compacted e (plus32 (le32 x) 1) l (check_tag e size) rest))
      (sym a.items) (compact_stopped e x (le32 x) (log x) (laid_behind e g.prog_size x) size rest
      a.compacts w o
      a.answers word k))

  -- the finished record's tail, split mark and move state are the old ones
  pub compaction_keeps : (tail_of no_tail finished_log ≡ tail_of no_tail (log x))
      × (split_of false finished_log ≡ split_of false (log x))
      × (move_of None finished_log ≡ move_of None (log x))
  compaction_keeps =
      let a = accepted_compaction in
      let es : List Event = log x in
      let regular : Regular Littlefs (log x) ≡ true = a.compacts.regular in
      let ok : OkSlots (dir_of es) = slots_ok x regular in
      let few : length (dir_of es) ≤ most_slots = slots_few x regular in
      let mv : MoveOk (move_of None es) = regular_move x es refl regular in
      let s : ℕ = crc all_ones (to_le32 rev) in
      let ct : ℕ = check_tag e size in
      let I : List Item = compact_items (dir_of es) (behind_of es) in
      let bare : machine_of (commit_events s all_ones is ct) ≡ machine_of (commit_events s all_ones I ct) =
      commit_ran [] s all_ones is ct
      ∙ ap (λ (l : List Item). ran (machine_of []) (written l [])) a.laid
      ∙ with_ran e g.prog_size (length x) 4 (compaction_items es) (machine_of [])
      ∙ ap (λ (l : List Item). ran (machine_of []) (written l [])) (compaction_items_lem es)
      ∙ sym (commit_ran [] s all_ones I ct) in
      let t = tail_kept (dir_of es) (split_of false es) (tail_of no_tail es) (move_of None es) s all_ones ct ok few
      mv in (
        ap (λ (M : Machine). M.tail) bare ∙ t.0,
        ap (λ (M : Machine). M.split) bare ∙ t.1,
        ap (λ (M : Machine). M.move) bare
            ∙ move_kept (dir_of es) (split_of false es) (tail_of no_tail es) (move_of None es) s all_ones ct ok few mv,
      )
