-- Document 01's acceptance of a compaction as one record of Booleans, and what follows of it: demand 3, and that the
-- lookups stay. Assumes nothing.
use Rattle.std.specs.Prelude.{◌≡◌, Bool, true, false, List, ℕ, ◌+◌, ◌^◌, ◌≤◌, ◌<◌, length, leb}
use Rattle.std.proofs.Common.{arith, leb-true}
use Rattle.format.specs.Word.{to_le32, all_ones, plus32}
use Rattle.format.specs.Tag.{tag_length}
use Rattle.format.specs.Kind.{no_slot}
use Rattle.format.specs.Crc.{crc}
use Rattle.format.specs.Walk.{Event}
use Rattle.format.specs.Log.{log}
use Rattle.format.specs.View.{at}
use Rattle.format.specs.Regular.{between, Regular}
use Rattle.format.specs.declared.Rules.TheVariants.{Document, Littlefs}
use Rattle.format.specs.Erased.{erased_fits, check_type}
use Rattle.format.specs.Commit.{check_tag, Item, items_hold}
use Rattle.format.specs.Stores.{compacted, compacting, coincides}
use Rattle.format.specs.Directory.{dir_of}
use Rattle.format.proofs.Tags.{of_size}
use Rattle.format.proofs.Erased.{erases, check_fits}
use Rattle.theory.specs.Walk.Step.{both_true}
use Rattle.theory.specs.Walk.Erased.{quiet_start}
use Rattle.theory.specs.Log.Stores.{CommitFits, commit_events}
use Rattle.theory.specs.Log.TwoBlocks.{view_at}
use Rattle.theory.specs.Directory.Machine.{most_slots}
use Rattle.theory.specs.Blocks.SlotItems.{OkSlots, ok_dir_of}
use Rattle.theory.specs.Blocks.Compact.{Still, compact_items, AfterCompact}
use Rattle.theory.proofs.Blocks.Compact.{compact_good, demand3_compact}
use Rattle.theory.specs.Blocks.OtherItems.{good_check}
use Rattle.theory.specs.Lookup.SlotCount.{length_dir_of}
use Rattle.theory.specs.Lookup.OnBlock.{RegularLog}
use Rattle.theory.specs.Rules.MadeItem.{AllMade}
use Rattle.theory.specs.Commit.Tested.{regular_log, regular_loads, regular_count, items_ok}
use Rattle.theory.specs.Commit.Acceptance.{no_coincidence}
use Rattle.theory.proofs.Compact.RegularAgain.{compact_regular}

-- ---- compaction of the block x, whose log is es and whose revision is v: ts are the entries that touch no slot (tail,
-- move state), `size` the check's, and m bytes e stay erased behind
pub record Compacts (e : ℕ) (x : List ℕ) (v : ℕ) (es : List Event) (ts : List Item) (size m : ℕ) : Type 0 where
  pub byte : erased_fits e ≡ true
  -- "-202 | the committed log isn't regular", by littlefs's rule, the wider one
  pub old : log x ≡ es
  pub regular : Regular Littlefs es ≡ true
  pub made : AllMade ts
  pub hold : items_hold (length (dir_of es)) ts ≡ true
  pub still : Still ts
  -- "Its size, 4 or more"
  pub check : between 4 1_022 size ≡ true
  -- "-28 | the rounded end passes the block"
  pub room : leb (tag_length (check_tag e size)) (8 + m) ≡ true
  -- "-204 | the checksum coincidence"
  pub lucky : coincides e (crc all_ones (to_le32 (plus32 v 1))) all_ones (compact_items (dir_of es) ts) (check_tag e size)
      ≡ false

module _ (e : ℕ) (x : List ℕ) (v : ℕ) (es : List Event) (ts : List Item) (size m : ℕ)
    (a : Compacts e x v es ts size m) where
  check_size_lem : (4 ≤ size) × (size ≤ 1_022)
  check_size_lem = let r = both_true (leb 4 size) (leb size 1_022) a.check in
      (leb-true 4 size r.0, leb-true size 1_022 r.1)

  was : RegularLog es
  was = regular_log x es a.old a.regular

  slots : OkSlots (dir_of es)
  slots = ok_dir_of es (regular_loads x es a.old a.regular)

  few : length (dir_of es) ≤ most_slots
  few = rw (length_dir_of es was.base.rules) (regular_count x es a.old a.regular)

  pub compact_fits : CommitFits e (crc all_ones (to_le32 (plus32 v 1))) all_ones (compact_items (dir_of es) ts)
      (check_tag e size)
      m
  compact_fits =
      record {
        byte = erases e a.byte;
        items = compact_good (dir_of es) ts slots (omega (arith, few))
            (items_ok ts (length (dir_of es)) a.made few a.hold).good;
        check = good_check e size check_size_lem.0 (omega (arith, check_size_lem.1));
        flips = check_fits e size (omega (arith, check_size_lem.1));
        room = leb-true (tag_length (check_tag e size)) (8 + m) a.room;
        start = quiet_start e (erases e a.byte);
        lucky = no_coincidence e (compact_items (dir_of es) ts) (crc all_ones (to_le32 (plus32 v 1))) all_ones
            (check_tag e size)
            a.lucky;
      }

  -- the new log is regular by document 01's rule: "for each id create"
  pub compacted_regular : Regular Document (commit_events (crc all_ones (to_le32 (plus32 v 1))) all_ones (compact_items
      (dir_of es) ts) (check_tag e size)) ≡ true
  compacted_regular =
      compact_regular (dir_of es) ts (crc all_ones (to_le32 (plus32 v 1))) all_ones (check_tag e size) slots few a.hold
      (rw (of_size (check_type e) no_slot size (omega (arith, check_size_lem.1))) a.check)

  -- DEMAND 3: x answers, at place w, and o is the other block
  module _ (w : Bool) (o : List ℕ) (answers : view_at w x o ≡ at w v es) (word : v < 2 ^ 32) where
    -- after n stores, the first of them the erase: the finished block, or the old view; and what the finished pair is
    pub compact_stopped : (n : ℕ) → AfterCompact w x v es (compact_items (dir_of es) ts) (check_tag e size)
        (compacting e o (plus32 v 1) (compact_items (dir_of es) ts) (check_tag e size) m n)
        (compacted e (plus32 v 1) (compact_items (dir_of es) ts) (check_tag e size) m)
    compact_stopped n = demand3_compact e w x o v es ts (check_tag e size) m n answers word
        (regular_loads x es a.old a.regular) few a.still compact_fits
