-- Compaction: its entries give the directory back, and demand 3 for its stores. Assumes nothing.
use Rattle.std.specs.Prelude.{◌≡◌, Bool, List, [], ◌∷◌, ◌++◌, reverse, map, ℕ, ◌^◌, ◌≤◌, ◌<◌, length}
use Rattle.std.proofs.Common.{◌∙◌, arith}
use Rattle.std.proofs.lemmas.List.{reverse-reverse}
use Rattle.format.specs.Word.{to_le32, all_ones, plus32}
use Rattle.format.specs.Crc.{crc}
use Rattle.format.specs.Walk.{Event}
use Rattle.format.specs.View.{at}
use Rattle.format.specs.Commit.{Item}
use Rattle.format.specs.Stores.{compacted, compacting}
use Rattle.format.specs.Directory.{Slot, Act, dir, acts, dir_of, apply_all}
use Rattle.theory.specs.Walk.ReadBack.{AllGood}
use Rattle.theory.specs.Log.Stores.{CommitFits}
use Rattle.theory.specs.Log.TwoBlocks.{view_at}
use Rattle.theory.proofs.Log.TwoBlocks.{crash_compact, done_compact}
use Rattle.theory.specs.Directory.Machine.{most_slots}
use Rattle.theory.specs.Directory.Rebuild.{rebuild}
use Rattle.theory.proofs.Directory.Rebuild.{rebuilt}
use Rattle.theory.specs.Directory.Acts.{apply_all_app, dir_rev}
use Rattle.theory.specs.Blocks.Append.{item_acts, commit_dir}
use Rattle.theory.specs.Blocks.ActItems.{to_item, items_good, ok_rev, AllOk, items_acts}
use Rattle.theory.specs.Blocks.SlotItems.{OkSlots, rebuild_ok, all_held, PutsOk, ok_dir_of}
use Rattle.theory.specs.Blocks.Compact.{AfterCompact, Still, compact_items, item_acts_app, still}

pub compact_good : (D : List Slot) (ts : List Item) → OkSlots D → length D ≤ 2 ^ 10 → AllGood ts
    → AllGood (compact_items D ts)
unfolding compact_items
compact_good D ts ok h g = good_app (map to_item (reverse (rebuild 0 D [])))
    (items_good (reverse (rebuild 0 D [])) (ok_rev (rebuild 0 D []) [] (rebuild_ok D 0 [] ok (omega arith) tt) tt))
  where
    good_app : (is : List Item) → AllGood is → AllGood (is ++ ts)
    good_app [] h = g
    good_app (i ∷ is) h = (h.0, good_app is h.1)

-- applied to nothing they give D
pub compact_acts : (D : List Slot) (ts : List Item) → OkSlots D → length D ≤ 2 ^ 10 → Still ts
    → apply_all [] (item_acts (compact_items D ts)) ≡ D
unfolding compact_items dir
compact_acts D ts ok h st =
    let R : List Act = rebuild 0 D [] in
    let okr : AllOk (reverse R) = ok_rev R [] (rebuild_ok D 0 [] ok (omega arith) tt) tt in
    rw (
      item_acts_app (map to_item (reverse R)) ts,
      items_acts (reverse R) okr,
      apply_all_app [] (reverse R) (item_acts ts),
      ← dir_rev (reverse R) [],
      reverse-reverse R,
      rebuilt D (all_held D ok),
    )
    (still ts D st)

pub demand3_compact : (e : ℕ) (w : Bool) (x o : List ℕ) (v : ℕ) (es : List Event) (ts : List Item) (ct m n : ℕ)
    → view_at w x o ≡ at w v es → v < 2 ^ 32 → PutsOk (acts es) → length (dir_of es) ≤ most_slots → Still ts
    → CommitFits e (crc all_ones (to_le32 (plus32 v 1))) all_ones (compact_items (dir_of es) ts) ct m
    → AfterCompact w x v es (compact_items (dir_of es) ts) ct
    (compacting e o (plus32 v 1) (compact_items (dir_of es) ts) ct m n)
    (compacted e (plus32 v 1) (compact_items (dir_of es) ts) ct m)
unfolding dir_of dir acts
demand3_compact e w x o v es ts ct m n h small ok few st f =
    record {
      either = crash_compact e w x o v es (compact_items (dir_of es) ts) ct m n h f;
      finished = done_compact e w x o v es (compact_items (dir_of es) ts) ct m h small f;
      same = commit_dir [] (crc all_ones (to_le32 (plus32 v 1))) all_ones (compact_items (dir_of es) ts) ct
          ∙ compact_acts (dir_of es) ts (ok_dir_of es ok) (omega arith) st;
    }
