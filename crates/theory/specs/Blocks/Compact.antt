-- Compaction: its entries, its stores, and the record of demand 3. That the entries give the directory back, and
-- demand 3, are proved in proofs/Blocks/Compact.antt. Assumes nothing.
use Rattle.std.specs.Prelude.{◌≡◌, refl, ◌⊎◌, Bool, not, List, [], ◌∷◌, ◌++◌, reverse, map, ℕ, suc, ◌+◌, ◌-◌, ◌≤◌, length, take}
use Rattle.std.proofs.Common.{sym, ap, ap₂, ◌∙◌, zero-add, arith, length-append}
use Rattle.std.proofs.Math.Seq.{paste}
use Rattle.format.specs.Word.{to_le32, all_ones, plus32}
use Rattle.format.specs.Crc.{crc}
use Rattle.format.specs.Walk.{Event}
use Rattle.format.specs.View.{at}
use Rattle.format.specs.Commit.{Item, commit_bytes}
use Rattle.format.specs.Erased.{erased}
use Rattle.format.specs.Stores.{entries_length, compact_bytes, compacting}
use Rattle.format.specs.Directory.{skip, Slot, apply, act, dir_of, apply_all}
use Rattle.format.proofs.Words.{length_to_le32}
use Rattle.theory.specs.Walk.ReadBack.{AllGood}
use Rattle.theory.specs.Walk.Erased.{drop_erased_is}
use Rattle.theory.specs.Log.Stores.{commit_events}
use Rattle.theory.specs.Log.TwoBlocks.{view_at}
use Rattle.theory.specs.Directory.Rebuild.{rebuild}
use Rattle.theory.specs.Blocks.Append.{item_acts, length_commit, fill_take}
use Rattle.theory.specs.Blocks.ActItems.{to_item}

-- entries that do not touch the slots: tail, move state
abbrev pub Still : List Item → Type 0
Still [] = Unit {0}
Still (i ∷ is) = (act i.tag i.body ≡ skip) × Still is

pub still : (is : List Item) (D : List Slot) → Still is → apply_all D (item_acts is) ≡ D
unfolding item_acts apply_all apply
still [] D h = refl
still (i ∷ is) D h = rw h.0 (still is D h.1)

pub item_acts_app : (is js : List Item) → item_acts (is ++ js) ≡ item_acts is ++ item_acts js
unfolding item_acts
item_acts_app [] js = refl
item_acts_app (i ∷ is) js = ap (λ z. act i.tag i.body ∷ z) (item_acts_app is js)

-- the entries that compaction writes for a directory D
unfoldable pub compact_items : List Slot → List Item → List Item
compact_items D ts = map to_item (reverse (rebuild 0 D [])) ++ ts

-- ---- DEMAND 3, COMPACTION. x is the answering block, at place w; o the other; n stores, the first the erase.
pub record AfterCompact (w : Bool) (x : List ℕ) (v : ℕ) (es : List Event) (is : List Item) (ct : ℕ)
    (image done : List ℕ) : Type 0 where
  pub either : (image ≡ done) ⊎ (view_at w x image ≡ at w v es)
  pub finished : view_at w x done ≡ at (not w) (plus32 v 1)
      (commit_events (crc all_ones (to_le32 (plus32 v 1))) all_ones is ct)
  pub same : dir_of (commit_events (crc all_ones (to_le32 (plus32 v 1))) all_ones is ct) ≡ dir_of es

-- DEMAND 3, COMPACTION: the stores. After the erase, k single bytes rising over a block of B erased bytes
pub compact_stores_lem : (e B rev : ℕ) (o : List ℕ) (is : List Item) (ct k : ℕ) → AllGood is
    → 4 + (entries_length is + 8) ≤ B
    → k ≤ 4 + (entries_length is + 8)
    → compacting e o rev is ct (B - (4 + (entries_length is + 8))) (suc k)
    ≡ paste (erased e B) 0 (compact_bytes rev is ct) k
unfolding compacting compact_bytes
compact_stores_lem e B rev o is ct k g fits h =
    let N : List ℕ = to_le32 rev ++ commit_bytes (crc all_ones (to_le32 rev)) all_ones is ct in
    let l : length N ≡ 4 + (entries_length is + 8) =
    length-append (to_le32 rev) (commit_bytes (crc all_ones (to_le32 rev)) all_ones is ct)
    ∙ ap₂ (λ x y. x + y) (length_to_le32 rev) (length_commit is (crc all_ones (to_le32 rev)) all_ones ct g) in
    fill_take e k N (B - (4 + (entries_length is + 8))) (B - k) (omega arith) (omega arith)
    ∙ ap (λ z. take k N ++ z) (sym (rw (zero-add k) (drop_erased_is e k B (B - k) (omega arith) refl)))
