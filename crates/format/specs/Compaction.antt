-- Document 01, The added writer: compaction. It "erases the block that fetch did not answer from", to the erased byte,
-- "and writes revision plus one (wrapping) and one commit". Which are accepted, what is stored, and what both calls
-- answer and leave. Assumes nothing.
use Rattle.std.specs.Prelude.{Bool, true, false, not, cond, ◌&&◌, List, [], ◌∷◌, ◌++◌, ℕ, zero, suc, ◌+◌, ◌-◌, min, length, ltb, eqb, Err, None, Ok, Option, Result, Some}
use Rattle.format.specs.Word.{le32, to_le32, plus32, all_ones}
use Rattle.format.specs.Kind.{type_create, type_tail, type_hard_tail, no_slot}
use Rattle.format.specs.Crc.{crc}
use Rattle.format.specs.Walk.{Event}
use Rattle.format.specs.Log.{log}
use Rattle.format.specs.Record.{no_tail, tail_of, split_of}
use Rattle.format.specs.Fetch.{fetch_of}
use Rattle.format.specs.Regular.{Regular, rules_of}
use Rattle.format.specs.Directory.{classes, Load, Slot, dir_of, move_of}
use Rattle.format.specs.Tag.{tag_of}
use Rattle.format.specs.Commit.{Item, check_tag}
use Rattle.format.specs.Stores.{entries_length, coincides, compacting}
use Rattle.format.specs.Writer.{check_length, rounded_end, check_size, block_at, is_second, Images, images}
use Rattle.format.specs.Writer.{with_forward, writes_fit, unlimited}
use Rattle.format.specs.declared.Geometry.{Geometry}
use Rattle.format.specs.declared.LfsPair.{LfsPair}
use Rattle.format.specs.declared.Rules.{Rules}
use Rattle.format.specs.declared.Refusal.{Refusal}
use Rattle.format.specs.declared.Refusal.TheVariants.{Invalid, Irregular, NoSpace, Coincidence}
use Rattle.format.specs.declared.Fetched.{Fetched}

-- ---- the entries, in order
-- what stands under a class, as an entry of the id; nothing where nothing stands there
abbrev pub class_items : ℕ → Option Load → List Item
class_items id None = []
class_items id (Some v) = record { tag = tag_of v.type id (length v.bytes); body = v.bytes } ∷ []

-- "newest name .., struct .., user attributes by rising type": what a slot holds under n classes from c on
unfoldable pub slot_items : ℕ → ℕ → ℕ → Slot → List Item
slot_items zero c id s = []
slot_items (suc n) c id s = class_items id (s c) ++ slot_items n (suc c) id s

-- "for each id create", and what the slot holds
unfoldable pub dir_items : ℕ → List Slot → List Item
dir_items id [] = []
dir_items id (s ∷ D) = (record { tag = tag_of type_create id 0; body = [] } ∷ slot_items classes 0 id s)
    ++ dir_items (suc id) D

-- "then tail unless it is soft and both 0xffffffff"
abbrev pub is_no_tail : Bool → LfsPair → Bool
is_no_tail split p = not split && eqb p.n0 all_ones && eqb p.n1 all_ones

abbrev pub tail_items : Bool → LfsPair → List Item
tail_items split p =
    cond (is_no_tail split p) []
    (record { tag = tag_of (cond split type_hard_tail type_tail) no_slot 8; body = to_le32 p.n0 ++ to_le32 p.n1 }
    ∷ [])

-- "then move state if found"
abbrev pub move_items : Option Load → List Item
move_items v = class_items no_slot v

unfoldable pub compaction_items : List Event → List Item
compaction_items es = dir_items 0 (dir_of es) ++ (tail_items (split_of false es) (tail_of no_tail es)
    ++ move_items (move_of None es))

-- ---- which compactions are accepted Refused, or accepted: whether the second block answers (so that the first is
-- written), the new revision, the entries, their check's size.
pub data CompactVerdict : Type 0 where
  compact_refused : Refusal → CompactVerdict
  compact_accepted : Bool → ℕ → List Item → ℕ → CompactVerdict

-- The check tag stands behind revision and entries.
abbrev pub compact_check_at : List Item → ℕ
compact_check_at is = 4 + entries_length is

-- "-28 | the rounded end passes the block", "-204 | the checksum coincidence"
unfoldable pub placed_anew : ℕ → ℕ → ℕ → Bool → ℕ → List Item → CompactVerdict
placed_anew e prog block second rev is =
    cond (ltb block (rounded_end prog (compact_check_at is))) (compact_refused NoSpace)
    (cond (coincides e (crc all_ones (to_le32 rev)) all_ones is (check_tag e (check_size prog (compact_check_at is))))
    (compact_refused Coincidence)
    (compact_accepted second rev is (check_size prog (compact_check_at is))))

-- "-202 | the committed log isn't regular"; "revision plus one (wrapping)"; the entries begin behind it, and the
-- forward check stands behind them as in a commit: "compaction included"
unfoldable pub compactable : Rules → ℕ → ℕ → Bool → List ℕ → List Event → CompactVerdict
compactable r e prog second b es =
    cond (not (Regular r es)) (compact_refused Irregular)
    (placed_anew e prog (length b) second (plus32 (le32 b) 1) (with_forward e prog (length b) 4 (compaction_items es)))

-- "Compaction: the same without -201 and -203": -22 of the sizes and numbers, and fetch's own refusals, come from fetch
abbrev pub compact_fetched : Rules → ℕ → ℕ → List ℕ → List ℕ → ℕ → Result Fetched Refusal → CompactVerdict
compact_fetched r e prog b0 b1 n0 (Err q) = compact_refused q
compact_fetched r e prog b0 b1 n0 (Ok f) =
    compactable r e prog (is_second n0 f.dir) (block_at (is_second n0 f.dir) b0 b1) (log (block_at (is_second n0 f.dir) b0 b1))

unfoldable pub compact_verdict : Geometry → List ℕ → List ℕ → ℕ → ℕ → ℕ → ℕ → ℕ → ℕ → CompactVerdict
compact_verdict g b0 b1 n0 n1 count seed rules e =
    cond (not (writes_fit rules e)) (compact_refused Invalid)
    (compact_fetched (rules_of rules) e g.prog_size b0 b1 n0 (fetch_of g b0 b1 n0 n1 count seed))

-- ---- what both calls leave and answer
-- the stores: the erase, the revision, the entries, check tag and checksum; "padding isn't stored"
abbrev pub compact_stores : List Item → ℕ
compact_stores is = 1 + compact_check_at is + check_length

-- the block o after the first n of them
abbrev pub compacted_to : ℕ → List ℕ → ℕ → List Item → ℕ → ℕ → List ℕ
compacted_to e o rev is size n = compacting e o rev is (check_tag e size) (length o - (compact_check_at is + check_length))
    (min n (compact_stores is))

abbrev pub compact_images_after : ℕ → ℕ → List ℕ → List ℕ → CompactVerdict → Images
compact_images_after e n b0 b1 (compact_refused r) = images b0 b1
compact_images_after e n b0 b1 (compact_accepted false rev is size) = images b0 (compacted_to e b1 rev is size n)
compact_images_after e n b0 b1 (compact_accepted true rev is size) = images (compacted_to e b0 rev is size n) b1

abbrev pub compact_answer : Result Fetched Refusal → CompactVerdict → Result Fetched Refusal
compact_answer f (compact_refused r) = Err r
compact_answer f (compact_accepted second rev is size) = f

abbrev pub compact_made : ℕ → CompactVerdict → Result ℕ Refusal
compact_made n (compact_refused r) = Err r
compact_made n (compact_accepted second rev is size) = Ok (min n (compact_stores is))

module _ (g : Geometry) (b0 b1 : List ℕ) (n0 n1 count seed rules e : ℕ) where
  -- the images after n stores: of the call with a limit, and, all stores made, of `lfs_dir_compact`
  unfoldable pub compact_images : ℕ → Images
  compact_images n = compact_images_after e n b0 b1 (compact_verdict g b0 b1 n0 n1 count seed rules e)

  -- `lfs_dir_compact`: "An accepted call answers what fetch gives on the finished pair from the same seed."
  unfoldable pub compact_of : Result Fetched Refusal
  compact_of =
      compact_answer (fetch_of g (compact_images unlimited).b0 (compact_images unlimited).b1 n0 n1 count seed)
      (compact_verdict g b0 b1 n0 n1 count seed rules e)

  -- `lfs_dir_compact_stores`
  unfoldable pub compact_stores_of : ℕ → Result ℕ Refusal
  compact_stores_of n = compact_made n (compact_verdict g b0 b1 n0 n1 count seed rules e)
