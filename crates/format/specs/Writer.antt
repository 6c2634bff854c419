-- Document 01, The added writer: which commits are accepted, what an accepted one stores, and what both calls answer
-- and leave. Assumes nothing.
use Rattle.std.specs.Prelude.{Bool, true, false, not, cond, ◌&&◌, List, [], ◌∷◌, ◌++◌, ℕ, ◌+◌, ◌-◌, min, length, leb, ltb, eqb, Err, Ok, Result}
use Rattle.format.specs.Word.{to_le32, all_ones}
use Rattle.format.specs.Tag.{tag_of}
use Rattle.format.specs.Kind.{type_forward, no_slot}
use Rattle.format.specs.Crc.{crc}
use Rattle.format.specs.Walk.{Event}
use Rattle.format.specs.Log.{log, log_end, log_end_tag}
use Rattle.format.specs.Record.{count_of, no_forward}
use Rattle.format.specs.Arith.{down_to}
use Rattle.format.specs.Fetch.{pair_fits, fetch_of}
use Rattle.format.specs.Regular.{Regular, rules_fit, rules_of}
use Rattle.format.specs.Erased.{erased_fits, erased}
use Rattle.format.specs.Commit.{Item, check_tag}
use Rattle.format.specs.Stores.{entries_length, appending, coincides}
use Rattle.format.specs.Room.{room_of}
use Rattle.format.specs.Entries.{items_of, Judged, judge, bad, good}
use Rattle.format.specs.declared.Geometry.{Geometry}
use Rattle.format.specs.declared.LfsFcrc.{LfsFcrc}
use Rattle.format.specs.declared.LfsMdir.{LfsMdir}
use Rattle.format.specs.declared.Entry.{Entry}
use Rattle.format.specs.declared.Rules.{Rules}
use Rattle.format.specs.declared.Refusal.{Refusal}
use Rattle.format.specs.declared.Refusal.TheVariants.{Invalid, BadEntry, Irregular, NoSpace, Coincidence}
use Rattle.format.specs.declared.Fetched.{Fetched}
use Rattle.format.specs.Record.{fetched}

-- ---- the check
-- A check's tag and checksum take eight bytes.
abbrev pub check_length : ℕ
check_length = 8

-- Where a commit ends whose check tag stands at `at`: "on a multiple of the program size", the next one behind tag and
-- checksum.
unfoldable pub rounded_end : ℕ → ℕ → ℕ
rounded_end prog at = down_to (at + check_length + (prog - 1)) prog

-- "Its size, 4 or more, is the least that ends on a multiple of the program size": what is between the tag's four bytes
-- and that end.
unfoldable pub check_size : ℕ → ℕ → ℕ
check_size prog at = rounded_end prog at - (at + 4)

-- ---- the forward check: document 02, L5
-- "a forward check entry: program size and the checksum of that erased unit", as fetch sums it: "from 0xffffffff over
-- that many bytes from the end"
abbrev pub unit_check : ℕ → ℕ → LfsFcrc
unit_check e prog = record { seen = true; size = prog; sum = crc all_ones (erased e prog) }

-- As an entry it is what fetch reads, "forward check 0x5ff .. 8 bytes .. length and checksum", and what is regular:
-- "forward checks (id 1,023, length 8)".
abbrev pub forward_tag : ℕ
forward_tag = tag_of type_forward no_slot 8

abbrev pub forward_item : LfsFcrc → Item
forward_item f = record { tag = forward_tag; body = to_le32 f.size ++ to_le32 f.sum }

-- "Document 01's bytes and space rule change by these 12 bytes": tag and data
abbrev pub forward_length : ℕ
forward_length = 12

-- "When at least one whole program unit follows the new end, counted with the added bytes": the rounded end with the
-- twelve bytes, plus one program unit, is at most the block size. `at` is where the entries end.
unfoldable pub carries : ℕ → ℕ → ℕ → Bool
carries prog block at = leb (rounded_end prog (at + forward_length) + prog) block

-- the forward check that a commit carries, or none
unfoldable pub carried_for : ℕ → ℕ → ℕ → ℕ → LfsFcrc
carried_for e prog block at = cond (carries prog block at) (unit_check e prog) no_forward

abbrev pub forward_items : LfsFcrc → List Item
forward_items f = cond f.seen (forward_item f ∷ []) []

-- What is laid "before its check tag": the entries, which begin at `from`, and the forward check, or none.
unfoldable pub with_forward : ℕ → ℕ → ℕ → ℕ → List Item → List Item
with_forward e prog block from is = is ++ forward_items (carried_for e prog block (from + entries_length is))

-- ---- where the check stands, and the stores
-- where the check tag stands, of a commit of these entries behind the log es
abbrev pub check_at : List Event → List Item → ℕ
check_at es is = log_end es + entries_length is

-- the stores of a commit: its entries' bytes, check tag and checksum; "padding isn't stored"
abbrev pub all_stores : List Item → ℕ
all_stores is = entries_length is + check_length

-- ---- which commits are accepted
-- "Lookup buffer and entry data at most 65,536 bytes each; at most 8,192 entries"
abbrev pub most_data : ℕ
most_data = 65_536

abbrev pub most_entries : ℕ
most_entries = 8_192

-- how a call writes: which rule, and the erased byte e
abbrev pub writes_fit : ℕ → ℕ → Bool
writes_fit rules e = rules_fit rules && erased_fits e

-- the sizes and numbers, and how it writes
unfoldable pub commit_fits : Geometry → ℕ → ℕ → ℕ → ℕ → ℕ → ℕ → ℕ → ℕ → Bool
commit_fits g length0 length1 n0 n1 rules e entries bytes = pair_fits g length0 length1 n0 n1 && leb bytes most_data
    && leb entries most_entries && writes_fit rules e

-- A call is refused, or accepted: whether the second block answers, and so is appended to, the entries that are laid,
-- and their check's size.
pub data Verdict : Type 0 where
  refused : Refusal → Verdict
  accepted : Bool → List Item → ℕ → Verdict

-- the block that answers, of the first and the second
abbrev pub block_at : Bool → List ℕ → List ℕ → List ℕ
block_at false b0 b1 = b0
block_at true b0 b1 = b1

-- The room refuses, or the tests go on.
abbrev pub room_then : Result Unit Refusal → Verdict → Verdict
room_then (Err r) v = refused r
room_then (Ok x) v = v

-- The tests of what is to be laid, in document 01's order: "-28, -203, -204", and for -203 the room's reasons. b is the
-- block that answers, es its log.
unfoldable pub placed : ℕ → ℕ → Bool → List ℕ → List Event → List Item → Verdict
placed e prog second b es is =
    cond (ltb (length b) (rounded_end prog (check_at es is))) (refused NoSpace)
    (room_then (room_of e prog b (log_end es) (log_end_tag es))
    (cond (coincides e all_ones (log_end_tag es) is (check_tag e (check_size prog (check_at es is)))) (refused Coincidence)
    (accepted second is (check_size prog (check_at es is)))))

-- "-201 | an entry is bad"
abbrev pub judged_by : Judged → Verdict → Verdict
judged_by (bad i) v = refused (BadEntry i)
judged_by (good c) v = v

-- "-202 | the committed log isn't regular", by the rule that was asked for, before -201. Entries run against the count
-- by document 01's rules, whichever it was.
unfoldable pub appended : Rules → ℕ → ℕ → Bool → List ℕ → List Event → List Entry → List ℕ → Verdict
appended r e prog second b es entries dat =
    cond (not (Regular r es)) (refused Irregular)
    (judged_by (judge dat 0 (count_of 0 es) entries)
    (placed e prog second b es (with_forward e prog (length b) (log_end es) (items_of dat entries))))

-- The record's pair has the answering block's number first.
abbrev pub is_second : ℕ → LfsMdir → Bool
is_second n0 m = not (eqb m.pair.n0 n0)

-- "fetch's own refusals"
abbrev pub fetched_then : Result Fetched Refusal → (LfsMdir → Verdict) → Verdict
fetched_then (Err r) on = refused r
fetched_then (Ok f) on = on f.dir

-- "Commit: -22, fetch's own refusals, -202, -201, -28, -203, -204", with L1's three in -203's place.
unfoldable pub verdict_of : Geometry → List ℕ → List ℕ → ℕ → ℕ → ℕ → ℕ → ℕ → ℕ → List Entry → List ℕ → Verdict
verdict_of g b0 b1 n0 n1 count seed rules e entries dat =
    cond (not (commit_fits g (length b0) (length b1) n0 n1 rules e (length entries) (length dat))) (refused Invalid)
    (fetched_then (fetch_of g b0 b1 n0 n1 count seed)
    (λ m. appended (rules_of rules) e g.prog_size (is_second n0 m) (block_at (is_second n0 m) b0 b1)
    (log (block_at (is_second n0 m) b0 b1)) entries dat))

-- ---- what both calls leave and answer
pub record Images : Type 0 where
  pub b0 : List ℕ
  pub b1 : List ℕ

abbrev pub images : List ℕ → List ℕ → Images
images x y = record { b0 = x; b1 = y }

-- a block after the first n of a commit's stores, or after all, "if n is larger"
abbrev pub stored_to : ℕ → List ℕ → List Item → ℕ → ℕ → List ℕ
stored_to e b is size n = appending b (log b) is (check_tag e size) (min n (all_stores is))

-- "No refusal .. changes an image"; an accepted call makes "exactly the first n" stores, in the block that answers.
abbrev pub images_after : ℕ → ℕ → List ℕ → List ℕ → Verdict → Images
images_after e n b0 b1 (refused r) = images b0 b1
images_after e n b0 b1 (accepted false is size) = images (stored_to e b0 is size n) b1
images_after e n b0 b1 (accepted true is size) = images b0 (stored_to e b1 is size n)

-- all stores: no commit or compaction that is accepted has more than a block has bytes, and the erase
abbrev pub unlimited : ℕ
unlimited = all_ones

abbrev pub answer_of : Result Fetched Refusal → Verdict → Result Fetched Refusal
answer_of f (refused r) = Err r
answer_of f (accepted second is size) = f

-- "exactly the first n of demand 3's list are made (all, if n is larger) and the number made is the answer"
abbrev pub stores_made : ℕ → Verdict → Result ℕ Refusal
stores_made n (refused r) = Err r
stores_made n (accepted second is size) = Ok (min n (all_stores is))

module _ (g : Geometry) (b0 b1 : List ℕ) (n0 n1 count seed rules e : ℕ) (entries : List Entry) (dat : List ℕ) where
  -- the images after n stores: of the call with a limit, and, all stores made, of `lfs_dir_commit`
  unfoldable pub commit_images : ℕ → Images
  commit_images n = images_after e n b0 b1 (verdict_of g b0 b1 n0 n1 count seed rules e entries dat)

  -- `lfs_dir_commit`
  unfoldable pub commit_of : Result Fetched Refusal
  commit_of =
      answer_of (fetch_of g (commit_images unlimited).b0 (commit_images unlimited).b1 n0 n1 count seed)
      (verdict_of g b0 b1 n0 n1 count seed rules e entries dat)

  -- `lfs_dir_commit_stores`
  unfoldable pub commit_stores_of : ℕ → Result ℕ Refusal
  commit_stores_of n = stores_made n (verdict_of g b0 b1 n0 n1 count seed rules e entries dat)
