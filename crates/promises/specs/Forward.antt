-- Document 02, L5: the forward check. What -28 accepts is what it accepted without one; behind a commit or a compaction
-- that carried one fetch's erased mark is yes, and the record that is answered holds it; what a commit or a compaction
-- leaves of the directory is what it left without one (Stopped). Assumes nothing.
use Rattle.std.specs.Prelude.{◌≡◌, Bool, true, List, ℕ, ◌+◌, ◌≤◌, length, ltb, Ok, Result}
use Rattle.std.proofs.Math.Path.{ap₂}
use Rattle.format.specs.Log.{log, log_end}
use Rattle.format.specs.Fetch.{mdir_of}
use Rattle.format.specs.Commit.{Item}
use Rattle.format.specs.Stores.{entries_length}
use Rattle.format.specs.Entries.{items_of}
use Rattle.format.specs.Writer.{rounded_end, unit_check, carries, with_forward, accepted, block_at, verdict_of}
use Rattle.format.specs.Writer.{answer_of, commit_of}
use Rattle.format.specs.Compaction.{compaction_items, compact_check_at, compact_accepted, compact_verdict, compact_answer}
use Rattle.format.specs.Compaction.{compact_of}
use Rattle.format.specs.Stopped.{Bytes}
use Rattle.format.specs.declared.Geometry.{Geometry}
use Rattle.format.specs.declared.LfsMdir.{LfsMdir}
use Rattle.format.specs.declared.Entry.{Entry}
use Rattle.theory.specs.Commit.ForwardCheck as forward
use Rattle.theory.proofs.Stopped.Commit as commit
use Rattle.theory.proofs.Stopped.Compaction as compaction
use Rattle.format.specs.declared.Fetched.{Fetched}
use Rattle.format.specs.declared.Refusal.{Refusal}
use Rattle.format.specs.Record.{fetched}

-- ---- -28 goes by the end that is really laid, and that passes the block exactly if the entries' own rounded end does,
-- so that what is accepted is what was. Of entries that begin at `from`, a commit's at the old end and a compaction's
-- at 4, and of any block size
pub space_same : (e prog block from : ℕ) (is : List Item) → 4 ≤ prog
    → ltb block (rounded_end prog (from + entries_length (with_forward e prog block from is)))
    ≡ ltb block (rounded_end prog (from + entries_length is))
space_same e prog block from is some = forward.space_same e prog block from is some

-- ---- a record whose mark is yes, and which holds the check of an erased unit
pub record Marked (e prog : ℕ) (answer : Result Fetched Refusal) : Type 0 where
  pub dir : LfsMdir
  pub read : ℕ
  pub done : answer ≡ Ok (fetched dir read)
  pub erased : dir.erased ≡ true
  pub held : dir.fcrc ≡ unit_check e prog

module _ (g : Geometry) (b0 b1 : List ℕ) (n0 n1 count seed rules e : ℕ) where
  -- an accepted commit that carried a forward check: the room was clean, so the unit behind the new end is erased
  pub commit_marked : (entries : List Entry) (dat : List ℕ) (second : Bool) (is : List Item) (size : ℕ)
      → verdict_of g b0 b1 n0 n1 count seed rules e entries dat ≡ accepted second is size
      → carries g.prog_size (length (block_at second b0 b1))
      (log_end (log (block_at second b0 b1)) + entries_length (items_of dat entries)) ≡ true
      → Marked e g.prog_size (commit_of g b0 b1 n0 n1 count seed rules e entries dat)
  unfolding commit_of mdir_of
  commit_marked entries dat second is size h carried =
      let found = commit.commit_found_again g b0 b1 n0 n1 count seed rules e entries dat second is size h in
      record {
        dir = _;
        read = _;
        done = ap₂ answer_of found h;
        erased = commit.commit_erased g b0 b1 n0 n1 count seed rules e entries dat second is size h carried;
        held = commit.commit_held g b0 b1 n0 n1 count seed rules e entries dat second is size h carried;
      }

  -- a compaction, of images that are bytes
  pub compact_marked : (second : Bool) (rev : ℕ) (is : List Item) (size : ℕ)
      → compact_verdict g b0 b1 n0 n1 count seed rules e ≡ compact_accepted second rev is size
      → Bytes (block_at second b0 b1)
      → carries g.prog_size (length (block_at second b0 b1))
      (compact_check_at (compaction_items (log (block_at second b0 b1)))) ≡ true
      → Marked e g.prog_size (compact_of g b0 b1 n0 n1 count seed rules e)
  unfolding compact_of mdir_of
  compact_marked second rev is size h bytes carried =
      let found = compaction.compact_found_again g b0 b1 n0 n1 count seed rules e second rev is size h bytes in
      record {
        dir = _;
        read = _;
        done = ap₂ compact_answer found h;
        erased = compaction.compact_erased g b0 b1 n0 n1 count seed rules e second rev is size h bytes carried;
        held = compaction.compact_held g b0 b1 n0 n1 count seed rules e second rev is size h bytes carried;
      }
