-- One block compacted into another: what the code asks of both, and what it leaves. Assumes nothing.
use Rattle.std.specs.Prelude.{◌≡◌, ℕ, ◌+◌, ◌-◌, ◌^◌, ◌≤◌, min, true, false, ◌≢◌, List, [], length}
use Rattle.format.specs.Word.{le32, to_le32, plus32, all_ones}
use Rattle.format.specs.Crc.{crc}
use Rattle.format.specs.Log.{log, log_end, log_end_tag}
use Rattle.format.specs.Record.{count_of, no_tail, tail_of, split_of}
use Rattle.format.specs.Regular.{Regular}
use Rattle.format.specs.declared.Rules.TheVariants.{Littlefs}
use Rattle.format.specs.Commit.{Item}
use Rattle.format.specs.Stores.{compacting}
use Rattle.format.specs.Writer.{check_length, with_forward}
use Rattle.format.specs.Compaction.{compaction_items, compact_check_at, compact_stores, compacted_to, CompactVerdict}
use Rattle.format.specs.Compaction.{compact_refused, compact_accepted, placed_anew}
use Rattle.format.specs.declared.LfsMdir.{LfsMdir}
use Rattle.commit_lay.specs.declared.Run.{Run}
use Rattle.compact_entries.specs.declared.Emit.{Emit}

unfoldable pub begins : ℕ → Run → Emit
begins rev run = record { run = run; end = 4; prev = all_ones; sum = crc all_ones (to_le32 rev) }

-- the record of the block b, which has a log, as far as compaction reads it
pub record Recorded (b : List ℕ) (dir : LfsMdir) : Type 0 where
  pub word : 4 ≤ length b
  pub most : length b ≤ 2 ^ 16
  pub some : log b ≢ []
  pub rev' : dir.rev ≡ le32 b
  pub ends : dir.off ≡ log_end (log b)
  pub end_tag : dir.etag ≡ log_end_tag (log b)
  pub count' : dir.count ≡ count_of 0 (log b)
  pub split' : dir.split ≡ split_of false (log b)
  pub tail' : dir.tail ≡ tail_of no_tail (log b)

-- what is laid over the erased byte: the entries of the log's compaction, and the forward check, or none
abbrev pub renewed_items : ℕ → ℕ → List ℕ → List Item
renewed_items byte prog old = with_forward byte prog (length old) 4 (compaction_items (log old))

pub record Renewable (prog : ℕ) (old new : List ℕ) (dir : LfsMdir) : Type 0 where
  pub low : 4 ≤ prog
  pub high : prog ≤ 512
  pub long : length new ≡ length old
  pub recorded : Recorded old dir

-- and what the second pass asks: a log that is regular, by littlefs's rule, the wider one, and whose entries fit the
-- other block
pub record Writable (byte prog : ℕ) (old new : List ℕ) (dir : LfsMdir) : Type 0 where
  pub low : 4 ≤ prog
  pub high : prog ≤ 512
  pub recorded : Recorded old dir
  pub regular : Regular Littlefs (log old) ≡ true
  pub room : compact_check_at (renewed_items byte prog old) + check_length ≤ length new

-- the other block after the first n stores of the check tag ct
abbrev pub written_to : ℕ → ℕ → List ℕ → List ℕ → ℕ → ℕ → ℕ → List ℕ
written_to byte prog old new rev ct n =
    compacting byte new rev (renewed_items byte prog old) ct
    (length new - (compact_check_at (renewed_items byte prog old) + check_length))
    (min n (compact_stores (renewed_items byte prog old)))

-- the verdict on a log that is regular
abbrev pub anew : ℕ → ℕ → List ℕ → CompactVerdict
anew byte prog old = placed_anew byte prog (length old) false (plus32 (le32 old) 1) (renewed_items byte prog old)

-- the other block after the first n stores, by the verdict
abbrev pub renewed_to : ℕ → ℕ → List ℕ → CompactVerdict → List ℕ
renewed_to byte n o (compact_refused r) = o
renewed_to byte n o (compact_accepted second rev is size) = compacted_to byte o rev is size n
