-- What stands at a cursor: a step of format's walk, with the offset that code has. Assumes nothing.
use Rattle.std.specs.Prelude.{Bool, true, false, List, ℕ, ◌+◌, ◌^◌, ◌<◌, ◌≤◌, length, take, drop, eqb}
use Rattle.format.specs.Word.{be32, le32, xor, all_ones}
use Rattle.format.specs.Tag.{tag_length, tag_flipped}
use Rattle.format.specs.Crc.{crc}
use Rattle.format.specs.Walk.{Class, past, invalid, check, entry, class_of}
use Rattle.fetch_walk.specs.declared.cursor.Cursor.{Cursor}
use Rattle.fetch_walk.specs.declared.cursor.Seen.{Seen}
use Rattle.fetch_walk.specs.declared.cursor.Seen.TheVariants.{Entry, Check, Invalid, Past}

-- behind the four revision bytes
unfoldable pub start_of : List ℕ → Cursor
start_of b = record { at = 4; prev = all_ones; sum = crc all_ones (take 4 b) }

-- behind the tag t at `at`, the block from there on being `rest` and the checksum before the tag `sum`
unfoldable pub after_entry : List ℕ → ℕ → ℕ → ℕ → Cursor
after_entry rest at t sum = record { at = at + tag_length t; prev = t; sum = crc sum (take (tag_length t) rest) }

unfoldable pub after_check : ℕ → ℕ → Cursor
after_check at t = record { at = at + tag_length t; prev = tag_flipped t; sum = all_ones }

-- a check whose checksum `stored` fits, or doesn't
abbrev pub checked_as : Bool → ℕ → ℕ → ℕ → Seen
checked_as true stored at t = Check stored (after_check at t)
checked_as false stored at t = Past

unfoldable pub check_seen : List ℕ → ℕ → ℕ → ℕ → Seen
check_seen rest at t sum = checked_as (eqb (crc sum (take 4 rest)) (le32 (drop 4 rest))) (le32 (drop 4 rest)) at t

abbrev pub seen_as : Class → List ℕ → ℕ → ℕ → ℕ → Seen
seen_as past rest at t sum = Past
seen_as invalid rest at t sum = Invalid
seen_as check rest at t sum = check_seen rest at t sum
seen_as entry rest at t sum = Entry t (after_entry rest at t sum)

unfoldable pub tag_seen : List ℕ → ℕ → ℕ → ℕ → Seen
tag_seen b at t sum = seen_as (class_of t (length (drop at b))) (drop at b) at t sum

abbrev pub tag_at : List ℕ → Cursor → ℕ
tag_at b c = xor (be32 (drop c.at b)) c.prev

unfoldable pub next_of : List ℕ → Cursor → Seen
next_of b c = tag_seen b c.at (tag_at b c) c.sum

-- a valid check tag that is wholly in the block, with its four bytes
pub record CheckFits (b : List ℕ) (at t : ℕ) : Type 0 where
  pub valid : t < 2 ^ 31
  pub whole : at + tag_length t ≤ length b
  pub reach : at + 8 ≤ length b
