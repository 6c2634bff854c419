-- A block whose slots are gathered one after the other: its log is regular, by littlefs's rule, which is the wider one,
-- and its end, end tag and number of slots are known. Assumes nothing.
use Rattle.std.specs.Prelude.{◌≡◌, true, List, ℕ, ◌^◌, ◌≤◌, ◌<◌, length}
use Rattle.format.specs.Log.{log, log_end, log_end_tag}
use Rattle.format.specs.Regular.{Regular}
use Rattle.format.specs.declared.Rules.TheVariants.{Littlefs}
use Rattle.format.specs.Directory.{classes, Slot, dir_of}
use Rattle.format.specs.Look.{HitIn}
use Rattle.theory.specs.Lookup.ByMask.{holds}
use Rattle.compact_slot.specs.Seat.{hit_at}

pub record Slots (b : List ℕ) (end etag count : ℕ) : Type 0 where
  pub word : 4 ≤ length b
  pub most : length b ≤ 2 ^ 16
  pub regular : Regular Littlefs (log b) ≡ true
  pub ends : end ≡ log_end (log b)
  pub end_tag : etag ≡ log_end_tag (log b)
  pub count' : count ≡ length (dir_of (log b))

-- a slot as its seats hold it
abbrev pub slot_in : List ℕ → List ℕ → Slot
slot_in b seats c = holds b (hit_at seats c)

-- all that they tell stands whole in the block
abbrev pub AllInside : List ℕ → List ℕ → Type 0
AllInside b seats = (c : ℕ) → c < classes → HitIn (length b) (hit_at seats c)
