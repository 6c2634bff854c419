-- What a block with a regular log gives a loop over its slots: how many there are, that each may be gathered, and that
-- its seats then hold what the directory holds. Assumes nothing.
use mathlib.Core.Path.{◌≡◌, refl, ◌∙◌}
use mathlib.Core.List.{List, map}
use Prim.Native.Nat.{ℕ, ◌≤◌, ◌<◌}
use native.Mathlib.Omega.{arith}
use lib.ListN.{length, get_or}
use Rattle.format.specs.Log.{log}
use Rattle.format.specs.Back.{back}
use Rattle.format.specs.Directory.{classes, empty, dir_of}
use Rattle.theory.specs.Directory.Machine.{most_slots}
use Rattle.theory.specs.Back.BackActs.{seen}
use Rattle.theory.specs.Lookup.SlotCount.{length_dir_of}
use Rattle.theory.specs.Lookup.OnBlock.{RegularLog}
use Rattle.theory.specs.Commit.Tested.{regular_log, regular_count}
use Rattle.theory.specs.Lookup.SlotSearch.{log_inside, directory_find}
use Rattle.compact_slot.specs.Seat.{Gatherable, Gathered}
use Rattle.compact_slot.specs.Slots.{Slots, slot_in}

module _ (b : List ℕ) (end etag count : ℕ) (s : Slots b end etag count) where
  whole : RegularLog (log b)
  whole = regular_log b (log b) refl s.regular

  pub slots_few : count ≤ most_slots
  slots_few = rw (s.count', length_dir_of (log b) whole.base.rules) (regular_count b (log b) refl s.regular)

  end_inside : end ≤ length b
  end_inside = rw s.ends (log_inside b (log b) refl whole.base.reg s.word)

  pub slot_gathers : (id : ℕ) → id ≤ count → Gatherable b end id
  slot_gathers id h = record {
    inside = end_inside;
    small = omega (arith, end_inside, s.most);
    slot = omega (arith, slots_few);
  }

  pub slot_holds : (id : ℕ) (seats : List ℕ) → id < count → Gathered b (map (seen b) (back b end etag)) id seats
      → (c : ℕ) → c < classes → slot_in b seats c ≡ get_or (dir_of (log b)) id empty c
  slot_holds id seats h g c k = g.loads c k ∙ rw (s.ends, s.end_tag)
      (directory_find b (log b) c id refl whole (rw (← s.count') h))

  -- the loop's test is about the directory
  pub slots_more : (id : ℕ) → id < count → id < length (dir_of (log b))
  slots_more id h = rw (← s.count') h

  pub slots_end : (id : ℕ) → count ≤ id → length (dir_of (log b)) ≤ id
  slots_end id h = rw (← s.count') h
