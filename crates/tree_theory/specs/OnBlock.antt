-- The lookups of a slot on a block that was fetched from, whose log is regular: its newest name and its struct, and the
-- two lookups of `lfs_dir_getinfo`. Assumes nothing.
use Rattle.std.specs.Prelude.{◌≡◌, refl, ◌≢◌, true, false, List, [], ℕ, ◌≤◌, ◌<◌, length, get_or, Option, Result, Some}
use Rattle.std.proofs.Common.{arith, lt-ltb}
use Rattle.format.specs.Tag.{tag_of}
use Rattle.format.specs.Log.{log, log_end, log_end_tag}
use Rattle.format.specs.Back.{back}
use Rattle.format.specs.Look.{mask_type1, bytes_of, HitIn, wlook}
use Rattle.format.specs.Lookup.{name_mask, name_key, struct_mask, struct_key, info_of}
use Rattle.format.specs.Directory.{Load, Slot, empty, dir_of}
use Rattle.format.specs.Regular.{Regular}
use Rattle.format.specs.Machine as machine
use Rattle.format.specs.TreeMachine.{hidden, uncovered}
use Rattle.format.specs.declared.Rules.TheVariants.{Littlefs}
use Rattle.theory.specs.Commit.Tested.{regular_log}
use Rattle.theory.specs.Lookup.ByMask.{holds, holds_as, Answers}
use Rattle.theory.specs.Lookup.AtStart.{back_in, wlook_in}
use Rattle.theory.specs.Lookup.SlotSearch.{log_inside}
use Rattle.theory.proofs.Stopped.Shown.{ask_found}
use Rattle.tree_theory.specs.Covered.{visible}
use Rattle.tree_theory.specs.SeenName.{seen_newest, seen_uncovered}
use Rattle.format.specs.declared.Found.{Found}
use Rattle.format.specs.declared.LfsInfo.{LfsInfo}
use Rattle.format.specs.declared.Refusal.{Refusal}

-- a slot's newest name, the name that an info is of, and its struct, from the end of a log and the tag there
abbrev pub newest_hit : List ℕ → ℕ → ℕ → ℕ → Option Found
newest_hit b end etag id = wlook true mask_type1 (name_key id 255) 0 (back b end etag)

abbrev pub named_hit : List ℕ → ℕ → ℕ → ℕ → Option Found
named_hit b end etag id = wlook true name_mask (name_key id 255) 0 (back b end etag)

abbrev pub struct_hit : List ℕ → ℕ → ℕ → ℕ → Option Found
struct_hit b end etag id = wlook true struct_mask (struct_key id) 0 (back b end etag)

-- the info, read with the longest name
abbrev pub info_at : List ℕ → ℕ → ℕ → ℕ → Result LfsInfo Refusal
info_at b end etag id = info_of b 255 (named_hit b end etag id) (struct_hit b end etag id)

-- the slot
abbrev pub slot_at : List ℕ → ℕ → Slot
slot_at b id = get_or (dir_of (log b)) id empty

-- the block: its log is regular, by the wider rule, and ends at `end` with the tag `etag`
pub record Regularly (b : List ℕ) (end etag : ℕ) : Type 0 where
  pub least : 4 ≤ length b
  pub some' : log b ≢ []
  pub regular : Regular Littlefs (log b) ≡ true
  pub ends : end ≡ log_end (log b)
  pub end_tag : etag ≡ log_end_tag (log b)

module _ (b : List ℕ) (end etag : ℕ) (w : Regularly b end etag) where
  pub end_inside : end ≤ length b
  end_inside = rw w.ends
      (log_inside b (log b) refl (regular_log b (log b) refl w.regular).base.reg w.least)

  -- what is found stands in the block
  pub hit_inside : (mask key : ℕ) → HitIn (length b) (wlook true mask key 0 (back b end etag))
  hit_inside mask key = wlook_in (length b) true mask key 0 (back b end etag) (back_in b end etag (length b) end_inside)

  module _ (id : ℕ) (low : id < length (dir_of (log b))) where
    pub newest_held : (holds b (newest_hit b end etag id) ≡ slot_at b id 0) × Answers id (newest_hit b end etag id)
    unfolding tag_of
    newest_held = rw (w.ends, w.end_tag)
        (ask_found b w.some' w.regular (machine.name id) 256 (lt-ltb id (length (dir_of (log b))) low)
        (omega arith))

    pub struct_held : (holds b (struct_hit b end etag id) ≡ slot_at b id 1) × Answers id (struct_hit b end etag id)
    unfolding tag_of
    struct_held = rw (w.ends, w.end_tag)
        (ask_found b w.some' w.regular (machine.struct id) 8 (lt-ltb id (length (dir_of (log b))) low)
        (omega arith))

    -- a newest name that is not hidden is seen
    pub named_newest : (v : Load) → slot_at b id 0 ≡ Some v → hidden v.type ≡ false
        → holds_as (bytes_of b) (named_hit b end etag id) ≡ Some v
    named_newest v e h = rw (w.ends, w.end_tag)
        (seen_newest b w.regular w.some' id 256 v low (omega arith) e h)

    -- where none covers another, it is seen or none is
    pub named_visible : uncovered (log b) ≡ true
        → holds_as (bytes_of b) (named_hit b end etag id) ≡ visible (slot_at b id 0)
    named_visible u = rw (w.ends, w.end_tag) (seen_uncovered b w.regular w.some' u id 256 low (omega arith))
