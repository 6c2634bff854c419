-- Slots that are written from the places of an index. Assumes nothing.
use Rattle.std.specs.Prelude.{◌≡◌, ◌≢◌, true, Option, Some, None, List, [], ℕ, ◌+◌, ◌^◌, ◌≤◌, ◌<◌, length, drop}
use Rattle.format.specs.Log.{log}
use Rattle.format.specs.Regular.{Regular}
use Rattle.format.specs.declared.Rules.TheVariants.{Littlefs}
use Rattle.format.specs.Directory.{dir_of}
use Rattle.format.specs.Stores.{entries_length}
use Rattle.format.specs.Index.{places_of}
use Rattle.index_theory.specs.Items.{PlacesIn, place_items}
use Rattle.index_theory.specs.Owned.{own_places}
use Rattle.compact_entries.specs.declared.Emit.{Emit}

-- the places with the slot's id, from a word on, whole in the block, an id that fits a tag, and an end that a word
-- still counts behind all of them
pub record SlotPlaced (b : List ℕ) (e : Emit) (id : ℕ) (places : List ℕ) (from : ℕ) : Type 0 where
  pub start : from ≤ length places
  pub inside : PlacesIn (length b) (own_places id (drop from places))
  pub slot : id < 2 ^ 10
  pub small : e.end + entries_length (place_items b (own_places id (drop from places))) ≤ 2 ^ 31

-- a block with a regular log, the number of its slots and its places
pub record Placed (b : List ℕ) (e : Emit) (count : ℕ) (places : List ℕ) : Type 0 where
  pub word : 4 ≤ length b
  pub regular : Regular Littlefs (log b) ≡ true
  pub some : log b ≢ []
  pub count' : count ≡ length (dir_of (log b))
  pub places' : places ≡ places_of (log b)
  pub small : e.end ≤ 16

-- places, where there are some, are the log's
abbrev pub Indexes : List ℕ → Option (List ℕ) → Type 0
Indexes b None = Unit {0}
Indexes b (Some places) = places ≡ places_of (log b)
