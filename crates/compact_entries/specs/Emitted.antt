-- Entries written one after the other: the stores, the end, the previous tag and the checksum run along. Assumes
-- nothing.
use Rattle.std.specs.Prelude.{◌≡◌, ◌≢◌, false, List, [], ◌∷◌, ◌++◌, ℕ, ◌+◌, ◌^◌, ◌≤◌, ◌<◌, None, Option, Some}
use Rattle.format.specs.Word.{to_be32, xor}
use Rattle.format.specs.Tag.{tag_length, tag_of}
use Rattle.format.specs.Kind.{type_create}
use Rattle.format.specs.Crc.{crc}
use Rattle.format.specs.Log.{log}
use Rattle.format.specs.Record.{no_tail, tail_of, split_of}
use Rattle.format.specs.Directory.{classes}
use Rattle.format.specs.Commit.{Item}
use Rattle.format.specs.declared.LfsMdir.{LfsMdir}
use Rattle.commit_lay.specs.Laid.{Laid, laid, puts_of}
use Rattle.format.specs.Look.{bytes_of}
use Rattle.theory.specs.Lookup.ByMask.{Answers}
use Rattle.compact_slot.specs.Seat.{hit_at}
use Rattle.compact_slot.specs.Slots.{Slots, AllInside}
use Rattle.compact_entries.specs.declared.Emit.{Emit}
use Rattle.format.specs.declared.Found.{Found}

-- where the writing stands, with the block that is written
pub record Standing : Type 0 where
  pub stores : Laid
  pub end : ℕ
  pub prev : ℕ
  pub sum : ℕ

abbrev pub standing : Emit → List ℕ → Standing
standing e b = record { stores = laid e.run b; end = e.end; prev = e.prev; sum = e.sum }

-- an entry's bytes behind the previous tag
abbrev pub item_bytes : ℕ → Item → List ℕ
item_bytes prev i = to_be32 (xor i.tag prev) ++ i.body

unfoldable pub emitted : Standing → Item → Standing
emitted s i =
    record {
      stores = puts_of s.stores (item_bytes s.prev i);
      end = s.end + tag_length i.tag;
      prev = i.tag;
      sum = crc s.sum (item_bytes s.prev i);
    }

unfoldable pub emits : Standing → List Item → Standing
emits s [] = s
emits s (i ∷ is) = emits (emitted s i) is

-- the create of an id
abbrev pub create_item : ℕ → Item
create_item id = record { tag = tag_of type_create id 0; body = [] }

-- an entry that was found, as it is: its tag and its bytes
abbrev pub hit_items : List ℕ → Option Found → List Item
hit_items b None = []
hit_items b (Some f) = record { tag = f.tag; body = bytes_of b f } ∷ []

-- a slot's seats in the block, their tags with its id, an id that fits a tag, and an end that a word still counts
pub record SlotSeated (b : List ℕ) (e : Emit) (id : ℕ) (seats : List ℕ) : Type 0 where
  pub inside : AllInside b seats
  pub named : (c : ℕ) → c < classes → Answers id (hit_at seats c)
  pub slot : id < 2 ^ 10
  pub small : e.end ≤ 2 ^ 31

-- a block with a regular log, its end, end tag and number of slots
pub record Source (b : List ℕ) (e : Emit) (end etag count : ℕ) : Type 0 where
  pub slots : Slots b end etag count
  pub some : log b ≢ []
  pub small : e.end ≤ 16

-- the same of the block's record
pub record Read (b : List ℕ) (e : Emit) (dir : LfsMdir) : Type 0 where
  pub source : Source b e dir.off dir.etag dir.count
  pub split' : dir.split ≡ split_of false (log b)
  pub tail' : dir.tail ≡ tail_of no_tail (log b)

-- and a program size that is none of document 01's broken ones; the entries begin behind the revision
pub record Renewing (prog : ℕ) (b : List ℕ) (e : Emit) (dir : LfsMdir) : Type 0 where
  pub low : 4 ≤ prog
  pub high : prog ≤ 512
  pub start : e.end ≡ 4
  pub read : Read b e dir
