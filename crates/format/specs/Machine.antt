-- Document 01: "lookup with these masks equals a simple directory machine: slots inserted, removed, attributes set".
-- The machine, with tail and move state, and what the directory lookups give of it. Assumes nothing.
use Rattle.std.specs.Prelude.{Bool, true, false, ◌&&◌, List, ◌++◌, ℕ, ◌+◌, ◌-◌, length, take, replicate, get_or, ltb, Err, None, Ok, Option, Result, Some}
use Rattle.format.specs.Kind.{type_name, type_dir_struct, type_user_attr, type_move, no_slot}
use Rattle.format.specs.Walk.{Event}
use Rattle.format.specs.Record.{no_tail, tail_of, split_of}
use Rattle.format.specs.Directory.{Slot, Load, empty, apply_all, acts, dir_of, move_of}
use Rattle.format.specs.Tag.{tag_of}
use Rattle.format.specs.Look.{mask_type1, mask_type3, mask_move}
use Rattle.format.specs.declared.LfsPair.{LfsPair}
use Rattle.format.specs.declared.Refusal.TheVariants.{NoEntry}
use Rattle.format.specs.declared.Refusal.{Refusal}

-- ---- the machine
-- all that a pair holds: its slots, its tail (hard where `split`) and its move state
pub record Machine : Type 0 where
  pub slots : List Slot
  pub split : Bool
  pub tail : LfsPair
  pub move : Option Load

-- the machine of a log
abbrev pub machine_of : List Event → Machine
machine_of es = record { slots = dir_of es; split = split_of false es; tail = tail_of no_tail es; move = move_of None es }

-- the machine after more entries
abbrev pub ran : Machine → List Event → Machine
ran M es = record {
  slots = apply_all M.slots (acts es);
  split = split_of M.split es;
  tail = tail_of M.tail es;
  move = move_of M.move es;
}

-- ---- the directory lookups "newest name (type under 0x700), struct (under 0x700) .. These, with 0x7ff for each
-- attribute type, and the move state (0x7ff, no ids) are the directory lookups": of the slot with an id its name, its
-- struct, its user attribute 0x300 + u; and the move state.
pub data Ask : Type 0 where
  name : ℕ → Ask
  struct : ℕ → Ask
  attribute : ℕ → ℕ → Ask
  move : Ask

abbrev pub ask_mask : Ask → ℕ
ask_mask (name id) = mask_type1
ask_mask (struct id) = mask_type1
ask_mask (attribute id u) = mask_type3
ask_mask move = mask_move

-- a key of any size: no mask has a bit of it
abbrev pub ask_key : Ask → ℕ → ℕ
ask_key (name id) size = tag_of type_name id size
ask_key (struct id) size = tag_of type_dir_struct id size
ask_key (attribute id u) size = tag_of (type_user_attr + u) id size
ask_key move size = tag_of type_move 0 size

-- "for ids below count"
abbrev pub ask_fits : Machine → Ask → Bool
ask_fits M (name id) = ltb id (length M.slots)
ask_fits M (struct id) = ltb id (length M.slots)
ask_fits M (attribute id u) = ltb id (length M.slots) && ltb u 0x100
ask_fits M move = true

-- what the machine has
abbrev pub asked : Machine → Ask → Option Load
asked M (name id) = get_or M.slots id empty 0
asked M (struct id) = get_or M.slots id empty 1
asked M (attribute id u) = get_or M.slots id empty (2 + u)
asked M move = M.move

-- the id in the answer
abbrev pub ask_id : Ask → ℕ
ask_id (name id) = id
ask_id (struct id) = id
ask_id (attribute id u) = id
ask_id move = no_slot

-- the answer's word: a tag of what is there, its type, id and length; "-2 | .. lookup: no entry". A machine has no
-- places.
abbrev pub held_word : ℕ → Option Load → Result ℕ Refusal
held_word id None = Err NoEntry
held_word id (Some v) = Ok (tag_of v.type id (length v.bytes))

-- "min(size, buffer length) bytes are read ..; the rest of the buffer is zeroed"
abbrev pub held_buffer : List ℕ → Option Load → List ℕ
held_buffer buffer None = buffer
held_buffer buffer (Some v) = take (length buffer) v.bytes ++ replicate (length buffer - length v.bytes) 0
