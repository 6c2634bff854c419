-- Document 01, Lookup: the answers of `lfs_dir_getslice`, `lfs_dir_get`, `lfs_dir_getinfo` and `lfs_dir_getgstate`, and
-- what they leave in a buffer, an info or a state. Assumes nothing.
use Rattle.std.specs.Prelude.{Bool, not, cond, ◌&&◌, List, ◌∷◌, ◌++◌, ℕ, ◌+◌, ◌-◌, ◌%◌, ◌^◌, min, length, take, drop, replicate, leb, ltb, eqb, Err, None, Ok, Option, Result, Some}
use Rattle.format.specs.Word.{le32, minus32}
use Rattle.format.specs.Tag.{tag_type3, tag_id, tag_size, tag_of}
use Rattle.format.specs.Kind.{type_directory, type_dir_struct, type_inline_struct, type_ctz_struct, type_name, type_move}
use Rattle.format.specs.Kind.{no_slot}
use Rattle.format.specs.Record.{pair_in}
use Rattle.format.specs.Pair.{pair_sync}
use Rattle.format.specs.Gstate.{gstate_has_move_here, gstate_xor}
use Rattle.format.specs.Fetch.{pair_fits}
use Rattle.format.specs.Back.{back}
use Rattle.format.specs.Look.{data_size, wlook}
use Rattle.format.specs.declared.Geometry.{Geometry}
use Rattle.format.specs.declared.LfsMdir.{LfsMdir}
use Rattle.format.specs.declared.LfsGstate.{LfsGstate}
use Rattle.format.specs.declared.Refusal.{Refusal}
use Rattle.format.specs.declared.Refusal.TheVariants.{Invalid, Corrupt, NoEntry}
use Rattle.format.specs.declared.Found.{Found}
use Rattle.format.specs.declared.LfsInfo.{LfsInfo}

-- ---- where a lookup looks "a record whose pair isn't the two given numbers in either order or whose end passes the
-- block" is -22, as a broken size or number is
unfoldable pub record_fits : Geometry → ℕ → ℕ → ℕ → ℕ → LfsMdir → Bool
record_fits g length0 length1 n0 n1 dir =
    pair_fits g length0 length1 n0 n1 && pair_sync dir.pair (record { n0 = n0; n1 = n1 })
    && leb dir.off g.block_size

-- the record's first number is the block that it was read from
abbrev pub block_of : List ℕ → List ℕ → ℕ → LfsMdir → List ℕ
block_of b0 b1 n0 dir = cond (eqb dir.pair.n0 n0) b0 b1

-- ---- the search
-- "If the mask has any id bit"
abbrev pub has_ids : ℕ → Bool
has_ids mask = not (eqb (tag_id mask) 0)

-- "The walk goes back from end and end tag", from a difference
abbrev pub searched_from : List ℕ → LfsMdir → ℕ → ℕ → ℕ → Option Found
searched_from b dir mask key diff = wlook (has_ids mask) mask key diff (back b dir.off dir.etag)

-- "a pending move (global tag's type1 not 0) whose pair shares any block answers -2 at its own id and lowers the
-- difference by one id above it"
unfoldable pub searched : List ℕ → LfsMdir → LfsGstate → ℕ → ℕ → Option Found
searched b dir gdisk mask key =
    cond (has_ids mask && gstate_has_move_here gdisk dir.pair)
    (cond (eqb (tag_id gdisk.tag) (tag_id key)) None
    (cond (ltb (tag_id gdisk.tag) (tag_id key)) (searched_from b dir mask key (minus32 0 (2 ^ 10)))
    (searched_from b dir mask key 0)))
    (searched_from b dir mask key 0)

-- ---- the slice of what was found: "min(size, buffer length) bytes are read from the entry's first data byte plus the
-- offset, also where that runs into the next entry; the rest of the buffer is zeroed." "-84 | lookup: the matched bytes
-- pass the block". The answer is the entry as it was found, whatever offset and buffer.
abbrev pub slice_start : Found → ℕ → ℕ
slice_start e offset = e.off + offset

abbrev pub slice_end : Found → ℕ → ℕ → ℕ
slice_end e offset size = slice_start e offset + min (data_size e) size

abbrev pub slice_answer : List ℕ → ℕ → ℕ → Option Found → Result Found Refusal
slice_answer b offset size None = Err NoEntry
slice_answer b offset size (Some e) =
    cond (leb (slice_end e offset size) (length b)) (Ok e) (Err Corrupt)

abbrev pub slice_buffer : List ℕ → ℕ → List ℕ → Option Found → List ℕ
slice_buffer b offset buffer None = buffer
slice_buffer b offset buffer (Some e) =
    cond (leb (slice_end e offset (length buffer)) (length b))
    (take (min (data_size e) (length buffer)) (drop (slice_start e offset) b)
    ++ replicate (length buffer - data_size e) 0)
    buffer

-- ---- `lfs_dir_getslice`
-- "Lookup buffer .. at most 65,536 bytes"
abbrev pub longest_buffer : ℕ
longest_buffer = 65_536

unfoldable pub getslice_fits : Geometry → List ℕ → List ℕ → ℕ → ℕ → LfsMdir → List ℕ → Bool
getslice_fits g b0 b1 n0 n1 dir buffer = record_fits g (length b0) (length b1) n0 n1 dir
    && leb (length buffer) longest_buffer

-- "A lookup tests -22 first .. then it walks".
unfoldable pub getslice_of : Geometry → List ℕ → List ℕ → ℕ → ℕ → LfsMdir → LfsGstate → ℕ → ℕ → ℕ → List ℕ → Result Found Refusal
getslice_of g b0 b1 n0 n1 dir gdisk mask key offset buffer =
    cond (getslice_fits g b0 b1 n0 n1 dir buffer)
    (slice_answer (block_of b0 b1 n0 dir) offset (length buffer) (searched (block_of b0 b1 n0 dir) dir gdisk mask key))
    (Err Invalid)

unfoldable pub getslice_buffer : Geometry → List ℕ → List ℕ → ℕ → ℕ → LfsMdir → LfsGstate → ℕ → ℕ → ℕ → List ℕ → List ℕ
getslice_buffer g b0 b1 n0 n1 dir gdisk mask key offset buffer =
    cond (getslice_fits g b0 b1 n0 n1 dir buffer)
    (slice_buffer (block_of b0 b1 n0 dir) offset buffer (searched (block_of b0 b1 n0 dir) dir gdisk mask key))
    buffer

-- ---- `lfs_dir_get`: the slice from 0, as long as the key's size field says. A shorter buffer is -22; only so many
-- bytes are written.
unfoldable pub get_fits : ℕ → List ℕ → Bool
get_fits key buffer = leb (tag_size key) (length buffer) && leb (length buffer) longest_buffer

unfoldable pub get_of : Geometry → List ℕ → List ℕ → ℕ → ℕ → LfsMdir → LfsGstate → ℕ → ℕ → List ℕ → Result Found Refusal
get_of g b0 b1 n0 n1 dir gdisk mask key buffer =
    cond (get_fits key buffer) (getslice_of g b0 b1 n0 n1 dir gdisk mask key 0 (take (tag_size key) buffer))
    (Err Invalid)

unfoldable pub get_buffer : Geometry → List ℕ → List ℕ → ℕ → ℕ → LfsMdir → LfsGstate → ℕ → ℕ → List ℕ → List ℕ
get_buffer g b0 b1 n0 n1 dir gdisk mask key buffer =
    cond (get_fits key buffer) (getslice_buffer g b0 b1 n0 n1 dir gdisk mask key 0 (take (tag_size key) buffer)
    ++ drop (tag_size key) buffer) buffer

-- a buffer of n zeros, as the calls below lend
abbrev pub blank_buffer : ℕ → List ℕ
blank_buffer n = replicate n 0

-- ---- `lfs_dir_getgstate`: "XORs the move state found; with none, all stays."
abbrev pub move_mask : ℕ
move_mask = tag_of 0x7ff 0 0

abbrev pub move_key : ℕ
move_key = tag_of type_move 0 12

-- a global state in twelve bytes, little-endian
abbrev pub gstate_in : List ℕ → LfsGstate
gstate_in d = record { tag = le32 d; pair = pair_in (drop 4 d) }

abbrev pub move_answer : List ℕ → Option Found → Result Unit Refusal
move_answer b None = Ok tt
move_answer b (Some e) = cond (leb (slice_end e 0 12) (length b)) (Ok tt) (Err Corrupt)

abbrev pub move_state : List ℕ → LfsGstate → Option Found → LfsGstate
move_state b gstate None = gstate
move_state b gstate (Some e) =
    cond (leb (slice_end e 0 12) (length b))
    (gstate_xor gstate (gstate_in (slice_buffer b 0 (blank_buffer 12) (Some e)))) gstate

unfoldable pub getgstate_of : Geometry → List ℕ → List ℕ → ℕ → ℕ → LfsMdir → LfsGstate → Result Unit Refusal
getgstate_of g b0 b1 n0 n1 dir gdisk =
    cond (record_fits g (length b0) (length b1) n0 n1 dir)
    (move_answer (block_of b0 b1 n0 dir) (searched (block_of b0 b1 n0 dir) dir gdisk move_mask move_key))
    (Err Invalid)

-- "The three words of a lent global state are altered where they stand."
unfoldable pub getgstate_state : Geometry → List ℕ → List ℕ → ℕ → ℕ → LfsMdir → LfsGstate → LfsGstate → LfsGstate
getgstate_state g b0 b1 n0 n1 dir gdisk gstate =
    cond (record_fits g (length b0) (length b1) n0 n1 dir)
    (move_state (block_of b0 b1 n0 dir) gstate (searched (block_of b0 b1 n0 dir) dir gdisk move_mask move_key))
    gstate

-- ---- `lfs_dir_getinfo`
-- the name under 0x780 and the struct under 0x700, with all bits of the id; "longest name read 1 to 255", and one byte
-- more. So a stored name that is longer fills that byte too, and with 255 all of the info's 256: no zero is behind it.
abbrev pub name_mask : ℕ
name_mask = tag_of 0x780 no_slot 0

abbrev pub name_key : ℕ → ℕ → ℕ
name_key id nameMax = tag_of type_name id (nameMax + 1)

abbrev pub struct_mask : ℕ
struct_mask = tag_of 0x700 no_slot 0

abbrev pub struct_key : ℕ → ℕ
struct_key id = tag_of type_dir_struct id 8

-- "a longest name read 1 to 255", "an id above 1,023 in `lfs_dir_getinfo`"
unfoldable pub getinfo_fits : Geometry → List ℕ → List ℕ → ℕ → ℕ → LfsMdir → ℕ → ℕ → Bool
getinfo_fits g b0 b1 n0 n1 dir nameMax id =
    record_fits g (length b0) (length b1) n0 n1 dir && leb 1 nameMax && leb nameMax 255 && leb id no_slot

-- "id 1,023 is the root, named "/"."
abbrev pub info_root : LfsInfo
info_root = record { kind = type_directory; size = 0; name = 0x2f ∷ blank_buffer 255 }

-- "Ours: size is 0 unless the struct is inline or CTZ": a CTZ struct is its head and its size, little-endian
abbrev pub info_size : ℕ → List ℕ → ℕ
info_size t struct = cond (eqb (tag_type3 t) type_ctz_struct) (le32 (drop 4 struct))
    (cond (eqb (tag_type3 t) type_inline_struct) (tag_size t) 0)

-- from the answers and the buffers of the two lookups; "name bytes not read are 0"
abbrev pub info_from : Result Found Refusal → List ℕ → Result Found Refusal → List ℕ → Result LfsInfo Refusal
info_from (Err r) name u struct = Err r
info_from (Ok e) name (Err r) struct = Err r
info_from (Ok e) name (Ok u) struct =
    Ok (record {
      kind = tag_type3 e.tag % 2 ^ 8;
      size = info_size u.tag struct;
      name = name ++ blank_buffer (256 - length name);
    })

-- a lookup at offset 0 into a blank buffer of n bytes: its answer, and the buffer
abbrev pub read_answer : List ℕ → ℕ → Option Found → Result Found Refusal
read_answer b n h = slice_answer b 0 n h

abbrev pub read_buffer : List ℕ → ℕ → Option Found → List ℕ
read_buffer b n h = slice_buffer b 0 (blank_buffer n) h

abbrev pub info_of : List ℕ → ℕ → Option Found → Option Found → Result LfsInfo Refusal
info_of b nameMax name struct =
    info_from (read_answer b (nameMax + 1) name) (read_buffer b (nameMax + 1) name) (read_answer b 8 struct)
    (read_buffer b 8 struct)

unfoldable pub getinfo_of : Geometry → List ℕ → List ℕ → ℕ → ℕ → LfsMdir → LfsGstate → ℕ → ℕ → Result LfsInfo Refusal
getinfo_of g b0 b1 n0 n1 dir gdisk nameMax id =
    cond (getinfo_fits g b0 b1 n0 n1 dir nameMax id)
    (cond (eqb id no_slot) (Ok info_root)
    (info_of (block_of b0 b1 n0 dir) nameMax
    (searched (block_of b0 b1 n0 dir) dir gdisk name_mask (name_key id nameMax))
    (searched (block_of b0 b1 n0 dir) dir gdisk struct_mask (struct_key id))))
    (Err Invalid)
