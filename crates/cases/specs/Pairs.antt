-- Document 01's listing input as a pair: what fetch and the lookups answer, and pairs at the edges. Assumes nothing.
use Rattle.std.specs.Prelude.{◌≡◌, refl, false, [], ◌∷◌, ℕ, Err, Ok}
use Rattle.format.specs.Word.{be32, le32, to_le32, xor, all_ones}
use Rattle.format.specs.Tag.{tag_length, tag_flipped, tag_of}
use Rattle.format.specs.Crc.{crc, crc_byte, crc_bits, crc_bit}
use Rattle.format.specs.Walk.{read_behind, class_of, body_length, walk_in, walk_from, walk}
use Rattle.format.specs.Log.{committed, log, event_length, span, tag_after, stopped_straight}
use Rattle.format.specs.Record.{counted, count_of, tail_of, split_of, no_forward, forward_of, seed_of}
use Rattle.format.specs.View.{rank, view}
use Rattle.format.specs.Fetch.{geometry_fits, pair_fits, too_high, erased_of, mdir_of, fetch_of}
use Rattle.format.specs.Back.{backs, back}
use Rattle.format.specs.Look.{as_ids, spliced_at, wlook}
use Rattle.format.specs.Lookup.{record_fits, searched, blank_buffer, getslice_fits, getslice_of, getslice_buffer}
use Rattle.format.specs.Lookup.{getinfo_fits, getinfo_of}
use Rattle.format.specs.declared.Geometry.{Geometry}
use Rattle.format.specs.declared.LfsMdir.{LfsMdir}
use Rattle.format.specs.declared.LfsGstate.{LfsGstate}
use Rattle.format.specs.declared.Refusal.TheVariants.{Invalid, Corrupt, NoEntry}
use Rattle.cases.specs.Listing.{blank, listing}
use Rattle.format.specs.Record.{fetched}

-- "block size is half the length, program size 16, numbers 0 and 1, block count 0, seed 0"
abbrev geometry : Geometry
geometry = record { block_size = 128; prog_size = 16 }

-- "rev 1, block 0, end 48, count 1, tail none, erased no"
abbrev pub listed : LfsMdir
listed =
    record {
      pair = record { n0 = 0; n1 = 1 };
      rev = 1;
      off = 48;
      etag = 0x500f_fc0d;
      count = 1;
      erased = false;
      split = false;
      tail = record { n0 = all_ones; n1 = all_ones };
      fcrc = no_forward;
    }

pub fetched_listing : fetch_of geometry listing (blank 128) 0 1 0 0 ≡ Ok (fetched listed 0x1ec4_df69)
unfolding fetch_of geometry_fits pair_fits too_high view rank log committed walk walk_from walk_in class_of read_behind
    body_length tag_flipped be32 le32 to_le32 xor tag_length crc crc_byte crc_bits crc_bit mdir_of erased_of stopped_straight span
    event_length tag_after counted count_of tail_of split_of forward_of seed_of
fetched_listing = refl

-- the blocks given the other way round: the record's pair begins with the block that answered
pub fetched_second : fetch_of geometry (blank 128) listing 7 5 8 0 ≡ Ok (fetched (record {
  pair = record { n0 = 5; n1 = 7 };
  rev = 1;
  off = 48;
  etag = 0x500f_fc0d;
  count = 1;
  erased = false;
  split = false;
  tail = record { n0 = all_ones; n1 = all_ones };
  fcrc = no_forward;
}) 0x1ec4_df69)
unfolding fetch_of geometry_fits pair_fits too_high view rank log committed walk walk_from walk_in class_of read_behind
    body_length tag_flipped be32 le32 to_le32 xor tag_length crc crc_byte crc_bits crc_bit mdir_of erased_of stopped_straight span
    event_length tag_after counted count_of tail_of split_of forward_of seed_of
fetched_second = refl

-- "Fetch tests -22, -84, -2": equal numbers before a number that is too high
pub equal_numbers : fetch_of geometry listing (blank 128) 9 9 8 0 ≡ Err Invalid
unfolding fetch_of geometry_fits pair_fits
equal_numbers = refl

pub number_too_high : fetch_of geometry listing (blank 128) 0 8 8 0 ≡ Err Corrupt
unfolding fetch_of geometry_fits pair_fits too_high
number_too_high = refl

-- ---- lookups, with no move pending
abbrev still : LfsGstate
still = record { tag = 0; pair = record { n0 = 0; n1 = 0 } }

-- "type under 0x700" with the id, and of an attribute "0x7ff for each attribute type"
abbrev by_type1 : ℕ
by_type1 = 0x700f_fc00

abbrev by_type3 : ℕ
by_type3 = 0x7fff_fc00

-- the name of slot 0: its tag, its stored length, where its data begin behind the tag at 8; and the name in a buffer of
-- six bytes, the rest of it zeroed
pub name_found : getslice_of geometry listing (blank 128) 0 1 listed still by_type1 0x0000_0000 0 (blank 6)
    ≡ Ok (record { tag = 0x0010_0004; length = 8; off = 12 })
unfolding getslice_of getslice_fits record_fits geometry_fits pair_fits searched back backs wlook spliced_at as_ids be32 xor
    tag_length tag_of
name_found = refl

pub name_read : getslice_buffer geometry listing (blank 128) 0 1 listed still by_type1 0x0000_0000 0 (blank 6)
    ≡ 0x71 ∷ 0x32 ∷ 0x31 ∷ 0x32 ∷ 0 ∷ 0 ∷ []
unfolding getslice_buffer getslice_fits record_fits geometry_fits pair_fits searched back backs wlook spliced_at as_ids be32
    xor tag_length tag_of
name_read = refl

-- the deadline, two bytes of it from offset 1: length and place are the entry's all the same
pub deadline_found : getslice_of geometry listing (blank 128) 0 1 listed still by_type3 0x3740_0000 1 (blank 2)
    ≡ Ok (record { tag = 0x3740_0004; length = 8; off = 27 })
unfolding getslice_of getslice_fits record_fits geometry_fits pair_fits searched back backs wlook spliced_at as_ids be32 xor
    tag_length tag_of
deadline_found = refl

pub deadline_read : getslice_buffer geometry listing (blank 128) 0 1 listed still by_type3 0x3740_0000 1 (blank 2)
    ≡ 0x5f ∷ 0x01 ∷ []
unfolding getslice_buffer getslice_fits record_fits geometry_fits pair_fits searched back backs wlook spliced_at as_ids be32
    xor tag_length tag_of
deadline_read = refl

-- an attribute that is not there: the search ends at the slot's create, and the buffer stays
pub attribute_missing : getslice_of geometry listing (blank 128) 0 1 listed still by_type3 0x3750_0000 0 (blank 2)
    ≡ Err NoEntry
unfolding getslice_of getslice_fits record_fits geometry_fits pair_fits searched back backs wlook spliced_at as_ids be32 xor
    tag_length tag_of
attribute_missing = refl

pub attribute_missing_buffer : getslice_buffer geometry listing (blank 128) 0 1 listed still by_type3 0x3750_0000 0
    (blank 2) ≡ blank 2
unfolding getslice_buffer getslice_fits record_fits geometry_fits pair_fits searched back backs wlook spliced_at as_ids be32
    xor tag_length tag_of
attribute_missing_buffer = refl

-- a pending move of slot 0 on this pair: "answers -2 at its own id"
pub moved_away : getslice_of geometry listing (blank 128) 0 1 listed
    (record { tag = 0x4ff0_0000; pair = record { n0 = 1; n1 = 9 } }) by_type1 0x0000_0000 0 (blank 6)
    ≡ Err NoEntry
unfolding getslice_of getslice_fits record_fits geometry_fits pair_fits searched
moved_away = refl

-- "a record whose pair isn't the two given numbers .. or whose end passes the block": -22
pub end_past : getslice_of geometry listing (blank 128) 0 1
    (record {
      pair = listed.pair;
      rev = 1;
      off = 129;
      etag = 0;
      count = 1;
      erased = false;
      split = false;
      tail = listed.tail;
      fcrc = listed.fcrc;
    }) still by_type1 0 0 [] ≡ Err Invalid
unfolding getslice_of getslice_fits record_fits geometry_fits pair_fits
end_past = refl

-- the info of slot 0, and of the root
pub info_of_slot : getinfo_of geometry listing (blank 128) 0 1 listed still 8 0
    ≡ Ok (record { kind = 1; size = 3; name = 0x71 ∷ 0x32 ∷ 0x31 ∷ 0x32 ∷ blank_buffer 252 })
unfolding getinfo_of getinfo_fits record_fits geometry_fits pair_fits searched back backs wlook spliced_at as_ids be32 le32 xor
    tag_length tag_of
info_of_slot = refl

pub info_of_root : getinfo_of geometry listing (blank 128) 0 1 listed still 8 1_023
    ≡ Ok (record { kind = 2; size = 0; name = 0x2f ∷ blank_buffer 255 })
unfolding getinfo_of getinfo_fits record_fits geometry_fits pair_fits
info_of_root = refl
