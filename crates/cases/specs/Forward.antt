-- Document 02, L5, at its edges, by computation: a forward check that just fits and one that just doesn't; what the
-- mark says where none was carried, with an earlier one in the block and without; one that is not committed; a
-- compaction. Assumes nothing.
use Rattle.std.specs.Prelude.{◌≡◌, refl, Bool, true, false, List, [], ◌∷◌, ◌++◌, ℕ, replicate, Err, Ok, Result}
use Rattle.format.specs.Crc.{crc, crc_byte, crc_bits, crc_bit}
use Rattle.format.specs.Word.{be32, le32, to_be32, to_le32, xor}
use Rattle.format.specs.Tag.{tag_length, tag_flipped, tag_of}
use Rattle.format.specs.Walk.{read_behind, class_of, body_length, walk_in, walk_from, walk}
use Rattle.format.specs.Log.{committed, log, event_length, span, tag_after, stopped_straight}
use Rattle.format.specs.Record.{counted, count_of, no_tail, tail_of, split_of, no_forward, forward_of, seed_of}
use Rattle.format.specs.View.{rank, view}
use Rattle.format.specs.Fetch.{geometry_fits, pair_fits, too_high, erased_of, mdir_of, fetch_of}
use Rattle.format.specs.Regular.{rule_of, rule_holds, count_after, grows_after, count_raised, regular_from, Regular}
use Rattle.format.specs.Directory.{upd, empty, reaching, apply, dir, act, acts, dir_of, move_of}
use Rattle.format.specs.Commit.{commit_bytes}
use Rattle.format.specs.Erased.{all_erased, check_type, validity_fits}
use Rattle.format.specs.Stores.{fill, entries_length, appending, compact_bytes, compacting, tag_coincides, coincides}
use Rattle.format.specs.Entries.{entry_body, judge}
use Rattle.format.specs.Room.{room_of}
use Rattle.format.specs.Writer.{rounded_end, check_size, carries, carried_for, with_forward, commit_fits, placed, appended}
use Rattle.format.specs.Writer.{verdict_of, images, unlimited, commit_images, commit_of}
use Rattle.format.specs.Compaction.{slot_items, dir_items, compaction_items, placed_anew, compactable, compact_verdict}
use Rattle.format.specs.Compaction.{compact_images, compact_of}
use Rattle.format.specs.declared.Geometry.{Geometry}
use Rattle.format.specs.declared.LfsFcrc.{LfsFcrc}
use Rattle.format.specs.declared.LfsMdir.{LfsMdir}
use Rattle.format.specs.declared.Entry.{Entry}
use Rattle.cases.specs.Listing.{blank, listing}
use Rattle.format.specs.declared.Fetched.{Fetched}
use Rattle.format.specs.declared.Refusal.{Refusal}
use Rattle.format.specs.Record.{fetched}

abbrev geometry : Geometry
geometry = record { block_size = 128; prog_size = 16 }

-- what a commit, a compaction or a fetch says of the end and of what is behind it
pub record Told : Type 0 where
  pub end : ℕ
  pub erased' : Bool
  pub fcrc : LfsFcrc

abbrev untold : Told
untold = record { end = 0; erased' = false; fcrc = no_forward }

abbrev record_told : LfsMdir → Told
record_told m = record { end = m.off; erased' = m.erased; fcrc = m.fcrc }

abbrev told : Result Fetched Refusal → Told
told (Ok f) = record_told f.dir
told (Err r) = untold

abbrev fetch_told : Result Fetched Refusal → Told
fetch_told (Ok f) = record_told f.dir
fetch_told (Err r) = untold

-- the check of sixteen erased bytes, as littlefs itself writes it
abbrev sixteen : LfsFcrc
sixteen = record { seen = true; size = 16; sum = 0xc04c_39e5 }

-- a payload of n bytes for slot 0
abbrev payload : ℕ → Entry
payload n = record { kind = 0x201; id = 0; off = 0; len = n }

abbrev commit : List ℕ → Entry → List ℕ → Result Fetched Refusal
commit b e dat = commit_of geometry b (blank 128) 0 1 0 0 0 0xff (e ∷ []) dat

-- Behind the listing, whose end is 48. Of 40 bytes: with the twelve the check tag stands at 104, the end is 112, and
-- one unit follows. Of 41: the end would be 128; without them it is 112, and no forward check is in the block: the unit
-- behind is erased, and the mark says no.
pub edges : (told (commit listing (payload 40) (blank 41)) ≡ record { end = 112; erased' = true; fcrc = sixteen })
    × (told (commit listing (payload 41) (blank 41)) ≡ record { end = 112; erased' = false; fcrc = no_forward })
unfolding with_forward carried_for carries commit_images commit_of verdict_of commit_fits pair_fits geometry_fits fetch_of
    too_high view rank log committed walk walk_from walk_in class_of read_behind body_length tag_length tag_flipped be32 le32
    to_be32 to_le32 xor crc crc_byte crc_bits crc_bit mdir_of erased_of stopped_straight span event_length tag_after count_of
    counted split_of tail_of forward_of seed_of appended Regular regular_from rule_of rule_holds count_after grows_after
    count_raised judge entry_body placed rounded_end check_size room_of all_erased coincides tag_coincides fill check_type
    validity_fits entries_length tag_of appending commit_bytes
edges = (refl, refl)

-- The smallest fresh pair that stays unerased: one slot, an end of 16, an attribute of 84 bytes.
abbrev fresh : List ℕ
fresh =
    (0x01 ∷ 0x00 ∷ 0x00 ∷ 0x00 ∷ 0xbf ∷ 0xef ∷ 0xff ∷ 0xff ∷ 0x10 ∷ 0x1f ∷ 0xfc ∷ 0x04 ∷ 0x30 ∷ 0xd2 ∷ 0x16 ∷ 0x33 ∷ [])
    ++ blank 112

-- The listing with the deadline of an hour behind it: the forward check of its second commit stands in the block, and
-- the third commit, of 9 bytes, carries none. "a forward check was seen in ANY commit so far", and the last one's fits:
-- sixteen bytes behind the new end are erased.
abbrev hourly : List ℕ
hourly = (commit_images geometry listing (blank 128) 0 1 0 0 0 0xff
    (record { kind = 0x374; id = 0; off = 0; len = 4 } ∷ [])
    (0x10 ∷ 0x0e ∷ 0x00 ∷ 0x00 ∷ []) unlimited).b0

-- "the last committed forward check, or none": one that is not committed, behind the fresh pair's end.
abbrev uncommitted : List ℕ
uncommitted =
    (0x01 ∷ 0x00 ∷ 0x00 ∷ 0x00 ∷ 0xbf ∷ 0xef ∷ 0xff ∷ 0xff ∷ 0x10 ∷ 0x1f ∷ 0xfc ∷ 0x04 ∷ 0x30 ∷ 0xd2
    ∷ 0x16 ∷ 0x33 ∷ 0x0f ∷ 0xf0 ∷ 0x00 ∷ 0x0c ∷ 0x10 ∷ 0x00 ∷ 0x00 ∷ 0x00 ∷ 0xe5 ∷ 0x39 ∷ 0x4c ∷ 0xc0 ∷ [])
    ++ blank 100

pub marks : (told (commit fresh (record { kind = 0x300; id = 0; off = 0; len = 84 }) (blank 84))
    ≡ record { end = 112; erased' = false; fcrc = no_forward })
    × (told (commit hourly (payload 9) (replicate 9 0x61)) ≡ record { end = 112; erased' = true; fcrc = sixteen })
    × (fetch_told (fetch_of geometry uncommitted (blank 128) 0 1 0 0)
    ≡ record { end = 16; erased' = false; fcrc = no_forward })
unfolding with_forward carried_for carries commit_images commit_of verdict_of commit_fits pair_fits geometry_fits fetch_of
    too_high view rank log committed walk walk_from walk_in class_of read_behind body_length tag_length tag_flipped be32 le32
    to_be32 to_le32 xor crc crc_byte crc_bits crc_bit mdir_of erased_of stopped_straight span event_length tag_after count_of
    counted split_of tail_of forward_of seed_of appended Regular regular_from rule_of rule_holds count_after grows_after
    count_raised judge entry_body placed rounded_end check_size room_of all_erased coincides tag_coincides fill check_type
    validity_fits entries_length tag_of appending commit_bytes
marks = (refl, refl, refl)

-- The compaction of the listing: the revision, its four entries, the forward check, the check, and erased bytes.
abbrev renewed : List ℕ
renewed =
    (0x02 ∷ 0x00 ∷ 0x00 ∷ 0x00 ∷ 0xbf ∷ 0xef ∷ 0xff ∷ 0xff ∷ 0x40 ∷ 0x00 ∷ 0x00 ∷ 0x04 ∷ 0x71 ∷ 0x32 ∷ 0x31 ∷ 0x32
    ∷ 0x20 ∷ 0x00 ∷ 0x00 ∷ 0x07 ∷ 0x61 ∷ 0x62 ∷ 0x63 ∷ 0x17 ∷ 0x50 ∷ 0x00 ∷ 0x07 ∷ 0x90 ∷ 0x5f ∷ 0x01 ∷ 0x00 ∷ 0x68
    ∷ 0xbf ∷ 0xfc ∷ 0x0c ∷ 0x10 ∷ 0x00 ∷ 0x00 ∷ 0x00 ∷ 0xe5 ∷ 0x39 ∷ 0x4c ∷ 0xc0 ∷ 0x0f ∷ 0xf0 ∷ 0x00 ∷ 0x19 ∷ 0x1e
    ∷ 0x91 ∷ 0x83 ∷ 0x45 ∷ [])
    ++ blank 77

pub compacted : (compact_images geometry listing (blank 128) 0 1 0 0 0 0xff unlimited ≡ images listing renewed)
    × (compact_of geometry listing (blank 128) 0 1 0 0 0 0xff
    ≡ Ok (fetched (record {
      pair = record { n0 = 1; n1 = 0 };
      rev = 2;
      off = 64;
      etag = 0x500f_fc11;
      count = 1;
      erased = true;
      split = false;
      tail = no_tail;
      fcrc = sixteen;
    }) 0x5a0f_8cfc))
unfolding with_forward carried_for carries compact_images compact_of compact_verdict compactable placed_anew compacting
    compact_bytes compaction_items dir_items slot_items dir_of dir acts act apply reaching upd empty move_of pair_fits
    geometry_fits fetch_of too_high view rank log committed walk walk_from walk_in class_of read_behind body_length tag_length
    tag_flipped be32 le32 to_be32 to_le32 xor crc crc_byte crc_bits crc_bit mdir_of erased_of stopped_straight span event_length
    tag_after count_of counted split_of tail_of forward_of seed_of Regular regular_from rule_of rule_holds count_after grows_after
    count_raised rounded_end check_size coincides tag_coincides fill check_type validity_fits entries_length tag_of commit_bytes
compacted = (refl, refl)
