-- Document 02, L6, by computation: the refetch behind a commit; why it needs the record's forward check; a last
-- checksum that reaches past the end; a compaction, behind which it is no fetch; and its refusals. Assumes nothing.
use Rattle.std.specs.Prelude.{◌≡◌, refl, Bool, true, false, List, [], ◌∷◌, ◌++◌, ℕ, Err, Ok, Result}
use Rattle.format.specs.Crc.{crc, crc_byte, crc_bits, crc_bit}
use Rattle.format.specs.Word.{be32, le32, to_be32, to_le32, xor}
use Rattle.format.specs.Tag.{tag_length, tag_flipped, tag_of}
use Rattle.format.specs.Walk.{read_behind, class_of, body_length, walk_in, walk_from, walk}
use Rattle.format.specs.Log.{committed, log, event_length, span, tag_after, stopped_straight}
use Rattle.format.specs.Record.{counted, count_of, no_tail, tail_of, split_of, no_forward, forward_of, seed_of}
use Rattle.format.specs.View.{rank, view}
use Rattle.format.specs.Fetch.{geometry_fits, pair_fits, too_high, erased_of, mdir_of, fetch_of}
use Rattle.format.specs.Lookup.{record_fits}
use Rattle.format.specs.Refetch.{mdir_behind, refetch_of, known_to}
use Rattle.format.specs.Regular.{rule_of, rule_holds, count_after, grows_after, count_raised, regular_from, Regular}
use Rattle.format.specs.Directory.{upd, empty, reaching, apply, dir, act, acts, dir_of, move_of}
use Rattle.format.specs.Commit.{commit_bytes}
use Rattle.format.specs.Erased.{all_erased, check_type, validity_fits}
use Rattle.format.specs.Stores.{fill, entries_length, appending, compact_bytes, compacting, tag_coincides, coincides}
use Rattle.format.specs.Entries.{entry_body, judge}
use Rattle.format.specs.Room.{room_of}
use Rattle.format.specs.Writer.{rounded_end, check_size, carries, carried_for, with_forward, commit_fits, placed, appended}
use Rattle.format.specs.Writer.{verdict_of, Images, unlimited, commit_images, commit_of}
use Rattle.format.specs.Compaction.{slot_items, dir_items, compaction_items, placed_anew, compactable, compact_verdict}
use Rattle.format.specs.Compaction.{compact_images}
use Rattle.format.specs.declared.Geometry.{Geometry}
use Rattle.format.specs.declared.LfsFcrc.{LfsFcrc}
use Rattle.format.specs.declared.LfsMdir.{LfsMdir}
use Rattle.format.specs.declared.Refusal.TheVariants.{Invalid, Corrupt, TooMany}
use Rattle.cases.specs.Listing.{blank, listing}
use Rattle.format.specs.declared.Fetched.{Fetched}
use Rattle.format.specs.declared.Refusal.{Refusal}
use Rattle.format.specs.Record.{fetched}

abbrev geometry : Geometry
geometry = record { block_size = 128; prog_size = 16 }

abbrev fetch : List ℕ → ℕ → Result Fetched Refusal
fetch b seed = fetch_of geometry b (blank 128) 0 1 0 seed

abbrev refetch : List ℕ → ℕ → LfsMdir → Result Fetched Refusal
refetch b seed m = refetch_of geometry b (blank 128) 0 1 0 seed m

-- a record of the first block with revision 1, no tail and no slot split off
abbrev record_at : ℕ → ℕ → ℕ → Bool → LfsFcrc → LfsMdir
record_at off etag count erased f = record {
  pair = record { n0 = 0; n1 = 1 };
  rev = 1;
  off = off;
  etag = etag;
  count = count;
  erased = erased;
  split = false;
  tail = no_tail;
  fcrc = f;
}

-- ---- behind a commit
-- The listing, its record and the seed behind it; and the listing with the deadline of an hour committed to it.
abbrev before : LfsMdir
before = record_at 48 0x500f_fc0d 1 false no_forward

abbrev hourly : List ℕ
hourly = (commit_images geometry listing (blank 128) 0 1 0 0 0 0xff
    (record { kind = 0x374; id = 0; off = 0; len = 4 } ∷ [])
    (0x10 ∷ 0x0e ∷ 0x00 ∷ 0x00 ∷ []) unlimited).b0

-- the check of sixteen erased bytes, as littlefs itself writes it
abbrev sixteen : LfsFcrc
sixteen = record { seen = true; size = 16; sum = 0xc04c_39e5 }

pub behind_commit : (fetch listing 0 ≡ Ok (fetched before 0x1ec4_df69))
    × (refetch hourly 0x1ec4_df69 before ≡ Ok (fetched (record_at 80 0x500f_fc08 1 true sixteen) 0x8431_4617))
    × (fetch hourly 0 ≡ Ok (fetched (record_at 80 0x500f_fc08 1 true sixteen) 0x8431_4617))
unfolding refetch_of record_fits mdir_behind with_forward carried_for carries commit_images commit_of verdict_of commit_fits
    pair_fits geometry_fits fetch_of too_high view rank log committed walk walk_from walk_in class_of read_behind body_length
    tag_length tag_flipped be32 le32 to_be32 to_le32 xor crc crc_byte crc_bits crc_bit mdir_of erased_of stopped_straight span
    event_length tag_after count_of counted split_of tail_of forward_of seed_of appended Regular regular_from rule_of rule_holds
    count_after grows_after count_raised judge entry_body placed rounded_end check_size room_of all_erased coincides
    tag_coincides fill check_type validity_fits entries_length tag_of appending commit_bytes
behind_commit = (refl, refl, refl)

-- ---- why it needs the forward check
-- Two blocks: a forward check of eight erased bytes and a check; in its place an inline struct with the same bytes.
-- Both logs end at 24, which is no multiple of the program size, so neither is marked erased.
abbrev with_forward_check : List ℕ
with_forward_check =
    (0x01 ∷ 0x00 ∷ 0x00 ∷ 0x00 ∷ 0xa0 ∷ 0x00 ∷ 0x03 ∷ 0xf7 ∷ 0x08 ∷ 0x00 ∷ 0x00 ∷ 0x00 ∷ 0xe3 ∷ 0x20 ∷ 0xbb ∷ 0xde
    ∷ 0x0f ∷ 0xf0 ∷ 0x00 ∷ 0x0c ∷ 0x6e ∷ 0xd3 ∷ 0x34 ∷ 0xa3 ∷ [])

abbrev without_forward_check : List ℕ
without_forward_check =
    (0x01 ∷ 0x00 ∷ 0x00 ∷ 0x00 ∷ 0xdf ∷ 0xef ∷ 0xff ∷ 0xf7 ∷ 0x08 ∷ 0x00 ∷ 0x00 ∷ 0x00 ∷ 0xe3 ∷ 0x20 ∷ 0xbb ∷ 0xde
    ∷ 0x70 ∷ 0x1f ∷ 0xfc ∷ 0x0c ∷ 0xe4 ∷ 0x35 ∷ 0x8b ∷ 0xc0 ∷ [])

-- A commit of nothing but its check, which ends at 48; behind it stands erased flash.
abbrev more : List ℕ
more = 0x00 ∷ 0x00 ∷ 0x00 ∷ 0x10 ∷ 0x87 ∷ 0x30 ∷ 0x0c ∷ 0xc3 ∷ []

-- eight erased bytes
abbrev eight : LfsFcrc
eight = record { seen = true; size = 8; sum = 0xdebb_20e3 }

-- The two fetches give records that differ in the forward check alone, and one seed: each is begun from a seed that
-- makes it so. Behind both ends stand the same bytes; and yet behind the commit one is marked erased, the other not. So
-- nothing that is told record, seed and the bytes from the end on could answer both without the field.
pub forward_needed : (fetch (with_forward_check ++ blank 104) 0
    ≡ Ok (fetched (record_at 24 0x500f_fc04 0 false eight) 0xa0c3_0afc))
    × (fetch (without_forward_check ++ blank 104) 0x63bf_e68a
    ≡ Ok (fetched (record_at 24 0x500f_fc04 0 false no_forward) 0xa0c3_0afc))
    × (refetch (with_forward_check ++ more ++ blank 96) 0xa0c3_0afc (record_at 24 0x500f_fc04 0 false eight)
    ≡ Ok (fetched (record_at 48 0x500f_fc14 0 true eight) 0x0d1b_bcb8))
    × (refetch (without_forward_check ++ more ++ blank 96) 0xa0c3_0afc (record_at 24 0x500f_fc04 0 false no_forward)
    ≡ Ok (fetched (record_at 48 0x500f_fc14 0 false no_forward) 0x0d1b_bcb8))
    × (fetch (with_forward_check ++ more ++ blank 96) 0 ≡ Ok (fetched (record_at 48 0x500f_fc14 0 true eight) 0x0d1b_bcb8))
    × (fetch (without_forward_check ++ more ++ blank 96) 0x63bf_e68a
    ≡ Ok (fetched (record_at 48 0x500f_fc14 0 false no_forward) 0x0d1b_bcb8))
unfolding refetch_of record_fits mdir_behind pair_fits geometry_fits fetch_of too_high view rank log committed walk walk_from
    walk_in class_of read_behind body_length tag_length tag_flipped be32 le32 to_le32 xor crc crc_byte crc_bits crc_bit mdir_of
    erased_of stopped_straight span event_length tag_after count_of counted split_of tail_of forward_of seed_of
forward_needed = (refl, refl, refl, refl, refl, refl)

-- ---- a last checksum that reaches past the end
-- A check of size 0 alone: the log ends at 8, and its checksum stands at 8 to 11. With the byte at 9 altered a fetch
-- finds no commit, and the refetch, which reads it as a tag's, still finds the old one.
abbrev short : List ℕ
short = 0x01 ∷ 0x00 ∷ 0x00 ∷ 0x00 ∷ 0xaf ∷ 0xf0 ∷ 0x03 ∷ 0xff ∷ 0xc5 ∷ 0xe6 ∷ 0x94 ∷ 0xf0 ∷ []

abbrev altered : List ℕ
altered = 0x01 ∷ 0x00 ∷ 0x00 ∷ 0x00 ∷ 0xaf ∷ 0xf0 ∷ 0x03 ∷ 0xff ∷ 0xc5 ∷ 0xe7 ∷ 0x94 ∷ 0xf0 ∷ []

pub past_the_end : (fetch (short ++ blank 116) 0 ≡ Ok (fetched (record_at 8 0x500f_fc00 0 false no_forward) 0x446c_0f24))
    × (known_to (record_at 8 0x500f_fc00 0 false no_forward) ≡ 12)
    × (fetch (altered ++ blank 116) 0 ≡ Err Corrupt)
    × (refetch (altered ++ blank 116) 0x446c_0f24 (record_at 8 0x500f_fc00 0 false no_forward)
    ≡ Ok (fetched (record_at 8 0x500f_fc00 0 false no_forward) 0x446c_0f24))
unfolding refetch_of record_fits mdir_behind pair_fits geometry_fits fetch_of too_high view rank log committed walk walk_from
    walk_in class_of read_behind body_length tag_length tag_flipped be32 le32 to_le32 xor crc crc_byte crc_bits crc_bit mdir_of
    erased_of stopped_straight span event_length tag_after count_of counted split_of tail_of forward_of seed_of
past_the_end = (refl, refl, refl, refl)

-- ---- a compaction: the other block is altered, and only a fetch sees it
abbrev after : Images
after = compact_images geometry listing (blank 128) 0 1 0 0 0 0xff unlimited

pub behind_compaction : (refetch_of geometry after.b0 after.b1 0 1 0 0x1ec4_df69 before ≡ Ok (fetched before 0x1ec4_df69))
    × (fetch_of geometry after.b0 after.b1 0 1 0 0 ≡ Ok (fetched (record {
      pair = record { n0 = 1; n1 = 0 };
      rev = 2;
      off = 64;
      etag = 0x500f_fc11;
      count = 1;
      erased = true;
      split = false;
      tail = no_tail;
      fcrc = sixteen;
    }) 0x5a0f_8cfc))
unfolding refetch_of record_fits mdir_behind with_forward carried_for carries compact_images compact_verdict compactable
    placed_anew compacting compact_bytes compaction_items dir_items slot_items dir_of dir acts act apply reaching upd empty
    move_of pair_fits geometry_fits fetch_of too_high view rank log committed walk walk_from walk_in class_of read_behind
    body_length tag_length tag_flipped be32 le32 to_be32 to_le32 xor crc crc_byte crc_bits crc_bit mdir_of erased_of
    stopped_straight span event_length tag_after count_of counted split_of tail_of forward_of seed_of Regular regular_from rule_of
    rule_holds count_after grows_after count_raised rounded_end check_size coincides tag_coincides fill check_type validity_fits
    entries_length tag_of commit_bytes
behind_compaction = (refl, refl)

-- ---- the refusals, and what is no refusal
-- "end below 8", "end passes the block", "pair isn't the given one": -22. Either order of the pair is taken. A number
-- too high is -84, behind these. A count above 1,023 is -2, the record's own too. A record without a forward check
-- comes back with none, whatever its size and sum; its erased mark is not read.
abbrev numbered : ℕ → ℕ → LfsMdir
numbered n0 n1 = record {
  pair = record { n0 = n0; n1 = n1 };
  rev = 7;
  off = 8;
  etag = 0;
  count = 0;
  erased = true;
  split = true;
  tail = record { n0 = 3; n1 = 4 };
  fcrc = record { seen = false; size = 5; sum = 6 };
}

abbrev answered : LfsMdir
answered = record {
  pair = record { n0 = 1; n1 = 0 };
  rev = 7;
  off = 8;
  etag = 0;
  count = 0;
  erased = false;
  split = true;
  tail = record { n0 = 3; n1 = 4 };
  fcrc = no_forward;
}

pub refusals : (refetch listing 0 (record_at 7 0 0 false no_forward) ≡ Err Invalid)
    × (refetch listing 0 (record_at 129 0 0 false no_forward) ≡ Err Invalid)
    × (refetch listing 0 (numbered 0 2) ≡ Err Invalid)
    × (refetch listing 9 (numbered 1 0) ≡ Ok (fetched answered 9))
    × (refetch_of geometry listing (blank 128) 0 1 1 0 (numbered 0 1) ≡ Err Corrupt)
    × (refetch_of geometry listing (blank 128) 0 1 1 0 (numbered 0 2) ≡ Err Invalid)
    × (refetch listing 9 (record_at 128 0 1_024 false no_forward)
    ≡ Err (TooMany (fetched (record_at 128 0 1_024 false no_forward) 9)))
unfolding refetch_of record_fits mdir_behind pair_fits geometry_fits fetch_of too_high view rank log committed walk walk_from
    walk_in class_of read_behind body_length tag_length tag_flipped be32 le32 to_le32 xor crc crc_byte crc_bits crc_bit mdir_of
    erased_of stopped_straight span event_length tag_after count_of counted split_of tail_of forward_of seed_of
refusals = (refl, refl, refl, refl, refl, refl, refl)
