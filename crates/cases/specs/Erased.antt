-- Document 02, L7, by computation: the two erased bytes and no other; a pair that is moved to a board which erases to
-- 0x00: refused, then compacted and committed to, byte for byte, and stopped; a log of both kinds; the coincidence. The
-- bytes were worked out apart, by samples/writer.py. Assumes nothing.
use Rattle.std.specs.Prelude.{◌≡◌, refl, true, false, List, [], ◌∷◌, ◌++◌, map, ℕ, replicate, take, Err, Ok, Result}
use Rattle.format.specs.Crc.{crc, crc_byte, crc_bits, crc_bit}
use Rattle.format.specs.Word.{be32, le32, to_be32, to_le32, xor}
use Rattle.format.specs.Tag.{tag_length, tag_flipped, tag_of}
use Rattle.format.specs.Walk.{read_behind, class_of, body_length, walk_in, walk_from, walk}
use Rattle.format.specs.Log.{committed, log, event_length, span, tag_after, stopped_straight}
use Rattle.format.specs.Record.{counted, count_of, no_tail, tail_of, split_of, forward_of, seed_of}
use Rattle.format.specs.View.{rank, view}
use Rattle.format.specs.Fetch.{geometry_fits, pair_fits, too_high, erased_of, mdir_of, fetch_of}
use Rattle.format.specs.Regular.{rule_of, rule_holds, count_after, grows_after, count_raised, regular_from, Regular}
use Rattle.format.specs.Directory.{upd, empty, reaching, apply, dir, act, acts, dir_of, move_of}
use Rattle.format.specs.Erased.{erased_fits, erased, all_erased, validity_fits, check_type}
use Rattle.format.specs.Commit.{check_tag, commit_bytes}
use Rattle.format.specs.Stores.{fill, entries_length, appending, compact_bytes, compacting, tag_coincides, coincides}
use Rattle.format.specs.Entries.{entry_body, judge}
use Rattle.format.specs.Room.{room_of}
use Rattle.format.specs.Writer.{rounded_end, check_size, carries, carried_for, with_forward, commit_fits, placed, appended}
use Rattle.format.specs.Writer.{verdict_of, Images, images, unlimited, commit_images, commit_of}
use Rattle.format.specs.Compaction.{slot_items, dir_items, compaction_items, placed_anew, compactable, compact_verdict}
use Rattle.format.specs.Compaction.{compact_images, compact_of}
use Rattle.format.specs.declared.Geometry.{Geometry}
use Rattle.format.specs.declared.LfsFcrc.{LfsFcrc}
use Rattle.format.specs.declared.LfsMdir.{LfsMdir}
use Rattle.format.specs.declared.Entry.{Entry}
use Rattle.format.specs.declared.Refusal.TheVariants.{Invalid, WrongValidity, Coincidence}
use Rattle.cases.specs.Listing.{blank, listing}
use Rattle.format.specs.declared.Fetched.{Fetched}
use Rattle.format.specs.declared.Refusal.{Refusal}
use Rattle.format.specs.Record.{fetched}

-- "0xff or 0x00", and the bytes beside them; "0x500 for 0xff and 0x501 for 0x00"
pub bytes : (map erased_fits (0xff ∷ 0x00 ∷ 0x01 ∷ 0x7f ∷ 0x80 ∷ 0xfe ∷ []) ≡ true ∷ true ∷ false ∷ false ∷ false ∷ false
    ∷ [])
    × (check_tag 0xff 9 ≡ 0x500f_fc09) × (check_tag 0x00 9 ≡ 0x501f_fc09)
unfolding check_type tag_of
bytes = (refl, refl, refl)

abbrev geometry : Geometry
geometry = record { block_size = 128; prog_size = 16 }

abbrev zeros : ℕ → List ℕ
zeros n = erased 0x00 n

-- a deadline for slot 0
abbrev deadline : Entry
deadline = record { kind = 0x374; id = 0; off = 0; len = 4 }

abbrev hour : List ℕ
hour = 0x10 ∷ 0x0e ∷ 0x00 ∷ 0x00 ∷ []

-- The listing, laid on 0xff, compacted to 0x00: revision, entries, the forward check of sixteen zeros, a check of type
-- 0x501.
abbrev renewed : List ℕ
renewed =
    (0x02 ∷ 0x00 ∷ 0x00 ∷ 0x00 ∷ 0xbf ∷ 0xef ∷ 0xff ∷ 0xff ∷ 0x40 ∷ 0x00 ∷ 0x00 ∷ 0x04 ∷ 0x71 ∷ 0x32 ∷ 0x31 ∷ 0x32
    ∷ 0x20 ∷ 0x00 ∷ 0x00 ∷ 0x07 ∷ 0x61 ∷ 0x62 ∷ 0x63 ∷ 0x17 ∷ 0x50 ∷ 0x00 ∷ 0x07 ∷ 0x90 ∷ 0x5f ∷ 0x01 ∷ 0x00 ∷ 0x68
    ∷ 0xbf ∷ 0xfc ∷ 0x0c ∷ 0x10 ∷ 0x00 ∷ 0x00 ∷ 0x00 ∷ 0xaa ∷ 0xb4 ∷ 0x44 ∷ 0x13 ∷ 0x0f ∷ 0xe0 ∷ 0x00 ∷ 0x19 ∷ 0xf9
    ∷ 0xee ∷ 0xdf ∷ 0x62 ∷ [])
    ++ zeros 77

-- The 28 bytes of a commit behind it, at 64.
abbrev more : List ℕ
more = 0xe7 ∷ 0x5f ∷ 0xfc ∷ 0x15 ∷ 0x10 ∷ 0x0e ∷ 0x00 ∷ 0x00 ∷ 0x68 ∷ 0xbf ∷ 0xfc ∷ 0x0c ∷ 0x10 ∷ 0x00 ∷ 0x00 ∷ 0x00
    ∷ 0xaa ∷ 0xb4 ∷ 0x44 ∷ 0x13 ∷ 0x0f ∷ 0xe0 ∷ 0x00 ∷ 0x00 ∷ 0x92 ∷ 0x7c ∷ 0x76 ∷ 0x9d ∷ []

abbrev hourly : List ℕ
hourly = take 64 renewed ++ more ++ zeros 36

-- the check of sixteen zeros, and a record that holds it
abbrev sixteen : LfsFcrc
sixteen = record { seen = true; size = 16; sum = 0x1344_b4aa }

abbrev record_at : ℕ → ℕ → ℕ → ℕ → ℕ → LfsMdir
record_at n0 n1 rev off etag = record {
  pair = record { n0 = n0; n1 = n1 };
  rev = rev;
  off = off;
  etag = etag;
  count = 1;
  erased = true;
  split = false;
  tail = no_tail;
  fcrc = sixteen;
}

abbrev commit : ℕ → List ℕ → List ℕ → List ℕ → Result Fetched Refusal
commit e b0 b1 dat = commit_of geometry b0 b1 0 1 0 0 0 e (deadline ∷ []) dat

-- Of the compaction and of the commit: the images, and the answers; the end tag's bit 31 is set.
pub written : (compact_images geometry listing (blank 128) 0 1 0 0 0 0x00 unlimited ≡ images listing renewed)
    × (compact_of geometry listing (blank 128) 0 1 0 0 0 0x00 ≡ Ok (fetched (record_at 1 0 2 64 0xd01f_fc11) 0xfd0e_7d23))
    × (commit_images geometry listing renewed 0 1 0 0 0 0x00 (deadline ∷ []) hour unlimited ≡ images listing hourly)
    × (commit 0x00 listing renewed hour ≡ Ok (fetched (record_at 1 0 2 96 0xd01f_fc08) 0x0e58_d16e))
unfolding with_forward carried_for carries commit_images commit_of verdict_of commit_fits compact_images compact_of
    compact_verdict compactable placed_anew compacting compact_bytes compaction_items dir_items slot_items dir_of dir acts act
    apply reaching upd empty move_of pair_fits geometry_fits fetch_of too_high view rank log committed walk walk_from walk_in
    class_of read_behind body_length tag_length tag_flipped be32 le32 to_be32 to_le32 xor crc crc_byte crc_bits crc_bit mdir_of
    erased_of stopped_straight span event_length tag_after count_of counted split_of tail_of forward_of seed_of appended Regular
    regular_from rule_of rule_holds count_after grows_after count_raised judge entry_body placed rounded_end check_size room_of
    all_erased validity_fits check_type coincides tag_coincides fill entries_length tag_of appending commit_bytes
written = (refl, refl, refl, refl)

-- Moved, and not compacted first: the validity bit is wrong, either way. Another byte is -22, of a pair that fetch
-- would refuse with -84 too.
pub refused : (commit 0x00 listing (blank 128) hour ≡ Err WrongValidity)
    × (commit 0xff listing renewed hour ≡ Err WrongValidity)
    × (commit 0x01 listing (blank 128) hour ≡ Err Invalid)
    × (commit 0x01 (blank 128) (blank 128) hour ≡ Err Invalid)
    × (compact_of geometry listing (blank 128) 0 1 0 0 0 0xfe ≡ Err Invalid)
    × (compact_of geometry (blank 128) (blank 128) 0 1 0 0 0 0xfe ≡ Err Invalid)
unfolding with_forward carried_for carries commit_images commit_of verdict_of commit_fits compact_images compact_of
    compact_verdict pair_fits geometry_fits fetch_of too_high view rank log committed walk walk_from walk_in class_of read_behind
    body_length tag_length tag_flipped be32 le32 to_be32 to_le32 xor crc crc_byte crc_bits crc_bit mdir_of erased_of
    stopped_straight span event_length tag_after count_of counted split_of tail_of forward_of seed_of appended Regular
    regular_from rule_of rule_holds count_after grows_after count_raised judge entry_body placed rounded_end check_size room_of
    all_erased validity_fits check_type coincides tag_coincides fill entries_length tag_of appending commit_bytes
refused = (refl, refl, refl, refl, refl, refl)

-- A log of both kinds: the listing's check is of type 0x500, that of the commit behind it 0x501. What follows goes by
-- the byte given.
abbrev mixed : List ℕ
mixed = take 48 listing
    ++ (0x67 ∷ 0x4f ∷ 0xfc ∷ 0x09 ∷ 0x10 ∷ 0x0e ∷ 0x00 ∷ 0x00 ∷ 0x67 ∷ 0x5f ∷ 0xfc ∷ 0x00 ∷ 0x82 ∷ 0xc9 ∷ 0x1f ∷ 0x6e
    ∷ [])
    ++ zeros 64

pub both_kinds : (commit 0x00 mixed (blank 128) (0x90 ∷ 0x5f ∷ 0x01 ∷ 0x00 ∷ []) ≡ Ok (fetched (record_at 0 1 1 96 0xd01f_fc08) 0x259d_0ceb))
    × (commit 0xff mixed (blank 128) hour ≡ Err WrongValidity)
unfolding with_forward carried_for carries commit_images commit_of verdict_of commit_fits pair_fits geometry_fits fetch_of
    too_high view rank log committed walk walk_from walk_in class_of read_behind body_length tag_length tag_flipped be32 le32
    to_be32 to_le32 xor crc crc_byte crc_bits crc_bit mdir_of erased_of stopped_straight span event_length tag_after count_of
    counted split_of tail_of forward_of seed_of appended Regular regular_from rule_of rule_holds count_after grows_after
    count_raised judge entry_body placed rounded_end check_size room_of all_erased validity_fits check_type coincides
    tag_coincides fill entries_length tag_of appending commit_bytes
both_kinds = (refl, refl)

-- ---- stopped: the end that fetch finds after so many stores
abbrev end_of : Result Fetched Refusal → ℕ
end_of (Ok f) = f.dir.off
end_of (Err r) = 0

abbrev end_in : Images → ℕ
end_in i = end_of (fetch_of geometry i.b0 i.b1 0 1 0 0)

-- Of the commit's 28 stores: none, one, in the first tag, behind the data, in the check tag, in the checksum, all. The
-- old end but for the last: what is erased behind a cut is the entry before it again, and no check.
pub commit_stops : map (λ n. end_in (commit_images geometry listing renewed 0 1 0 0 0 0x00 (deadline ∷ []) hour n))
    (0 ∷ 1 ∷ 3 ∷ 8 ∷ 21 ∷ 23 ∷ 25 ∷ 27 ∷ 28 ∷ []) ≡ replicate 8 64 ++ (96 ∷ [])
unfolding with_forward carried_for carries commit_images verdict_of commit_fits pair_fits geometry_fits fetch_of too_high view
    rank log committed walk walk_from walk_in class_of read_behind body_length tag_length tag_flipped be32 le32 to_be32 to_le32
    xor crc crc_byte crc_bits crc_bit mdir_of erased_of stopped_straight span event_length tag_after count_of counted split_of
    tail_of forward_of seed_of appended Regular regular_from rule_of rule_holds count_after grows_after count_raised judge
    entry_body placed rounded_end check_size room_of all_erased validity_fits check_type coincides tag_coincides fill
    entries_length tag_of appending commit_bytes
commit_stops = refl

-- Of the compaction's 52: none, the erase, in the revision, behind it, behind an entry, in the check tag and the
-- checksum, all.
pub compaction_stops : map (λ n. end_in (compact_images geometry listing (blank 128) 0 1 0 0 0 0x00 n))
    (0 ∷ 1 ∷ 3 ∷ 5 ∷ 17 ∷ 45 ∷ 47 ∷ 51 ∷ 52 ∷ []) ≡ replicate 8 48 ++ (64 ∷ [])
unfolding with_forward carried_for carries compact_images compact_verdict compactable placed_anew compacting compact_bytes
    compaction_items dir_items slot_items dir_of dir acts act apply reaching upd empty move_of pair_fits geometry_fits fetch_of
    too_high view rank log committed walk walk_from walk_in class_of read_behind body_length tag_length tag_flipped be32 le32
    to_be32 to_le32 xor crc crc_byte crc_bits crc_bit mdir_of erased_of stopped_straight span event_length tag_after count_of
    counted split_of tail_of forward_of seed_of Regular regular_from rule_of rule_holds count_after grows_after count_raised
    rounded_end check_size check_type coincides tag_coincides fill entries_length tag_of commit_bytes
compaction_stops = refl

-- ---- the coincidence: with these four bytes the checksum behind the first byte of the check tag and three zeros is 0.
-- So cut there, the commit would be read as a whole one: its end would be 96, and not 64. It is refused.
abbrev fatal : List ℕ
fatal = 0x90 ∷ 0xf5 ∷ 0xf9 ∷ 0xee ∷ []

abbrev cut : List ℕ
cut =
    take 64 renewed
    ++ (0xe7 ∷ 0x5f ∷ 0xfc ∷ 0x15 ∷ 0x90 ∷ 0xf5 ∷ 0xf9 ∷ 0xee ∷ 0x68 ∷ 0xbf ∷ 0xfc ∷ 0x0c ∷ 0x10 ∷ 0x00 ∷ 0x00 ∷ 0x00
    ∷ 0xaa ∷ 0xb4 ∷ 0x44 ∷ 0x13 ∷ 0x0f ∷ [])
    ++ zeros 43

pub coincidence : (commit 0x00 listing renewed fatal ≡ Err Coincidence)
    × (end_of (fetch_of geometry listing cut 0 1 0 0) ≡ 96)
unfolding with_forward carried_for carries commit_images commit_of verdict_of commit_fits pair_fits geometry_fits fetch_of
    too_high view rank log committed walk walk_from walk_in class_of read_behind body_length tag_length tag_flipped be32 le32
    to_be32 to_le32 xor crc crc_byte crc_bits crc_bit mdir_of erased_of stopped_straight span event_length tag_after count_of
    counted split_of tail_of forward_of seed_of appended Regular regular_from rule_of rule_holds count_after grows_after
    count_raised judge entry_body placed rounded_end check_size room_of all_erased validity_fits check_type coincides
    tag_coincides fill entries_length tag_of appending commit_bytes
coincidence = (refl, refl)
