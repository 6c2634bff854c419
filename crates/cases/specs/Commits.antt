-- Document 01's listing block, and a commit behind it that sets the attribute 0x374 of slot 0 anew: by computation.
-- Assumes nothing.
use Rattle.std.specs.Prelude.{◌≡◌, refl, true, false, List, [], ◌∷◌, ◌++◌, ℕ, take, Err, Ok, Result}
use Rattle.format.specs.Crc.{crc, crc_byte, crc_bits, crc_bit}
use Rattle.format.specs.Word.{be32, le32, to_be32, to_le32, xor}
use Rattle.format.specs.Tag.{tag_length, tag_flipped, tag_of}
use Rattle.format.specs.Walk.{read_behind, class_of, body_length, walk_in, walk_from, walk}
use Rattle.format.specs.Log.{committed, log, event_length, span, tag_after, stopped_straight}
use Rattle.format.specs.Record.{counted, count_of, no_tail, tail_of, split_of, forward_of, seed_of}
use Rattle.format.specs.View.{rank, view}
use Rattle.format.specs.Fetch.{geometry_fits, pair_fits, too_high, erased_of, mdir_of, fetch_of}
use Rattle.format.specs.Regular.{rule_of, rule_holds, count_after, grows_after, count_raised, regular_from, Regular}
use Rattle.format.specs.Commit.{commit_bytes}
use Rattle.format.specs.Erased.{erased, all_erased, check_type, validity_fits}
use Rattle.format.specs.Stores.{fill, entries_length, appending, tag_coincides, coincides}
use Rattle.format.specs.Entries.{entry_body, judge}
use Rattle.format.specs.Room.{erased_run, first_unerased, room_of}
use Rattle.format.specs.Writer.{rounded_end, check_size, carries, carried_for, with_forward, commit_fits, placed}
use Rattle.format.specs.Writer.{appended, verdict_of, Images}
use Rattle.format.specs.Writer.{images, unlimited, commit_images, commit_of, commit_stores_of}
use Rattle.format.specs.declared.Geometry.{Geometry}
use Rattle.format.specs.declared.Entry.{Entry}
use Rattle.format.specs.declared.Refusal.TheVariants.{Invalid, BadEntry, NoSpace, Misaligned, WrongValidity, NotErased}
use Rattle.format.specs.declared.Fetched.{Fetched}
use Rattle.format.specs.declared.Refusal.{Refusal}
use Rattle.format.specs.Record.{fetched}

abbrev geometry : Geometry
geometry = record { block_size = 128; prog_size = 16 }

-- the first block up to its checksum's last byte
abbrev laid : List ℕ
laid = 0x01 ∷ 0x00 ∷ 0x00 ∷ 0x00 ∷ 0xbf ∷ 0xef ∷ 0xff ∷ 0xff ∷ 0x40 ∷ 0x00 ∷ 0x00 ∷ 0x04 ∷ 0x71 ∷ 0x32 ∷ 0x31 ∷ 0x32
    ∷ 0x20 ∷ 0x00 ∷ 0x00 ∷ 0x07 ∷ 0x61 ∷ 0x62 ∷ 0x63 ∷ 0x17 ∷ 0x50 ∷ 0x00 ∷ 0x07 ∷ 0x90 ∷ 0x5f ∷ 0x01 ∷ 0x00 ∷ 0x67
    ∷ 0x4f ∷ 0xfc ∷ 0x09 ∷ 0x47 ∷ 0x38 ∷ 0xe4 ∷ 0x4d ∷ []

abbrev first : List ℕ
first = laid ++ erased 0xff 89

abbrev second : List ℕ
second = erased 0xff 128

-- the same with a check of type 0x501, and the checksum of that
abbrev flipped : List ℕ
flipped = take 31 laid ++ (0x67 ∷ 0x5f ∷ 0xfc ∷ 0x09 ∷ 0x37 ∷ 0x9b ∷ 0xc2 ∷ 0x51 ∷ []) ++ erased 0xff 89

-- a deadline of 3,600 in place of 90,000
abbrev deadline : Entry
deadline = record { kind = 0x374; id = 0; off = 0; len = 4 }

abbrev seconds : List ℕ
seconds = 0x10 ∷ 0x0e ∷ 0x00 ∷ 0x00 ∷ []

-- the 28 bytes of the commit, at 48: tag, data; the forward check's tag, program size and checksum; check tag, checksum
abbrev more : List ℕ
more = 0x67 ∷ 0x4f ∷ 0xfc ∷ 0x09 ∷ 0x10 ∷ 0x0e ∷ 0x00 ∷ 0x00 ∷ 0x68 ∷ 0xbf ∷ 0xfc ∷ 0x0c ∷ 0x10 ∷ 0x00 ∷ 0x00 ∷ 0x00
    ∷ 0xe5 ∷ 0x39 ∷ 0x4c ∷ 0xc0 ∷ 0x0f ∷ 0xf0 ∷ 0x00 ∷ 0x00 ∷ 0x72 ∷ 0x6f ∷ 0x0e ∷ 0x8a ∷ []

-- a slot created behind slot 0, and a name for it that reads past the buffer
abbrev create : Entry
create = record { kind = 0x401; id = 1; off = 0; len = 0 }

abbrev past : Entry
past = record { kind = 0x001; id = 1; off = 1; len = 4 }

-- an inline struct: of 68 bytes the commit ends at the block size, of 69 the rounded end would be 144
abbrev struct : ℕ → Entry
struct n = record { kind = 0x201; id = 0; off = 0; len = n }

abbrev image : List Entry → List ℕ → ℕ → Images
image es dat n = commit_images geometry first second 0 1 0 0 0 0xff es dat n

abbrev answer : List ℕ → List Entry → List ℕ → Result Fetched Refusal
answer b es dat = commit_of geometry b second 0 1 0 0 0 0xff es dat

-- five stores; all of them; the answers; "an entry is bad", the space, both ("-201, -28": the entry); the end, 48, no
-- multiple of the program size 32, the end tag's validity bit, a byte far behind the end that isn't erased; equal block
-- numbers
listing : (image (deadline ∷ []) seconds 5 ≡ images (laid ++ erased 0xff 9 ++ take 5 more ++ erased 0xff 75) second)
    × (commit_stores_of geometry first second 0 1 0 0 0 0xff (deadline ∷ []) seconds 5 ≡ Ok 5)
    × (image (deadline ∷ []) seconds unlimited ≡ images (laid ++ erased 0xff 9 ++ more ++ erased 0xff 52) second)
    × (commit_stores_of geometry first second 0 1 0 0 0 0xff (deadline ∷ []) seconds 29 ≡ Ok 28)
    × (answer first (deadline ∷ []) seconds
    ≡ Ok (fetched (record {
      pair = record { n0 = 0; n1 = 1 };
      rev = 1;
      off = 80;
      etag = 0x500f_fc08;
      count = 1;
      erased = true;
      split = false;
      tail = no_tail;
      fcrc = record { seen = true; size = 16; sum = 0xc04c_39e5 };
    }) 0x8431_4617))
    × (answer first (create ∷ past ∷ []) seconds ≡ Err (BadEntry 1))
    × (image (create ∷ past ∷ []) seconds 5 ≡ images first second)
    × (commit_stores_of geometry first second 0 1 0 0 0 0xff (struct 68 ∷ []) (erased 0xff 69) 100 ≡ Ok 80)
    × (answer first (struct 69 ∷ []) (erased 0xff 69) ≡ Err NoSpace)
    × (answer first (struct 69 ∷ past ∷ []) (erased 0xff 69) ≡ Err (BadEntry 1))
    × (commit_of (record { block_size = 128; prog_size = 32 }) first second 0 1 0 0 0 0xff (deadline ∷ []) seconds
    ≡ Err Misaligned)
    × (answer flipped (deadline ∷ []) seconds ≡ Err WrongValidity)
    × (answer (laid ++ erased 0xff 88 ++ (0xfe ∷ [])) (deadline ∷ []) seconds ≡ Err (NotErased 127))
    × (commit_of geometry first second 7 7 0 0 0 0xff [] [] ≡ Err Invalid)
unfolding with_forward carried_for carries commit_images commit_of commit_stores_of verdict_of commit_fits pair_fits geometry_fits
    fetch_of too_high view rank log committed walk walk_from walk_in class_of read_behind body_length tag_length tag_flipped be32
    le32 to_be32 to_le32 xor crc crc_byte crc_bits crc_bit mdir_of erased_of stopped_straight span event_length tag_after count_of
    counted split_of tail_of forward_of seed_of appended Regular regular_from rule_of rule_holds count_after grows_after
    count_raised judge entry_body placed rounded_end check_size room_of erased_run first_unerased all_erased coincides
    tag_coincides fill check_type validity_fits entries_length tag_of appending commit_bytes
listing = (refl, refl, refl, refl, refl, refl, refl, refl, refl, refl, refl, refl, refl, refl)
