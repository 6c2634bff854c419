-- Document 01's listing, whole: its two images give its text. And refusals, and a name with escapes. Assumes nothing.
use Rattle.std.specs.Prelude.{◌≡◌, refl, [], ◌∷◌, ◌++◌}
use Rattle.format.specs.Word.{be32, le32, to_le32, xor}
use Rattle.format.specs.Tag.{tag_length, tag_flipped}
use Rattle.format.specs.Crc.{crc, crc_byte, crc_bits, crc_bit}
use Rattle.format.specs.Walk.{read_behind, class_of, body_length, walk_in, walk_from, walk}
use Rattle.format.specs.Log.{committed, log, event_length, span, tag_after, stopped_straight}
use Rattle.format.specs.Record.{counted, count_of, tail_of, split_of, forward_of, seed_of}
use Rattle.format.specs.View.{rank, view}
use Rattle.format.specs.Fetch.{geometry_fits, pair_fits, too_high, erased_of, mdir_of, fetch_of}
use Rattle.format.specs.Regular.{rule_of, rule_holds, count_after, grows_after, count_raised, regular_from, Regular}
use Rattle.format.specs.Directory.{empty, upd, reaching, apply, dir, act, acts, dir_of}
use Rattle.format.specs.Listing.{ascii, hex_digit, decimal_in, decimal, hex_bytes, is_plain, name_byte, name_bytes}
use Rattle.format.specs.Listing.{number_line, tail_line, erased_line, record_lines, name_fields, struct_fields, slot_line}
use Rattle.format.specs.Listing.{attr_line, attr_lines, slot_lines, refused_line, dir_lines, block_text, fetch_input}
use Rattle.format.specs.Listing.{listing_as, listing_of}
use Rattle.cases.specs.Listing.{blank, listing}

pub text : listing_of (listing ++ blank 128)
    ≡ ascii "rev 1\nblock 0\nend 48\ncount 1\ntail none\nerased no\nslot 0 001 q212 201 3\nattr 0 374 905f0100\n"
unfolding fetch_input block_text dir_lines refused_line slot_lines attr_lines attr_line slot_line struct_fields name_fields
    record_lines erased_line tail_line number_line name_bytes name_byte is_plain hex_bytes decimal_in hex_digit dir_of acts act dir
    apply reaching upd empty Regular regular_from rule_of rule_holds count_after grows_after count_raised fetch_of mdir_of
    erased_of too_high pair_fits
    geometry_fits view rank seed_of forward_of split_of tail_of count_of counted stopped_straight tag_after span event_length log
    committed walk walk_from walk_in class_of read_behind body_length tag_flipped tag_length be32 le32 to_le32 xor crc crc_byte
    crc_bits crc_bit
text = refl

-- The same images with program size 32, as the blocks 4 and 5: only the number is another, that of the half that
-- answers. Two blocks with one number are no pair.
pub text_as : (listing_as 32 (record { n0 = 4; n1 = 5 }) 0 (listing ++ blank 128)
    ≡ ascii "rev 1\nblock 4\nend 48\ncount 1\ntail none\nerased no\nslot 0 001 q212 201 3\nattr 0 374 905f0100\n")
    × (listing_as 32 (record { n0 = 4; n1 = 5 }) 0 (blank 128 ++ listing)
    ≡ ascii "rev 1\nblock 5\nend 48\ncount 1\ntail none\nerased no\nslot 0 001 q212 201 3\nattr 0 374 905f0100\n")
    × (listing_as 32 (record { n0 = 4; n1 = 4 }) 0 (listing ++ blank 128) ≡ ascii "refused -22\n")
unfolding fetch_input block_text dir_lines refused_line slot_lines attr_lines attr_line slot_line struct_fields name_fields
    record_lines erased_line tail_line number_line name_bytes name_byte is_plain hex_bytes decimal_in hex_digit dir_of acts act dir
    apply reaching upd empty Regular regular_from rule_of rule_holds count_after grows_after count_raised fetch_of mdir_of
    erased_of too_high pair_fits
    geometry_fits view rank seed_of forward_of split_of tail_of count_of counted stopped_straight tag_after span event_length log
    committed walk walk_from walk_in class_of read_behind body_length tag_flipped tag_length be32 le32 to_le32 xor crc crc_byte
    crc_bits crc_bit
text_as = (refl, refl, refl)

-- erased flash: no valid commit; an odd length, an empty input, halves that are no block
pub refusals : (listing_of (blank 256) ≡ ascii "refused -84\n")
    × (listing_of (listing ++ blank 127) ≡ ascii "refused -22\n")
    × (listing_of [] ≡ ascii "refused -22\n")
    × (listing_of (blank 224) ≡ ascii "refused -22\n")
unfolding fetch_input block_text dir_lines refused_line slot_lines attr_lines attr_line slot_line struct_fields name_fields
    record_lines erased_line tail_line number_line name_bytes name_byte is_plain hex_bytes decimal_in hex_digit dir_of acts act dir
    apply reaching upd empty Regular regular_from rule_of rule_holds count_after grows_after count_raised fetch_of mdir_of
    erased_of too_high pair_fits
    geometry_fits view rank seed_of forward_of split_of tail_of count_of counted stopped_straight tag_after span event_length log
    committed walk walk_from walk_in class_of read_behind body_length tag_flipped tag_length be32 le32 to_le32 xor crc crc_byte
    crc_bits crc_bit
refusals = (refl, refl, refl, refl)

-- a space, `!`, a backslash, `~`, 0x7f, 0xff and 0
pub escapes : name_bytes (0x20 ∷ 0x21 ∷ 0x5c ∷ 0x7e ∷ 0x7f ∷ 0xff ∷ 0x00 ∷ []) ≡ ascii "\\x20!\\x5c~\\x7f\\xff\\x00"
unfolding name_bytes name_byte is_plain hex_digit
escapes = refl

-- the greatest word, and zero
pub decimals : (decimal 4_294_967_295 ≡ ascii "4294967295") × (decimal 0 ≡ ascii "0") × (decimal 1_010 ≡ ascii "1010")
unfolding decimal_in
decimals = (refl, refl, refl)
