-- The raw log of document 01's listing: its first block, tag by tag, and the erased one beside it; the same with all
-- data; a block whose checksum is another; what is refused. Assumes nothing.
use Rattle.std.specs.Prelude.{◌≡◌, refl, true, false, [], ◌∷◌, ◌++◌, take, drop}
use Rattle.format.specs.Word.{be32, le32, to_be32, to_le32, xor}
use Rattle.format.specs.Tag.{tag_length, tag_flipped}
use Rattle.format.specs.Crc.{crc, crc_byte, crc_bits, crc_bit}
use Rattle.format.specs.Walk.{read_behind, class_of, body_length, walk_in, walk_from, walk}
use Rattle.format.specs.Log.{committed, log, event_length, span, tag_after, stopped_straight}
use Rattle.format.specs.Record.{counted, count_of, tail_of, split_of, forward_of, seed_of}
use Rattle.format.specs.View.{rank, view}
use Rattle.format.specs.Fetch.{geometry_fits, pair_fits, too_high, erased_of, mdir_of, fetch_of}
use Rattle.format.specs.Listing.{ascii, hex_digit, decimal_in, hex_bytes, number_line, refused_line, fetch_input, input_pair}
use Rattle.format.specs.RawLog.{margin, column, id_column, size_column, name_in, class_name, tag_name, type_columns}
use Rattle.format.specs.RawLog.{tag_columns, cell, hex_cells, letter, letters, cells, cut_data, data_line, data_lines}
use Rattle.format.specs.RawLog.{full_data, entry_text, check_text, stop_line, invalid_stop, check_stop, past_stop, stop_text}
use Rattle.format.specs.RawLog.{event_texts}
use Rattle.format.specs.RawLog.{committed_line, block_log, answers_line, is_shown, block_logs, raw_log_of}
use Rattle.cases.specs.Listing.{blank, listing}

-- An erased block: the walk takes its first word for a name without data, and no check follows.
pub logged : raw_log_of false 16 input_pair (listing ++ blank 128)
    ≡ ascii "block 0 rev 1\noff       tag       type name          id  len  data\n"
    ++ (ascii "00000004: 40100000  401  create         0    0\n"
    ++ (ascii "00000008: 00100004  001  reg            0    4  71 32 31 32              q212\n"
    ++ (ascii "00000010: 20100003  201  inlinestruct   0    3  61 62 63                 abc\n"
    ++ (ascii "00000017: 37400004  374  userattr       0    4  90 5f 01 00              ._..\n"
    ++ (ascii "0000001f: 500ffc0d  500  ccrc           .   13  checksum 4de43847 fits\n"
    ++ (ascii "stops at 00000030: no valid tag, the word there is ffffffff\ncommitted up to 00000030\n\n"
    ++ (ascii "block 1 rev 4294967295\noff       tag       type name          id  len  data\n"
    ++ (ascii "00000004: 00000000  000  name           0    0\n"
    ++ (ascii "stops at 00000008: no valid tag, the word there is ffffffff\nnothing is committed\n\n"
    ++ ascii "block 0 answers\n")))))))))
unfolding fetch_input refused_line number_line hex_bytes decimal_in hex_digit margin column id_column size_column name_in
    class_name tag_name type_columns tag_columns cell hex_cells letter letters cells cut_data data_line data_lines full_data
    entry_text check_text stop_line invalid_stop check_stop past_stop stop_text event_texts committed_line block_log answers_line
    is_shown block_logs fetch_of mdir_of erased_of too_high pair_fits geometry_fits view rank seed_of forward_of split_of tail_of
    count_of counted stopped_straight tag_after span event_length log committed walk walk_from walk_in class_of read_behind
    body_length tag_flipped tag_length be32 le32 to_be32 to_le32 xor crc crc_byte crc_bits crc_bit
logged = refl

-- all data, in lines below the tags
pub in_full : block_log true 7 listing
    ≡ ascii "block 7 rev 1\noff       tag       type name          id  len  data\n"
    ++ (ascii "00000004: 40100000  401  create         0    0\n"
    ++ (ascii "00000008: 00100004  001  reg            0    4\n"
    ++ (ascii "      0000000c: 71 32 31 32                                      q212\n"
    ++ (ascii "00000010: 20100003  201  inlinestruct   0    3\n"
    ++ (ascii "      00000014: 61 62 63                                         abc\n"
    ++ (ascii "00000017: 37400004  374  userattr       0    4\n"
    ++ (ascii "      0000001b: 90 5f 01 00                                      ._..\n"
    ++ (ascii "0000001f: 500ffc0d  500  ccrc           .   13  checksum 4de43847 fits\n"
    ++ (ascii "      00000023: 47 38 e4 4d ff ff ff ff ff ff ff ff ff           G8.M.........\n"
    ++ ascii "stops at 00000030: no valid tag, the word there is ffffffff\ncommitted up to 00000030\n\n")))))))))
unfolding fetch_input refused_line number_line hex_bytes decimal_in hex_digit margin column id_column size_column name_in
    class_name tag_name type_columns tag_columns cell hex_cells letter letters cells cut_data data_line data_lines full_data
    entry_text check_text stop_line invalid_stop check_stop past_stop stop_text event_texts committed_line block_log answers_line
    is_shown block_logs tag_after span event_length log committed walk walk_from walk_in class_of read_behind body_length
    tag_flipped tag_length be32 le32 to_be32 to_le32 xor crc crc_byte crc_bits crc_bit
in_full = refl

-- torn: behind its tag the check's first byte is 0x46 and not 0x47, so nothing of the block is committed
pub torn : block_log false 0 (take 35 listing ++ (0x46 ∷ drop 36 listing))
    ≡ ascii "block 0 rev 1\noff       tag       type name          id  len  data\n"
    ++ (ascii "00000004: 40100000  401  create         0    0\n"
    ++ (ascii "00000008: 00100004  001  reg            0    4  71 32 31 32              q212\n"
    ++ (ascii "00000010: 20100003  201  inlinestruct   0    3  61 62 63                 abc\n"
    ++ (ascii "00000017: 37400004  374  userattr       0    4  90 5f 01 00              ._..\n"
    ++ (ascii "0000001f: 500ffc0d  500  ccrc           .   13  checksum 4de43846 does not fit, computed 4de43847\n"
    ++ ascii "stops at 0000001f: the checksum does not fit\nnothing is committed\n\n")))))
unfolding fetch_input refused_line number_line hex_bytes decimal_in hex_digit margin column id_column size_column name_in
    class_name tag_name type_columns tag_columns cell hex_cells letter letters cells cut_data data_line data_lines full_data
    entry_text check_text stop_line invalid_stop check_stop past_stop stop_text event_texts committed_line block_log answers_line
    is_shown block_logs tag_after span event_length log committed walk walk_from walk_in class_of read_behind body_length
    tag_flipped tag_length be32 le32 to_be32 to_le32 xor crc crc_byte crc_bits crc_bit
torn = refl

-- an input that can't be two blocks: nothing is shown of it
pub refusals : (raw_log_of false 16 input_pair [] ≡ ascii "refused -22\n")
    × (raw_log_of true 16 input_pair (blank 254) ≡ ascii "refused -22\n")
    × (raw_log_of false 16 input_pair (listing ++ blank 127) ≡ ascii "refused -22\n")
unfolding fetch_input refused_line number_line decimal_in is_shown fetch_of pair_fits geometry_fits
refusals = (refl, refl, refl)
