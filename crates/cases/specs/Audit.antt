-- The audit by computation: document 01's listing lacks nothing; the same instruction with its deadline in a commit of
-- its own, stopped before that commit's check, has a payload and no deadline; and what is said of a deadline by its
-- length. Assumes nothing.
use Rattle.std.specs.Prelude.{◌≡◌, refl, cond, List, [], ◌∷◌, ◌++◌, ℕ, eqb, None, Some}
use Rattle.format.specs.Word.{be32, le32, to_le32, xor}
use Rattle.format.specs.Tag.{tag_length, tag_flipped}
use Rattle.format.specs.Kind.{type_file, type_inline_struct}
use Rattle.format.specs.Crc.{crc, crc_byte, crc_bits, crc_bit}
use Rattle.format.specs.Walk.{read_behind, class_of, body_length, walk_in, walk_from, walk}
use Rattle.format.specs.Log.{committed, log, event_length, span, tag_after, stopped_straight}
use Rattle.format.specs.Record.{counted, count_of, tail_of, split_of, forward_of, seed_of}
use Rattle.format.specs.View.{rank, view}
use Rattle.format.specs.Fetch.{geometry_fits, pair_fits, too_high, erased_of, mdir_of, fetch_of}
use Rattle.format.specs.Regular.{rule_of, rule_holds, count_after, grows_after, count_raised, regular_from, Regular}
use Rattle.format.specs.Directory.{Slot, empty, upd, reaching, apply, dir, act, acts, dir_of}
use Rattle.format.specs.Listing.{ascii, hex_digit, decimal_in, is_plain, name_byte, name_bytes, number_line, refused_line}
use Rattle.format.specs.Listing.{fetch_input}
use Rattle.format.specs.Audit.{is_instruction, is_payload, is_deadline, is_there, lacks_deadline, lacks_payload}
use Rattle.format.specs.Audit.{name_or_dash, lack_line, deadline_line, audit_line, audit_lines, tally, total_lines, slots_audit}
use Rattle.format.specs.Audit.{block_audit, audit_of}
use Rattle.cases.specs.Listing.{q212, abc, deadline, blank, listing}

-- payload and deadline in one commit
pub together : audit_of (listing ++ blank 128)
    ≡ ascii "payload without deadline 0\ndeadline without payload 0\nslots 1\n"
unfolding fetch_input block_audit slots_audit total_lines tally audit_lines audit_line deadline_line lack_line name_or_dash
    lacks_payload lacks_deadline is_deadline is_there is_payload is_instruction refused_line number_line name_bytes name_byte
    is_plain decimal_in hex_digit dir_of acts act dir apply reaching upd empty Regular regular_from rule_of rule_holds
    count_after grows_after count_raised
    fetch_of mdir_of erased_of too_high pair_fits geometry_fits view rank seed_of forward_of split_of tail_of count_of counted
    stopped_straight tag_after span event_length log committed walk walk_from walk_in class_of read_behind body_length
    tag_flipped tag_length be32 le32 to_le32 xor crc crc_byte crc_bits crc_bit
together = refl

-- a create, the name q212, the inline file abc and the check of the first commit; then the deadline, with no check
-- behind it
abbrev pub apart : List ℕ
apart =
    (0x01 ∷ 0x00 ∷ 0x00 ∷ 0x00 ∷ [])
    ++ (0xbf ∷ 0xef ∷ 0xff ∷ 0xff ∷ [])
    ++ (0x40 ∷ 0x00 ∷ 0x00 ∷ 0x04 ∷ q212)
    ++ (0x20 ∷ 0x00 ∷ 0x00 ∷ 0x07 ∷ abc)
    ++ (0x70 ∷ 0x1f ∷ 0xfc ∷ 0x06 ∷ [])
    ++ (0x02 ∷ 0xae ∷ 0xa9 ∷ 0xf3 ∷ 0xff ∷ [])
    ++ (0x67 ∷ 0x4f ∷ 0xfc ∷ 0x01 ∷ deadline)
    ++ blank 88

pub lost : audit_of (apart ++ blank 128)
    ≡ ascii "slot 0 q212 no deadline\npayload without deadline 1\ndeadline without payload 0\nslots 1\n"
unfolding fetch_input block_audit slots_audit total_lines tally audit_lines audit_line deadline_line lack_line name_or_dash
    lacks_payload lacks_deadline is_deadline is_there is_payload is_instruction refused_line number_line name_bytes name_byte
    is_plain decimal_in hex_digit dir_of acts act dir apply reaching upd empty Regular regular_from rule_of rule_holds
    count_after grows_after count_raised
    fetch_of mdir_of erased_of too_high pair_fits geometry_fits view rank seed_of forward_of split_of tail_of count_of counted
    stopped_straight tag_after span event_length log committed walk walk_from walk_in class_of read_behind body_length
    tag_flipped tag_length be32 le32 to_le32 xor crc crc_byte crc_bits crc_bit
lost = refl

-- ---- a slot with the deadline d, with a payload and without
abbrev slot_of : List ℕ → List ℕ → Slot
slot_of payload d c =
    cond (eqb c 0) (Some (record { type = type_file; bytes = q212 }))
    (cond (eqb c 1) (Some (record { type = type_inline_struct; bytes = payload }))
    (cond (eqb c 118) (Some (record { type = 0x374; bytes = d })) None))

-- of four bytes; of two and of none, which can't be read; and without a payload, of whatever length
pub lengths : (audit_line 8 (slot_of abc deadline) ≡ [])
    × (audit_line 8 (slot_of abc (1 ∷ 2 ∷ [])) ≡ ascii "slot 8 q212 deadline of 2 bytes\n")
    × (audit_line 8 (slot_of abc []) ≡ ascii "slot 8 q212 deadline of 0 bytes\n")
    × (audit_line 8 (slot_of [] deadline) ≡ ascii "slot 8 q212 no payload\n")
    × (audit_line 8 (slot_of [] (1 ∷ 2 ∷ [])) ≡ ascii "slot 8 q212 no payload\n")
unfolding audit_line deadline_line lack_line name_or_dash lacks_payload lacks_deadline is_deadline is_there is_payload
    is_instruction name_bytes name_byte is_plain decimal_in
lengths = (refl, refl, refl, refl, refl)
