-- Document 01's listing input, its first block: it walks to its five entries and ends at 48, and its log is regular.
-- Assumes nothing.
use Rattle.std.specs.Prelude.{◌≡◌, refl, true, false, List, [], ◌∷◌, ◌++◌, ℕ, replicate}
use Rattle.format.specs.Word.{be32, le32, xor}
use Rattle.format.specs.Tag.{tag_length, tag_flipped, mk_tag}
use Rattle.format.specs.Kind.{type_file, type_inline_struct, type_create, type_check, no_slot}
use Rattle.format.specs.Crc.{crc, crc_byte, crc_bits, crc_bit}
use Rattle.format.specs.Walk.{Event, ent, chk, inv, read_behind, class_of, body_length, walk_in, walk_from, walk}
use Rattle.format.specs.Log.{committed, log, event_length, span, tag_after, log_end, log_end_tag, stopped_straight}
use Rattle.format.specs.declared.Rules.TheVariants.{Document, Littlefs}
use Rattle.format.specs.Regular.{rule_of, rule_holds, count_after, grows_after, count_raised, regular_from, Regular}

-- "123456789", whose published CRC-32 is 0xcbf43926: "our register 0x340bc6d9 before inversion"
pub published : crc 0xffff_ffff (0x31 ∷ 0x32 ∷ 0x33 ∷ 0x34 ∷ 0x35 ∷ 0x36 ∷ 0x37 ∷ 0x38 ∷ 0x39 ∷ []) ≡ 0x340b_c6d9
unfolding crc crc_byte crc_bits crc_bit
published = refl

-- erased flash
abbrev pub blank : ℕ → List ℕ
blank n = replicate n 0xff

-- the names and data
abbrev pub q212 : List ℕ
q212 = 0x71 ∷ 0x32 ∷ 0x31 ∷ 0x32 ∷ []

abbrev pub abc : List ℕ
abc = 0x61 ∷ 0x62 ∷ 0x63 ∷ []

abbrev pub deadline : List ℕ
deadline = 0x90 ∷ 0x5f ∷ 0x01 ∷ 0x00 ∷ []

-- "first 128 bytes, revision 1, raw tags 0xbfefffff, 0x40000004 + "q212", 0x20000007 + "abc", 0x17500007 + 90 5f 01 00,
-- 0x674ffc09, checksum, then 0xff"
abbrev pub listing : List ℕ
listing =
    (0x01 ∷ 0x00 ∷ 0x00 ∷ 0x00 ∷ [])
    ++ (0xbf ∷ 0xef ∷ 0xff ∷ 0xff ∷ [])
    ++ (0x40 ∷ 0x00 ∷ 0x00 ∷ 0x04 ∷ q212)
    ++ (0x20 ∷ 0x00 ∷ 0x00 ∷ 0x07 ∷ abc)
    ++ (0x17 ∷ 0x50 ∷ 0x00 ∷ 0x07 ∷ deadline)
    ++ (0x67 ∷ 0x4f ∷ 0xfc ∷ 0x09 ∷ [])
    ++ (0x47 ∷ 0x38 ∷ 0xe4 ∷ 0x4d ∷ [])
    ++ blank 89

-- a create, the name q212, the inline file abc, its deadline, and the check, which is padded to 48
abbrev pub entries : List Event
entries =
    ent (mk_tag type_create 0 0) []
    ∷ ent (mk_tag type_file 0 4) q212
    ∷ ent (mk_tag type_inline_struct 0 3) abc
    ∷ ent (mk_tag 0x374 0 4) deadline
    ∷ chk (mk_tag type_check no_slot 13) 0x4de4_3847
    ∷ []

-- the walk meets them, and then erased flash, straight after the commit
pub walked : walk listing ≡ entries ++ (inv ∷ [])
unfolding walk walk_from walk_in class_of read_behind body_length tag_flipped be32 le32 xor tag_length crc crc_byte crc_bits
    crc_bit
walked = refl

pub straight_after : stopped_straight false (entries ++ (inv ∷ [])) ≡ true
unfolding stopped_straight
straight_after = refl

pub logged : log listing ≡ entries
unfolding log committed walk walk_from walk_in class_of read_behind body_length tag_flipped be32 le32 xor tag_length crc
    crc_byte crc_bits crc_bit
logged = refl

pub ends_at_48 : log_end entries ≡ 48
unfolding span event_length tag_length
ends_at_48 = refl

-- the end tag is the check's own: chunk's low bit is clear
pub end_tag_lem : log_end_tag entries ≡ 0x500f_fc0d
unfolding tag_after tag_flipped
end_tag_lem = refl

pub is_regular : (Regular Document entries ≡ true) × (Regular Littlefs entries ≡ true)
unfolding Regular regular_from rule_of rule_holds count_after grows_after count_raised
is_regular = (refl, refl)
