-- Blocks that a definition of the walk gets wrong easily. Assumes nothing.
use Rattle.std.specs.Prelude.{◌≡◌, refl, List, [], ◌∷◌, ◌++◌, ℕ, zero, suc}
use Rattle.format.specs.Word.{be32, le32, xor}
use Rattle.format.specs.Tag.{tag_length, tag_flipped, tag_splice}
use Rattle.format.specs.Crc.{crc, crc_byte, crc_bits, crc_bit}
use Rattle.format.specs.Walk.{ent, chk, inv, past, entry, read_behind, class_of, body_length, walk_in, walk_from, walk}
use Rattle.format.specs.Log.{committed, log, span, event_length, tag_after, log_end, log_end_tag}
use Rattle.format.specs.Count.{count_spliced}
use Rattle.cases.specs.Listing.{blank}

-- Of erased flash the first tag decodes as tag 0, a valid name of id 0, and the next one is invalid; nothing is
-- committed.
pub erased : walk (blank 128) ≡ ent 0 [] ∷ inv ∷ []
unfolding walk walk_from walk_in class_of read_behind body_length tag_flipped be32 le32 xor tag_length crc crc_byte crc_bits
    crc_bit
erased = refl

pub erased_log : log (blank 128) ≡ []
unfolding log committed walk walk_from walk_in class_of read_behind body_length tag_flipped be32 le32 xor tag_length crc
    crc_byte crc_bits crc_bit
erased_log = refl

-- "Tail: .. 8 bytes are read, though the size be smaller": a tail of removal size is 4 bytes long, reads 8 behind them,
-- and stops the walk where these pass the block.
pub tail_reads_eight : (class_of 0x600f_ffff 12 ≡ entry) × (class_of 0x600f_ffff 11 ≡ past) × (tag_length 0x600f_ffff ≡ 4)
unfolding class_of read_behind tag_length
tail_reads_eight = (refl, refl, refl)

-- A check whose size is 0 is checked all the same, and the next tag stands on its checksum's bytes: the walk reads
-- 0xc5e694f0 there, which XORed with the check's tag, 0x500ffc00, is invalid.
abbrev bare : List ℕ
bare = (0x01 ∷ 0x00 ∷ 0x00 ∷ 0x00 ∷ []) ++ (0xaf ∷ 0xf0 ∷ 0x03 ∷ 0xff ∷ []) ++ (0xc5 ∷ 0xe6 ∷ 0x94 ∷ 0xf0 ∷ [])
    ++ blank 116

pub overlapping : (log bare ≡ chk 0x500f_fc00 0xf094_e6c5 ∷ []) × (walk bare ≡ chk 0x500f_fc00 0xf094_e6c5 ∷ inv ∷ [])
    × (log_end (log bare) ≡ 8)
unfolding log committed span event_length walk walk_from walk_in class_of read_behind body_length tag_flipped be32 le32 xor
    tag_length crc crc_byte crc_bits crc_bit
overlapping = (refl, refl, refl)

-- "chunk's low bit flips bit 31 of the previous tag"
pub flipped : (log_end_tag (chk 0x501f_fc04 0 ∷ []) ≡ 0xd01f_fc04) × (log_end_tag (chk 0x500f_fc04 0 ∷ []) ≡ 0x500f_fc04)
unfolding tag_after tag_flipped
flipped = (refl, refl)

-- What stands behind the last check is not committed, and what stands before it is.
pub uncommitted : committed (ent 1 [] ∷ chk 2 0 ∷ ent 3 [] ∷ inv ∷ []) ≡ ent 1 [] ∷ chk 2 0 ∷ []
unfolding committed
uncommitted = refl

-- "count plus splice .. then modulo 65,536": 517 splices of +127 give 123.
abbrev times : ℕ → ℕ → ℕ
times zero c = c
times (suc n) c = times n (count_spliced c (tag_splice 0x47f0_0000))

pub storm : times 517 0 ≡ 123
storm = refl
