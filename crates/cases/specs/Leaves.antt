-- The leaves at their edges: tag fields, alignment, words in bytes, pairs of block numbers and the global state, as one
-- statement over a list; set digits. Where an expected value comes from stands above it: a sentence of document 01,
-- littlefs's own expression (lfs_util.h, lfs.c), or a sum worked out by hand. Assumes nothing.
use Rattle.std.specs.Prelude.{◌≡◌, refl, true, false, List, [], ◌∷◌, map, ℕ, ◌+◌, ◌*◌, ◌^◌, ◌<◌, pos, neg_ℤ}
use Rattle.std.proofs.Common.{ap, ◌∙◌, lit<}
use Rattle.std.specs.Int.Count.{ones}
use Rattle.std.proofs.lemmas.Nat.{ones_cat}
use Rattle.format.specs.Answer.{flag_of, result_number, answer_value}
use Rattle.format.specs.Arith.{align_down, align_up, popc}
use Rattle.format.specs.Pair.{pair_swapped, pair_null, pair_cmp, pair_sync}
use Rattle.format.specs.Gstate.{gstate_xor, gstate_zero, gstate_has_orphans, gstate_orphans, gstate_needs_superblock}
use Rattle.format.specs.Gstate.{gstate_has_move, gstate_has_move_here}
use Rattle.format.specs.Word.{le32, be32, to_le32, to_be32}
use Rattle.format.specs.Bytes.{le32_at, be32_at, put_answer, put_le32, put_be32}
use Rattle.format.specs.Tag.{tag_valid, tag_type1, tag_type2, tag_type3, tag_chunk, tag_id, tag_size, tag_delete}
use Rattle.format.specs.Tag.{mk_tag, mk_tag_if}
use Rattle.format.specs.declared.LfsPair.{LfsPair}
use Rattle.format.specs.declared.LfsGstate.{LfsGstate}
use Rattle.cases.specs.Cases.{Case}

abbrev pub two : ℕ → ℕ → LfsPair
two n m = record { n0 = n; n1 = m }

abbrev pub state : ℕ → LfsGstate
state t = record { tag = t; pair = two 1 2 }

abbrev five : List ℕ
five = 1 ∷ 2 ∷ 3 ∷ 4 ∷ 5 ∷ []

abbrev pub leaves : List Case
leaves =
    -- "validity (bit 31, valid when 0), type 11 bits, id 10 bits, size 10 bits": 0x4ff << 20 | 0x155 << 10 | 0x3ff
    record { given = pos (mk_tag 0x4ff 0x155 0x3ff); said = pos 0x4ff5_57ff }
    ∷ record { given = pos (tag_id 0x4ff5_57ff); said = pos 0x155 }
    ∷ record { given = pos (tag_size 0x4ff5_57ff); said = pos 0x3ff }
    ∷ record { given = pos (flag_of (tag_valid 0x7fff_ffff)); said = pos 1 }
    ∷ record { given = pos (flag_of (tag_valid 0x8000_0000)); said = pos 0 }
    -- "type1, type2, type3 are the type under 0x700, 0x780, 0x7ff. Chunk is the type's low 8 bits"
    ∷ record { given = pos (tag_type1 0x4ff5_57ff); said = pos 0x400 }
    ∷ record { given = pos (tag_type2 0x4ff5_57ff); said = pos 0x480 }
    ∷ record { given = pos (tag_type3 0x4ff5_57ff); said = pos 0x4ff }
    ∷ record { given = pos (tag_chunk 0x4ff5_57ff); said = pos 0xff }
    -- "Size 0x3ff means removal."
    ∷ record { given = pos (flag_of (tag_delete 0x4ff5_57ff)); said = pos 1 }
    ∷ record { given = pos (flag_of (tag_delete 0x4ff5_57fe)); said = pos 0 }
    -- LFS_MKTAG_IF: the tag, or LFS_MKTAG(LFS_FROM_NOOP, 0, 0), which is 0
    ∷ record { given = pos (mk_tag_if true 0x4ff 0x155 0x3ff); said = pos 0x4ff5_57ff }
    ∷ record { given = pos (mk_tag_if false 0x4ff 0x155 0x3ff); said = pos 0 }
    -- the lowest, or the highest, byte first; "A read whose start plus length passes the block size is -84"; stores too
    ∷ record { given = pos (answer_value (le32_at five 1)); said = pos 0x0504_0302 }
    ∷ record { given = pos (answer_value (be32_at five 1)); said = pos 0x0203_0405 }
    ∷ record { given = result_number (le32_at five 2); said = neg_ℤ (pos 84) }
    ∷ record { given = result_number (be32_at [] 0); said = neg_ℤ (pos 84) }
    ∷ record { given = result_number (put_answer five 1); said = pos 0 }
    ∷ record { given = result_number (put_answer five 2); said = neg_ℤ (pos 84) }
    -- "Alignment by 0 is refused with -22", whatever is aligned, and the value is 0
    ∷ record { given = result_number (align_down 0 0); said = neg_ℤ (pos 22) }
    ∷ record { given = result_number (align_up 7 0); said = neg_ℤ (pos 22) }
    ∷ record { given = pos (answer_value (align_up 7 0)); said = pos 0 }
    -- the alignment need be no power of two: 26 * 5 = 130 and 27 * 5 = 135, so 130 stays, 134 goes down and 131 up
    ∷ record { given = pos (answer_value (align_down 130 5)); said = pos 130 }
    ∷ record { given = pos (answer_value (align_down 134 5)); said = pos 130 }
    ∷ record { given = pos (answer_value (align_up 130 5)); said = pos 130 }
    ∷ record { given = pos (answer_value (align_up 131 5)); said = pos 135 }
    -- lfs_alignup is lfs_aligndown(a + alignment-1, alignment) on uint32_t: 0xffffffff + 1 wraps to 0
    ∷ record { given = pos (answer_value (align_up 0xffff_ffff 2)); said = pos 0 }
    -- lfs_pair_swap: each number in the other's place
    ∷ record { given = pos (pair_swapped (two 1 2)).n0; said = pos 2 }
    ∷ record { given = pos (pair_swapped (two 1 2)).n1; said = pos 1 }
    -- lfs_pair_isnull: pair[0] == LFS_BLOCK_NULL || pair[1] == LFS_BLOCK_NULL, which is 0xffffffff
    ∷ record { given = pos (flag_of (pair_null (two 0xffff_ffff 2))); said = pos 1 }
    ∷ record { given = pos (flag_of (pair_null (two 1 0xffff_ffff))); said = pos 1 }
    ∷ record { given = pos (flag_of (pair_null (two 0xffff_fffe 0))); said = pos 0 }
    -- lfs_pair_cmp: !(a[0] == b[0] || a[1] == b[1] || a[0] == b[1] || a[1] == b[0]), each of the four alone, and none
    ∷ record { given = pair_cmp (two 1 2) (two 1 3); said = pos 0 }
    ∷ record { given = pair_cmp (two 1 2) (two 3 2); said = pos 0 }
    ∷ record { given = pair_cmp (two 1 2) (two 3 1); said = pos 0 }
    ∷ record { given = pair_cmp (two 1 2) (two 2 3); said = pos 0 }
    ∷ record { given = pair_cmp (two 1 2) (two 3 4); said = pos 1 }
    -- lfs_pair_issync: (a[0] == b[0] && a[1] == b[1]) || (a[0] == b[1] && a[1] == b[0]); one block isn't enough
    ∷ record { given = pos (flag_of (pair_sync (two 1 2) (two 1 2))); said = pos 1 }
    ∷ record { given = pos (flag_of (pair_sync (two 1 2) (two 2 1))); said = pos 1 }
    ∷ record { given = pos (flag_of (pair_sync (two 1 2) (two 1 3))); said = pos 0 }
    ∷ record { given = pos (flag_of (pair_sync (two 1 2) (two 2 2))); said = pos 0 }
    -- lfs_gstate_hasorphans: the tag's size, ten bits, is not 0; the superblock's bit 0x200 is one of them, 0x400 isn't
    ∷ record { given = pos (flag_of (gstate_has_orphans (state 0x400))); said = pos 0 }
    ∷ record { given = pos (flag_of (gstate_has_orphans (state 0x001))); said = pos 1 }
    ∷ record { given = pos (flag_of (gstate_has_orphans (state 0x100))); said = pos 1 }
    ∷ record { given = pos (flag_of (gstate_has_orphans (state 0x200))); said = pos 1 }
    -- "`lfs_gstate_getorphans` keeps 8 of 9 bits": 256 read as 0, 511 as 511 - 256; the superblock's bit is the tenth
    ∷ record { given = pos (gstate_orphans (state 0x001)); said = pos 1 }
    ∷ record { given = pos (gstate_orphans (state 0x0ff)); said = pos 255 }
    ∷ record { given = pos (gstate_orphans (state 0x100)); said = pos 0 }
    ∷ record { given = pos (gstate_orphans (state 0x1ff)); said = pos 255 }
    ∷ record { given = pos (gstate_orphans (state 0x201)); said = pos 1 }
    -- lfs_gstate_needssuperblock: lfs_tag_size(a->tag) >> 9
    ∷ record { given = pos (flag_of (gstate_needs_superblock (state 0x200))); said = pos 1 }
    ∷ record { given = pos (flag_of (gstate_needs_superblock (state 0x1ff))); said = pos 0 }
    -- "a pending move (global tag's type1 not 0) whose pair shares any block": type1 of 0x4ff is 0x400, of 0x0ff 0
    ∷ record { given = pos (flag_of (gstate_has_move (state 0x4ff0_0000))); said = pos 1 }
    ∷ record { given = pos (flag_of (gstate_has_move (state 0x0ff0_0000))); said = pos 0 }
    ∷ record { given = pos (flag_of (gstate_has_move_here (state 0x4ff0_0000) (two 9 1))); said = pos 1 }
    ∷ record { given = pos (flag_of (gstate_has_move_here (state 0x4ff0_0000) (two 8 9))); said = pos 0 }
    ∷ record { given = pos (flag_of (gstate_has_move_here (state 0x0ff0_0000) (two 1 2))); said = pos 0 }
    -- a state XORed with itself is all zero, and one of whose three words one isn't 0 is not
    ∷ record { given = pos (flag_of (gstate_zero (gstate_xor (state 0x4ff0_0201) (state 0x4ff0_0201)))); said = pos 1 }
    ∷ record { given = pos (flag_of (gstate_zero (state 0))); said = pos 0 }
    ∷ record { given = pos (flag_of (gstate_zero (record { tag = 1; pair = two 0 0 }))); said = pos 0 }
    ∷ record { given = pos (flag_of (gstate_zero (record { tag = 0; pair = two 0 1 }))); said = pos 0 }
    ∷ []

pub leaves_said : map (λ c. c.given) leaves ≡ map (λ c. c.said) leaves
unfolding align_down align_up le32 be32
leaves_said = refl

-- a store leaves the bytes around it, and a refused one all of them
pub put : (put_le32 five 1 0x0a0b_0c0d ≡ 1 ∷ 0x0d ∷ 0x0c ∷ 0x0b ∷ 0x0a ∷ [])
    × (put_be32 five 0 0x0a0b_0c0d ≡ 0x0a ∷ 0x0b ∷ 0x0c ∷ 0x0d ∷ 5 ∷ []) × (put_be32 five 2 0x0a0b_0c0d ≡ five)
unfolding to_le32 to_be32
put = (refl, refl, refl)

-- ---- `lfs_popc`. A word's count goes through its bytes: at once it would take as many steps as the word says.
bytewise : (a b c d : ℕ) → b < 2 ^ 8 → c < 2 ^ 8 → d < 2 ^ 8
    → ones (((a * 2 ^ 8 + b) * 2 ^ 8 + c) * 2 ^ 8 + d) ≡ ones a + ones b + ones c + ones d
bytewise a b c d hb hc hd =
    ones_cat 8 ((a * 2 ^ 8 + b) * 2 ^ 8 + c) d hd
    ∙ ap (λ (x : ℕ). x + ones d) (ones_cat 8 (a * 2 ^ 8 + b) c hc ∙ ap (λ (x : ℕ). x + ones c) (ones_cat 8 a b hb))

-- none of 0's; 4 of 0xf0, so 4 + 4 + 0 + 1; the highest alone; 8 of each 0xff, so 4 * 8
in_bytes : (ones 0 ≡ 0) × (ones 0xf0 + ones 0xf0 + ones 0 + ones 1 ≡ 9) × (ones 0x80 + ones 0 + ones 0 + ones 0 ≡ 1)
    × (ones 0xff + ones 0xff + ones 0xff + ones 0xff ≡ 32)
unfolding ones
in_bytes = (refl, refl, refl, refl)

pub set_digits : (popc 0 ≡ 0) × (popc 0xf0f0_0001 ≡ 9) × (popc 0x8000_0000 ≡ 1) × (popc 0xffff_ffff ≡ 32)
set_digits = (
  in_bytes.0,
  bytewise 0xf0 0xf0 0 1 (lit< tt) (lit< tt) (lit< tt) ∙ in_bytes.1,
  bytewise 0x80 0 0 0 (lit< tt) (lit< tt) (lit< tt) ∙ in_bytes.2,
  bytewise 0xff 0xff 0xff 0xff (lit< tt) (lit< tt) (lit< tt) ∙ in_bytes.3,
)
