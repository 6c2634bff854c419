-- Document 01, Tag: "A tag is 32 bits: validity (bit 31, valid when 0), type 11 bits, id 10 bits, size 10 bits."
-- Each field is a quotient and a remainder by a power of two. Assumes nothing.
use Rattle.std.specs.Prelude.{Bool, cond, ℕ, ◌+◌, ◌*◌, ◌/◌, ◌%◌, ◌^◌, eqb, ltb, ℤ}
use Rattle.std.specs.Int.Bits.{bit_or}
use Rattle.std.specs.Int.{w8}
use Rattle.std.proofs.Common.{to_z}

-- "validity (bit 31, valid when 0)"
abbrev pub tag_valid : ℕ → Bool
tag_valid t = ltb t (2 ^ 31)

-- "type1, type2, type3 are the type under 0x700, 0x780, 0x7ff"
abbrev pub tag_type1 : ℕ → ℕ
tag_type1 t = t / 2 ^ 28 % 2 ^ 3 * 2 ^ 8

abbrev pub tag_type2 : ℕ → ℕ
tag_type2 t = t / 2 ^ 27 % 2 ^ 4 * 2 ^ 7

abbrev pub tag_type3 : ℕ → ℕ
tag_type3 t = t / 2 ^ 20 % 2 ^ 11

-- "Chunk is the type's low 8 bits"
abbrev pub tag_chunk : ℕ → ℕ
tag_chunk t = t / 2 ^ 20 % 2 ^ 8

-- "splice is chunk as signed, -128 to 127"
abbrev pub tag_splice : ℕ → ℤ
tag_splice t = to_z w8 (tag_chunk t)

abbrev pub tag_id : ℕ → ℕ
tag_id t = t / 2 ^ 10 % 2 ^ 10

abbrev pub tag_size : ℕ → ℕ
tag_size t = t % 2 ^ 10

-- "Size 0x3ff means removal."
abbrev pub removal_size : ℕ
removal_size = 0x3ff

abbrev pub tag_delete : ℕ → Bool
tag_delete t = eqb (tag_size t) removal_size

-- "The stored length is 4 plus size, or 4 for a removal." It counts the tag's own four bytes.
unfoldable pub tag_length : ℕ → ℕ
tag_length t = cond (tag_delete t) 4 (4 + tag_size t)

-- "chunk's low bit flips bit 31 of the previous tag": of a valid tag, that is a check's.
unfoldable pub tag_flipped : ℕ → ℕ
tag_flipped t = t + t / 2 ^ 20 % 2 * 2 ^ 31

-- A tag of its three parts, as LFS_MKTAG shifts and joins any three words: what passes a field runs into the next, what
-- passes 32 bits is lost.
abbrev pub mk_tag : ℕ → ℕ → ℕ → ℕ
mk_tag type id size = bit_or (bit_or (type * 2 ^ 20 % 2 ^ 32) (id * 2 ^ 10 % 2 ^ 32)) size

-- LFS_MKTAG_IF: the tag where the condition holds, and else the tag of LFS_FROM_NOOP, which is 0.
abbrev pub mk_tag_if : Bool → ℕ → ℕ → ℕ → ℕ
mk_tag_if c type id size = cond c (mk_tag type id size) (mk_tag 0 0 0)

-- The tag of a type of 11 bits, an id and a size of 10 bits each. LFS_MKTAG is the same there (`mk_tag_sum` of
-- proofs/Words.antt).
unfoldable pub tag_of : ℕ → ℕ → ℕ → ℕ
tag_of type id size = type * 2 ^ 20 + id * 2 ^ 10 + size
