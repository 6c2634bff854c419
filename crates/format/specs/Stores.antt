-- Document 01, The added writer: what stands in a block after the first of its stores. Assumes nothing.
use Rattle.std.specs.Prelude.{Bool, ◌||◌, List, [], ◌∷◌, ◌++◌, ℕ, zero, suc, ◌+◌, length, eqb}
use Rattle.std.proofs.Math.Seq.{paste}
use Rattle.format.specs.Word.{le32, to_be32, to_le32, xor, all_ones}
use Rattle.format.specs.Tag.{tag_length}
use Rattle.format.specs.Crc.{crc}
use Rattle.format.specs.Walk.{Event}
use Rattle.format.specs.Log.{log_end, log_end_tag}
use Rattle.format.specs.Erased.{erased}
use Rattle.format.specs.Commit.{Item, commit_bytes}

-- l over as many erased bytes e, after the first k of its stores: "single bytes, rising"
unfoldable pub fill : ℕ → ℕ → List ℕ → List ℕ
fill e zero l = erased e (length l)
fill e (suc k) [] = []
fill e (suc k) (b ∷ l) = b ∷ fill e k l

-- the bytes of a commit's entries; its check takes eight more, tag and checksum: "padding isn't stored"
unfoldable pub entries_length : List Item → ℕ
entries_length [] = 0
entries_length (i ∷ is) = tag_length i.tag + entries_length is

-- A block b with the log es after k stores of a commit: its bytes stand from the old end on. `paste` of the library
-- puts the first k bytes of a list in the place of as many.
unfoldable pub appending : List ℕ → List Event → List Item → ℕ → ℕ → List ℕ
appending b es is ct k = paste b (log_end es) (commit_bytes all_ones (log_end_tag es) is ct) k

-- what compaction writes: "revision plus one .. and one commit"
unfoldable pub compact_bytes : ℕ → List Item → ℕ → List ℕ
compact_bytes rev is ct = to_le32 rev ++ commit_bytes (crc all_ones (to_le32 rev)) all_ones is ct

-- the compacted block: m bytes behind the commit stay erased
unfoldable pub compacted : ℕ → ℕ → List Item → ℕ → ℕ → List ℕ
compacted e rev is ct m = compact_bytes rev is ct ++ erased e m

-- Block o after n stores of a compaction: the first "erases the block", to the erased byte, and then single bytes,
-- rising.
unfoldable pub compacting : ℕ → List ℕ → ℕ → List Item → ℕ → ℕ → ℕ → List ℕ
compacting e o rev is ct m zero = o
compacting e o rev is ct m (suc k) = fill e k (compact_bytes rev is ct) ++ erased e m

-- "put 1, 2 or 3 bytes of the check tag", k of them, and "fill its four" with erased bytes: the checksum is what four
-- erased bytes are behind it. `sum` is the checksum before the tag, `word` the tag as it is stored.
abbrev pub meets_erased : ℕ → ℕ → ℕ → ℕ → Bool
meets_erased e k sum word = eqb (crc sum (fill e k (to_be32 word))) (le32 (erased e 4))

-- "if any of the three checksums is ..": "the coincidence fills with and compares against erased bytes"
unfoldable pub tag_coincides : ℕ → ℕ → ℕ → Bool
tag_coincides e sum word = meets_erased e 1 sum word || meets_erased e 2 sum word || meets_erased e 3 sum word

-- The same of a commit's check tag ct. `sum` and `prev` are the checksum and the previous tag before its bytes.
unfoldable pub coincides : ℕ → ℕ → ℕ → List Item → ℕ → Bool
coincides e sum prev [] ct = tag_coincides e sum (xor ct prev)
coincides e sum prev (i ∷ is) ct = coincides e (crc sum (to_be32 (xor i.tag prev) ++ i.body)) i.tag is ct
