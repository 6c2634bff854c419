-- Document 01, Fetch: the walk over one block, as the list of what it meets. Record, seed, directory and lookups are
-- functions of this list. Assumes nothing.
use Rattle.std.specs.Prelude.{Bool, true, false, cond, List, [], ◌∷◌, ℕ, zero, suc, ◌+◌, ◌-◌, length, take, drop, leb, eqb}
use Rattle.format.specs.Word.{be32, le32, xor, all_ones}
use Rattle.format.specs.Tag.{tag_valid, tag_length, tag_flipped}
use Rattle.format.specs.Kind.{is_check, is_wide}
use Rattle.format.specs.Crc.{crc}

-- What the walk meets: an entry, its tag (after the XOR) and the bytes read behind it; a commit check that fits, its
-- tag and the checksum; a tag with bit 31 set, which is the last. Each stands where the one before it ends, so offsets
-- are sums of lengths (`span` of Log).
pub data Event : Type 0 where
  ent : ℕ → List ℕ → Event
  chk : ℕ → ℕ → Event
  inv : Event

-- What a tag is, at the head of so many bytes: it or what it reads goes past them; it is invalid; a check; any other
-- entry.
pub data Class : Type 0 where
  past invalid check entry : Class

-- The bytes that are read behind a tag whatever its size: a check's checksum, a tail's pair, a forward check's length
-- and checksum.
unfoldable pub read_behind : ℕ → ℕ
read_behind t = cond (is_check t) 4 (cond (is_wide t) 8 0)

-- "The walk stops on an invalid tag, on an entry passing the block, or on any read past it."
unfoldable pub class_of : ℕ → ℕ → Class
class_of t left =
    cond (leb 4 left)
    (cond (tag_valid t)
    (cond (leb (tag_length t) left)
    (cond (leb (4 + read_behind t) left) (cond (is_check t) check entry) past)
    past)
    invalid)
    past

-- An entry's bytes: its data, or the eight that are read.
unfoldable pub body_length : ℕ → ℕ
body_length t = cond (is_wide t) 8 (tag_length t - 4)

abbrev pub body_of : ℕ → List ℕ → List ℕ
body_of t rest = take (body_length t) (drop 4 rest)

-- A check: "four little-endian bytes behind the tag equal the checksum, or the walk stops. Then .. chunk's low bit
-- flips bit 31 of the previous tag; the checksum restarts at 0xffffffff."
abbrev pub checked : (ℕ → ℕ → List ℕ → List Event) → Bool → ℕ → List ℕ → List Event
checked on true t rest = chk t (le32 (drop 4 rest)) ∷ on all_ones (tag_flipped t) (drop (tag_length t) rest)
checked on false t rest = []

-- One step, `on` being the walk behind it: `sum` is the checksum before the tag t, `rest` the block from t on. "Each
-- step reads four bytes .. adds them to the checksum .. An entry's data, a check's excepted, are added too."
abbrev pub step_of : (ℕ → ℕ → List ℕ → List Event) → Class → ℕ → ℕ → List ℕ → List Event
step_of on past t sum rest = []
step_of on invalid t sum rest = inv ∷ []
step_of on check t sum rest = checked on (eqb (crc sum (take 4 rest)) (le32 (drop 4 rest))) t rest
step_of on entry t sum rest = ent t (body_of t rest) ∷ on (crc sum (take (tag_length t) rest)) t (drop (tag_length t) rest)

-- "Each step reads four bytes big-endian .. and XORs with the previous tag", in at most n steps.
unfoldable pub walk_in : ℕ → ℕ → ℕ → List ℕ → List Event
walk_in zero sum prev rest = []
walk_in (suc n) sum prev rest = step_of (walk_in n) (class_of (xor (be32 rest) prev) (length rest)) (xor (be32 rest) prev)
    sum rest

-- The walk from a checksum and a previous tag on, over the rest of the block. A step takes four bytes or more, so one
-- step for each byte is never too few: `walk_step` of proofs/Walk.antt is its equation without a number of steps.
unfoldable pub walk_from : ℕ → ℕ → List ℕ → List Event
walk_from sum prev rest = walk_in (suc (length rest)) sum prev rest

-- "The checksum starts at 0xffffffff over the four revision bytes .. The previous tag starts at 0xffffffff, whose
-- length is 4, so the first tag stands at 4."
unfoldable pub walk : List ℕ → List Event
walk b = walk_from (crc all_ones (take 4 b)) all_ones (drop 4 b)
