-- Document 01, Fetch: what a log says, each part as a fold over its events. "Then the record takes count, tail, split,
-- end and end tag; the seed takes the checksum's four bytes" (end and end tag stand in Log); and document 02, L5: "The
-- record shall hold the last committed forward check, or none." Assumes nothing.
use Rattle.std.specs.Prelude.{Bool, true, false, cond, List, [], ◌∷◌, ℕ, ◌%◌, drop, eqb}
use Rattle.format.specs.Word.{le32, to_le32, all_ones}
use Rattle.format.specs.Tag.{tag_chunk, tag_splice, tag_id}
use Rattle.format.specs.Kind.{is_name, is_splice, is_tail, is_forward}
use Rattle.format.specs.Crc.{crc}
use Rattle.format.specs.Walk.{Event, ent, chk, inv}
use Rattle.format.specs.Count.{count_named, count_spliced}
use Rattle.format.specs.declared.LfsPair.{LfsPair}
use Rattle.format.specs.declared.LfsFcrc.{LfsFcrc}
use Rattle.format.specs.declared.LfsMdir.{LfsMdir}
use Rattle.format.specs.declared.Fetched.{Fetched}

-- "Name: count becomes at least id + 1. Splice (type1 0x400): count plus splice, raised to 0 if below, then modulo
-- 65,536."
unfoldable pub counted : ℕ → ℕ → ℕ
counted c t = cond (is_name t) (count_named c (tag_id t)) (cond (is_splice t) (count_spliced c (tag_splice t)) c)

-- the count behind a list of events, from the count before it
unfoldable pub count_of : ℕ → List Event → ℕ
count_of c [] = c
count_of c (ent t d ∷ es) = count_of (counted c t) es
count_of c (chk t x ∷ es) = count_of c es
count_of c (inv ∷ es) = count_of c es

-- two block numbers in eight bytes, little-endian
abbrev pub pair_in : List ℕ → LfsPair
pair_in d = record { n0 = le32 d; n1 = le32 (drop 4 d) }

-- "Tail begins as two 0xffffffff."
abbrev pub no_tail : LfsPair
no_tail = record { n0 = all_ones; n1 = all_ones }

-- "Tail: .. 8 bytes are read, though the size be smaller": the last tail's pair
unfoldable pub tail_of : LfsPair → List Event → LfsPair
tail_of p [] = p
tail_of p (ent t d ∷ es) = tail_of (cond (is_tail t) (pair_in d) p) es
tail_of p (chk t x ∷ es) = tail_of p es
tail_of p (inv ∷ es) = tail_of p es

-- "Tail: split is chunk's low bit"
unfoldable pub split_of : Bool → List Event → Bool
split_of s [] = s
split_of s (ent t d ∷ es) = split_of (cond (is_tail t) (eqb (tag_chunk t % 2) 1) s) es
split_of s (chk t x ∷ es) = split_of s es
split_of s (inv ∷ es) = split_of s es

-- "Forward check: 8 bytes likewise, length and checksum."
abbrev pub forward_in : List ℕ → LfsFcrc
forward_in d = record { seen = true; size = le32 d; sum = le32 (drop 4 d) }

-- none: all zero
abbrev pub no_forward : LfsFcrc
no_forward = record { seen = false; size = 0; sum = 0 }

-- "a forward check was seen in ANY commit so far": the last one
unfoldable pub forward_of : LfsFcrc → List Event → LfsFcrc
forward_of f [] = f
forward_of f (ent t d ∷ es) = forward_of (cond (is_forward t) (forward_in d) f) es
forward_of f (chk t x ∷ es) = forward_of f es
forward_of f (inv ∷ es) = forward_of f es

-- "the seed takes the checksum's four bytes", once for each commit
unfoldable pub seed_of : ℕ → List Event → ℕ
seed_of seed [] = seed
seed_of seed (ent t d ∷ es) = seed_of seed es
seed_of seed (chk t x ∷ es) = seed_of (crc seed (to_le32 x)) es
seed_of seed (inv ∷ es) = seed_of seed es

-- what fetch found: the record, and the seed behind it
abbrev pub fetched : LfsMdir → ℕ → Fetched
fetched m s = record { dir = m; seed = s }
