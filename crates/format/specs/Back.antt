-- Document 01, Lookup: the walk back over a block, as the list of the tags that it meets, newest first. Assumes
-- nothing.
use Rattle.std.specs.Prelude.{Bool, true, false, List, [], ◌∷◌, ℕ, zero, suc, ◌+◌, ◌-◌, ◌%◌, ◌^◌, drop, leb}
use Rattle.format.specs.Word.{be32, xor}
use Rattle.format.specs.Tag.{tag_length}
use Rattle.format.specs.Walk.{Event, ent, chk, inv}

-- A tag that is met, and where it stands.
pub record Met : Type 0 where
  pub tag : ℕ
  pub off : ℕ

-- One step, `on` being the walk before it: the tag t ends at `off`. What stands there is t XORed with the tag before,
-- and "Bit 31 of each earlier tag is cleared."
abbrev pub hop : (ℕ → ℕ → List Met) → Bool → List ℕ → ℕ → ℕ → List Met
hop on true b off t = record { tag = t; off = off - tag_length t } ∷ on (off - tag_length t)
    (xor (be32 (drop (off - tag_length t) b)) t % 2 ^ 31)
hop on false b off t = []

-- "The walk goes back from end and end tag while the offset is at least 4 plus the tag's length", in at most n steps.
unfoldable pub backs : ℕ → List ℕ → ℕ → ℕ → List Met
backs zero b off t = []
backs (suc n) b off t = hop (backs n b) (leb (4 + tag_length t) off) b off t

-- The walk back from an offset and the tag that ends there. A step goes back by four bytes or more, so one step for
-- each byte is never too few: `back_step` of proofs/Back.antt is its equation without a number of steps.
unfoldable pub back : List ℕ → ℕ → ℕ → List Met
back b off t = backs (suc off) b off t

-- where the events of a log stand, oldest first
unfoldable pub places : ℕ → List Event → List Met
places off [] = []
places off (ent t d ∷ es) = record { tag = t; off = off } ∷ places (off + tag_length t) es
places off (chk t c ∷ es) = record { tag = t; off = off } ∷ places (off + tag_length t) es
places off (inv ∷ es) = places off es
