-- Document 02, L7: the erased byte, and what goes by it. "Take the erased byte, 0xff or 0x00, as an input of commit and
-- compaction." Assumes nothing.
use Rattle.std.specs.Prelude.{◌≡◌, ◌⊎◌, Bool, true, not, cond, ◌&&◌, ◌||◌, List, [], ◌∷◌, ℕ, ◌^◌, ◌≤◌, ◌<◌, replicate, eqb}
use Rattle.format.specs.Tag.{tag_valid}

-- "Any other erased byte is -22."
abbrev pub erased_fits : ℕ → Bool
erased_fits e = eqb e 0xff || eqb e 0x00

-- n bytes where nothing was stored
abbrev pub erased : ℕ → ℕ → List ℕ
erased e n = replicate n e

-- "clean means that byte to the block's end"
unfoldable pub all_erased : ℕ → List ℕ → Bool
all_erased e [] = true
all_erased e (b ∷ l) = eqb b e && all_erased e l

-- "and bit 31 of the end tag clear for 0xff, set for 0x00": a tag is valid when it is clear
unfoldable pub validity_fits : ℕ → ℕ → Bool
validity_fits e etag = cond (eqb e 0x00) (not (tag_valid etag)) (tag_valid etag)

-- the same in numbers, for the promises: the bit that fits, and the wrong one
abbrev pub BitFits : ℕ → ℕ → Type 0
BitFits e etag = ((e ≡ 0xff) × (etag < 2 ^ 31)) ⊎ ((e ≡ 0x00) × (2 ^ 31 ≤ etag))

abbrev pub BitWrong : ℕ → ℕ → Type 0
BitWrong e etag = ((e ≡ 0xff) × (2 ^ 31 ≤ etag)) ⊎ ((e ≡ 0x00) × (etag < 2 ^ 31))

-- "The check tag is 0x500 for 0xff and 0x501 for 0x00"
unfoldable pub check_type : ℕ → ℕ
check_type e = cond (eqb e 0x00) 0x501 0x500
