-- Document 02, L9: "a lent volume of equal blocks (empty or not whole blocks is -22, here and below)", and a fetch of a
-- pair in it. Assumes nothing.
use Rattle.std.specs.Prelude.{Bool, not, cond, ◌&&◌, ◌||◌, List, ℕ, ◌*◌, ◌/◌, ◌%◌, length, take, drop, leb, eqb, Err, Result}
use Rattle.format.specs.Fetch.{geometry_fits, fetch_of}
use Rattle.format.specs.declared.Geometry.{Geometry}
use Rattle.format.specs.declared.LfsPair.{LfsPair}
use Rattle.format.specs.declared.Refusal.TheVariants.{Invalid, Corrupt}
use Rattle.format.specs.declared.Fetched.{Fetched}
use Rattle.format.specs.declared.Refusal.{Refusal}

-- sizes that fit, and "empty or not whole blocks is -22"
unfoldable pub volume_fits : Geometry → List ℕ → Bool
volume_fits g vol = geometry_fits g && not (eqb (length vol) 0) && eqb (length vol % g.block_size) 0

-- how many blocks it has, and the block with a number
abbrev pub blocks_in : Geometry → List ℕ → ℕ
blocks_in g vol = length vol / g.block_size

unfoldable pub block_in : Geometry → List ℕ → ℕ → List ℕ
block_in g vol n = take g.block_size (drop (n * g.block_size) vol)

-- The fetch of a pair: "-22 for a pair of equal numbers, -84 outside the volume", and what fetch answers for the two
-- blocks.
unfoldable pub fetch_in : Geometry → List ℕ → LfsPair → Result Fetched Refusal
fetch_in g vol p =
    cond (eqb p.n0 p.n1) (Err Invalid)
    (cond (leb (blocks_in g vol) p.n0 || leb (blocks_in g vol) p.n1) (Err Corrupt)
    (fetch_of g (block_in g vol p.n0) (block_in g vol p.n1) p.n0 p.n1 0 0))
