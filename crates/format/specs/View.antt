-- What fetch rests on, of two blocks: which answers, its revision and its committed log. The record, the seed and all
-- lookups are functions of it; the erased mark is not, and is not in it. Assumes nothing.
use Rattle.std.specs.Prelude.{Bool, true, false, List, [], ◌∷◌, ℕ}
use Rattle.format.specs.Word.{le32}
use Rattle.format.specs.Walk.{Event}
use Rattle.format.specs.Log.{log}
use Rattle.format.specs.Count.{second_first}

-- No block answers ("neither block has a valid commit"), or one does: the second where the mark is true, with its
-- revision and its log.
pub data View : Type 0 where
  none : View
  at : Bool → ℕ → List Event → View

-- "Blocks are tried in rank. .. The first block with a valid commit answers." The mark tells whether the second is
-- tried first; then come both revisions and both logs.
unfoldable pub rank : Bool → ℕ → ℕ → List Event → List Event → View
rank false rev0 rev1 (e ∷ es) fs = at false rev0 (e ∷ es)
rank false rev0 rev1 [] (f ∷ fs) = at true rev1 (f ∷ fs)
rank false rev0 rev1 [] [] = none
rank true rev0 rev1 es (f ∷ fs) = at true rev1 (f ∷ fs)
rank true rev0 rev1 (e ∷ es) [] = at false rev0 (e ∷ es)
rank true rev0 rev1 [] [] = none

-- "the four revision bytes, little-endian" stand at a block's start.
unfoldable pub view : List ℕ → List ℕ → View
view b0 b1 = rank (second_first (le32 b0) (le32 b1)) (le32 b0) (le32 b1) (log b0) (log b1)
