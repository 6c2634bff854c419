-- `word::le_pair` meets its contract: the array is the two words' lists, one behind the other. Assumes nothing.
use mathlib.Core.Path.{◌≡◌}
use mathlib.Core.List.{List, [], ◌∷◌, ◌++◌}
use Prim.Native.Nat.{ℕ}
use lib.ListN.{get_or}
use Rattle.format.specs.Word.{to_le32}
use Rattle.word.proofs.le_pair.Goals as goal

-- l and m are what `le_bytes` answers
eight : (a b : ℕ) (l m : List ℕ) → l ≡ to_le32 a → m ≡ to_le32 b
    → get_or l 0 0 ∷ get_or l 1 0 ∷ get_or l 2 0 ∷ get_or l 3 0 ∷ get_or m 0 0 ∷ get_or m 1 0 ∷ get_or m 2 0 ∷ get_or m 3 0 ∷ []
    ≡ to_le32 a ++ to_le32 b
unfolding to_le32
eight a b l m el em = rw (el, em)

pub returns : goal.returns
returns c = eight _ _ _ _ c.le_bytes-x.ensures c.le_bytes-y.ensures
