-- The places of an index: ids that are shifted leave as many words. Assumes nothing.
use mathlib.Core.Path.{◌≡◌, refl, ap}
use mathlib.Core.List.{List, [], ◌∷◌}
use Prim.Native.Nat.{ℕ, suc}
use lib.ListN.{length}
use Rattle.format.specs.Index.{shifted}

pub shifted_length : (by : ℕ) (P : List ℕ) → length (shifted by P) ≡ length P
unfolding shifted
shifted_length by [] = refl
shifted_length by (x ∷ []) = refl
shifted_length by (t ∷ o ∷ P) = ap (λ (n : ℕ). suc (suc n)) (shifted_length by P)
