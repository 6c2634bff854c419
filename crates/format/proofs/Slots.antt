-- Laws of the slots that a directory is made to reach: how many there are then, that they hold what they held, and
-- that none is made where the slot is there. Assumes nothing.
use mathlib.Core.Path.{◌≡◌, refl, ap, ◌∙◌}
use mathlib.Core.List.{List, [], ◌∷◌, ◌++◌, append-nil}
use Prim.Native.Nat.{ℕ, zero, suc, ◌-◌, ◌<◌, max}
use native.Mathlib.Omega.{arith}
use lib.ListN.{length, replicate, get_or, length-append, length-replicate}
use Rattle.format.specs.Directory.{Slot, empty, reaching}

pub length_reaching : (j : ℕ) (D : List Slot) → length (reaching j D) ≡ max (length D) (suc j)
unfolding reaching
length_reaching j D = length-append D (replicate (suc j - length D) empty)
    ∙ omega (arith, length-replicate (suc j - length D) empty)

-- an empty slot and none at all hold the same
none_there : (n i : ℕ) → get_or (replicate n empty) i empty ≡ empty
none_there zero i = refl
none_there (suc n) zero = refl
none_there (suc n) (suc i) = none_there n i

behind : (D : List Slot) (n i : ℕ) → get_or (D ++ replicate n empty) i empty ≡ get_or D i empty
behind [] n i = none_there n i
behind (s ∷ D) n zero = refl
behind (s ∷ D) n (suc i) = behind D n i

pub get_d_reaching : (j : ℕ) (D : List Slot) (i : ℕ) → get_or (reaching j D) i empty ≡ get_or D i empty
unfolding reaching
get_d_reaching j D i = behind D (suc j - length D) i

pub reaching_there : (j : ℕ) (D : List Slot) → j < length D → reaching j D ≡ D
unfolding reaching
reaching_there j D h =
    let n : suc j - length D ≡ 0 = omega arith in
    ap (λ (k : ℕ). D ++ replicate k empty) n ∙ append-nil D
