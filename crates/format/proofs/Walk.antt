-- The walk's one equation, with no number of steps: all else about the walk goes by it. Assumes nothing.
use mathlib.Core.Path.{◌≡◌, refl, ap}
use mathlib.Core.Bool.{Bool, true, false}
use mathlib.Core.List.{List, [], ◌∷◌}
use Prim.Native.Nat.{ℕ, zero, suc, ◌<◌}
use native.Mathlib.Omega.{arith}
use lib.ListN.{length, take, drop, length-drop}
use lib.Dec.{eqb}
use Rattle.format.specs.Crc.{crc}
use Rattle.format.specs.Word.{be32, le32, xor, all_ones}
use Rattle.format.specs.Tag.{tag_length, tag_flipped}
use Rattle.format.specs.Walk.{Event, ent, chk, Class, past, invalid, check, entry, class_of, body_of, checked}
use Rattle.format.specs.Walk.{step_of, walk_in, walk_from}
use Rattle.format.proofs.Words.{tag_length_ge}

-- behind a tag there are fewer bytes
shorter : (t b : ℕ) (r : List ℕ) (n : ℕ) → length (b ∷ r) < suc n → length (drop (tag_length t) (b ∷ r)) < n
shorter t b r n h = omega (arith, tag_length_ge t, length-drop (tag_length t) (b ∷ r))

-- two ways to go on that agree behind every tag take the same step
same_step : (f g : ℕ → ℕ → List ℕ → List Event) (sum : ℕ) (rest : List ℕ)
    → ((s p t : ℕ) → f s p (drop (tag_length t) rest) ≡ g s p (drop (tag_length t) rest))
    → (class : Class) (t : ℕ) → step_of f class t sum rest ≡ step_of g class t sum rest
same_step f g sum rest h past t = refl
same_step f g sum rest h invalid t = refl
same_step f g sum rest h check t = fits (eqb (crc sum (take 4 rest)) (le32 (drop 4 rest)))
  where
    fits : (c : Bool) → checked f c t rest ≡ checked g c t rest
    fits true = ap (λ es. chk t (le32 (drop 4 rest)) ∷ es) (h all_ones (tag_flipped t) t)
    fits false = refl
same_step f g sum rest h entry t = ap (λ es. ent t (body_of t rest) ∷ es) (h (crc sum (take (tag_length t) rest)) t t)

-- any number of steps above the number of bytes is enough
enough : (n m sum prev : ℕ) (rest : List ℕ) → length rest < n → length rest < m
    → walk_in n sum prev rest ≡ walk_in m sum prev rest
unfolding walk_in class_of
enough zero m sum prev rest h k = absurd (omega arith)
enough (suc n) zero sum prev rest h k = absurd (omega arith)
enough (suc n) (suc m) sum prev [] h k = refl
enough (suc n) (suc m) sum prev (b ∷ r) h k =
    same_step (walk_in n) (walk_in m) sum (b ∷ r) (λ s p t. enough n m s p (drop (tag_length t) (b ∷ r))
    (shorter t b r n h) (shorter t b r m k))
    (class_of (xor (be32 (b ∷ r)) prev) (length (b ∷ r))) (xor (be32 (b ∷ r)) prev)

pub walk_step : (sum prev : ℕ) (rest : List ℕ)
    → walk_from sum prev rest ≡ step_of walk_from (class_of (xor (be32 rest) prev) (length rest)) (xor (be32 rest) prev) sum
    rest
unfolding walk_from walk_in class_of
walk_step sum prev [] = refl
walk_step sum prev (b ∷ r) =
    same_step (walk_in (length (b ∷ r))) walk_from sum (b ∷ r)
    (λ s p t. enough (length (b ∷ r)) (suc (length (drop (tag_length t) (b ∷ r)))) s p (drop (tag_length t) (b ∷ r))
    (shorter t b r (length (b ∷ r)) (omega arith)) (omega arith))
    (class_of (xor (be32 (b ∷ r)) prev) (length (b ∷ r))) (xor (be32 (b ∷ r)) prev)
