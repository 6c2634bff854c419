-- The places before the first that is zero, by the first pair of words that has a tag of zero. Assumes nothing.
use Rattle.std.proofs.Common.{◌≡◌, ℕ, zero, suc, ◌+◌, ◌*◌, ◌/◌, Bool, true, false, not, cond, eqb, ltb, List, [], ◌∷◌, length, get_or, take, None, Some, refl, ap, arith, ltb-false}
use Rattle.std.proofs.lemmas.List.Sums.{prefix_len-le-length}
use Rattle.std.specs.List.{position_or_len}
use Rattle.std.specs.Option.{unwrap_or}
use Rattle.std.specs.Simd.{first_chunks}
use Rattle.format.specs.Index.{leading}

-- ---- what is found, or else the length
pub found_or : {X : Type 0} (p : X → Bool) (xs : List X)
    → unwrap_or (cond (ltb (position_or_len p xs) (length xs)) (Some (position_or_len p xs)) None) (length xs)
    ≡ position_or_len p xs
found_or p xs = go (ltb (position_or_len p xs) (length xs)) refl
  where
    go : (b : Bool) → ltb (position_or_len p xs) (length xs) ≡ b
        → unwrap_or (cond b (Some (position_or_len p xs)) None) (length xs) ≡ position_or_len p xs
    go true e = refl
    go false e = omega (arith, prefix_len-le-length (λ x. not (p x)) xs, ltb-false (position_or_len p xs) (length xs) e)

-- ---- the words as pairs
abbrev pub is_free : List ℕ → Bool
is_free p = eqb (get_or p 0 0) 0

pub leads : (n : ℕ) (w : List ℕ) → length w / 2 ≡ n
    → let i : ℕ = position_or_len is_free (first_chunks 2 n w) in
    (2 * i ≡ length (leading w)) × (take (2 * i) w ≡ leading w)
unfolding leading
leads zero [] h = (refl, refl)
leads zero (x ∷ []) h = (refl, refl)
leads zero (t ∷ o ∷ w) h = absurd (omega arith)
leads (suc n) [] h = absurd (omega arith)
leads (suc n) (x ∷ []) h = absurd (omega arith)
leads (suc n) (t ∷ o ∷ w) h = go (eqb t 0) (leads n w (omega arith))
  where
    i : ℕ
    i = position_or_len is_free (first_chunks 2 n w)

    go : (b : Bool) → (2 * i ≡ length (leading w)) × (take (2 * i) w ≡ leading w)
        → let j : ℕ = cond (not b) (1 + i) 0 in
        (2 * j ≡ length (cond b [] (t ∷ o ∷ leading w))) × (take (2 * j) (t ∷ o ∷ w) ≡ cond b [] (t ∷ o ∷ leading w))
    go true e = (refl, refl)
    go false e =
        let two : 2 * (1 + i) ≡ suc (suc (2 * i)) = omega arith in
        (omega (arith, e.0), rw two (ap (λ (l : List ℕ). t ∷ o ∷ l) e.1))
