-- What the loop that shifts makes of the words, turn by turn. Assumes nothing.
use Rattle.std.proofs.Common.{◌≡◌, ℕ, zero, suc, ◌+◌, ◌-◌, ◌*◌, ◌<◌, ◌≤◌, List, [], ◌∷◌, ◌++◌, length, get_or, take, drop, set, sym, refl, ap, le_of_suc-le-suc, not-suc-le-zero, arith, length-drop, take-append-drop}
use Rattle.format.specs.Word.{plus32}
use Rattle.format.specs.Index.{shifted}

-- ---- `shift_ids`: the places from word i on are to be shifted
module _ (by : ℕ) where
  unfoldable pub to_shift : ℕ → List ℕ → List ℕ
  to_shift i w = take i w ++ shifted by (drop i w)

  shift_one : (i : ℕ) (w : List ℕ) → suc i < length w
      → to_shift (suc (suc i)) (set w i (plus32 (get_or w i 0) by)) ≡ to_shift i w
  unfolding to_shift shifted
  shift_one i [] h = absurd (not-suc-le-zero h)
  shift_one zero (x ∷ []) h = absurd (not-suc-le-zero (le_of_suc-le-suc h))
  shift_one zero (t ∷ o ∷ w) h = refl
  shift_one (suc i) (x ∷ w) h = ap (λ (z : List ℕ). x ∷ z) (shift_one i w (le_of_suc-le-suc h))

  shift_last : (w : List ℕ) → length w ≤ 1 → shifted by w ≡ w
  unfolding shifted
  shift_last [] h = refl
  shift_last (x ∷ []) h = refl
  shift_last (t ∷ o ∷ w) h = absurd (not-suc-le-zero (le_of_suc-le-suc h))

  -- the turn of place i
  pub shift_turn : (w : List ℕ) (i : ℕ) → 2 * i + 1 < length w
      → to_shift (2 * (i + 1)) (set w (2 * i) (plus32 (get_or w (2 * i) 0) by)) ≡ to_shift (2 * i) w
  shift_turn w i h =
      let next : 2 * (i + 1) ≡ suc (suc (2 * i)) = omega arith in
      rw next (shift_one (2 * i) w (omega arith))

  pub shift_end : (w : List ℕ) (i : ℕ) → length w - 2 * i ≤ 1 → w ≡ to_shift (2 * i) w
  unfolding to_shift
  shift_end w i h = sym (rw (shift_last (drop (2 * i) w) (rw (length-drop (2 * i) w) h)) (take-append-drop (2 * i) w))
