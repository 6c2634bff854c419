-- Whether a place of those in use has a rank. Assumes nothing.
use Rattle.std.proofs.Common.{◌≡◌, ℕ, ◌*◌, ◌/◌, ◌<◌, ◌≤◌, Bool, true, false, ◌&&◌, eqb, ltb, List, length, take, sym, refl, ◌∙◌, arith, length-take-le, ltb-true}
use Rattle.format.specs.Index.{rank_of, tag_in, is_at}

-- ---- whether the place i of n in use has the rank r
module _ (r : ℕ) (ws : List ℕ) (n : ℕ) (room : 2 * n ≤ length ws) where
  half : length (take (2 * n) ws) / 2 ≡ n
  half = omega (arith, length-take-le (2 * n) ws room)

  -- b is what `is_at` says of the place i
  module _ (i : ℕ) (b : Bool) (is : b ≡ is_at r (take (2 * n) ws) i) (t : b ≡ true) where
    pub at_inside : i < n
    at_inside = go (ltb i n) refl (rw half at (sym t ∙ is))
      where
        go : (l : Bool) → ltb i n ≡ l → true ≡ l && eqb (rank_of (tag_in (take (2 * n) ws) i)) r → i < n
        go true e h = ltb-true i n e
        go false e h = let no : ◌≡◌ {A = ℕ} 0 1 = cc in omega arith
