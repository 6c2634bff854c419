-- What an entry makes of a table, by the words that the code leaves in it. Assumes nothing.
use Rattle.std.proofs.Common.{◌≡◌, ℕ, ◌+◌, ◌-◌, ◌*◌, ◌<◌, ◌≤◌, Bool, true, false, List, [], ◌∷◌, ◌++◌, length, take, drop, replicate, sym, refl, ◌∙◌, append-nil, add-one, arith, length-append, length-drop, length-take-le, drop-drop, take_at, drop_at}
use borrow.Rule.Slice.PartMut.{mid_of, put_mid}
use lib.Seq.{take-append-le, drop-append-le}
use Rattle.format.specs.Index.{rank_at, seek, seek_from, is_at, shifted, one_down}
use Rattle.format.specs.Index.{slot_removed, place_set, place_cleared}
use Rattle.format.proofs.Places.{shifted_length}
use Rattle.index_table.specs.Held.{Holds}
use Rattle.index_table.proofs.Holding.{held, part_is, room, replaced, more}
use Rattle.index_table.proofs.Ranks.{at_inside}

-- what `find` says of the n places in use
abbrev pub Sought : (ws : List ℕ) (n r from s : ℕ) → Type 0
Sought ws n r from s = (s ≡ seek_from r (take (2 * n) ws) from) × (from ≤ s) × (s ≤ n)

module _ {ws : List ℕ} {n : ℕ} {P : List ℕ} (h : Holds ws n P) where
  sought : (r from s : ℕ) → Sought ws n r from s → (s ≡ seek_from r P from) × (s ≤ n)
  sought r from s f = (rw (held h) at f.0, f.2)

  -- ---- the places from s on are shifted
  shift : (by s : ℕ) → s ≤ n → {z : List ℕ} → z ≡ shifted by (mid_of (2 * s) (2 * n - 2 * s) ws)
      → Holds (put_mid (2 * s) (2 * n - 2 * s) ws z) n (take (2 * s) P ++ shifted by (drop (2 * s) P))
  shift by s le is =
      let D = shifted by (drop (2 * s) P) in
      replaced h (2 * s) (2 * n) refl (omega arith) D 0 n
      (is ∙ rw (part_is h (2 * s) (2 * n) refl (omega arith)) (sym (append-nil D)))
      (omega (arith, shifted_length by (drop (2 * s) P), length-drop (2 * s) P, h.size))

  -- ---- g places are taken out from s on
  take_out : (s g : ℕ) → s + g ≤ n
      → {z : List ℕ} → z ≡ drop (2 * g) (mid_of (2 * s) (2 * n - 2 * s) ws) ++ replicate (2 * g) 0
      → Holds (put_mid (2 * s) (2 * n - 2 * s) ws z) (n - g) (take (2 * s) P ++ drop (2 * s + 2 * g) P)
  take_out s g le is =
      replaced h (2 * s) (2 * n) refl (omega arith) (drop (2 * s + 2 * g) P) (2 * g) (n - g)
      (is ∙ rw (part_is h (2 * s) (2 * n) refl (omega arith), drop-drop (2 * g) (2 * s) P))
      (omega (arith, length-drop (2 * s + 2 * g) P, h.size))

-- ---- each entry, with what the code's calls say
module _ {ws : List ℕ} {n : ℕ} {P : List ℕ} (h : Holds ws n P) where
  pub removed : (j r q s t : ℕ) {y z : List ℕ} → r ≡ rank_at j 0 → q ≡ rank_at (j + 1) 0
      → Sought ws n r 0 s → Sought ws n q s t
      → y ≡ drop (2 * (t - s)) (mid_of (2 * s) (2 * n - 2 * s) ws) ++ replicate (2 * (t - s)) 0
      → z ≡ shifted one_down (mid_of (2 * s) (2 * (n - (t - s)) - 2 * s) (put_mid (2 * s) (2 * n - 2 * s) ws y))
      → Holds (put_mid (2 * s) (2 * (n - (t - s)) - 2 * s) (put_mid (2 * s) (2 * n - 2 * s) ws y) z) (n - (t - s))
      (slot_removed j P)
  removed j r q s t e d f g is is' =
      let at = sought h r 0 s f in
      let to = sought h q s t g in
      let end : 2 * s + 2 * (t - s) ≡ 2 * t = omega (arith, g.1) in
      let A : List ℕ = take (2 * s) P in
      let B : List ℕ = drop (2 * s + 2 * (t - s)) P in
      let fore : length A ≡ 2 * s = length-take-le (2 * s) P (omega (arith, at.1, h.size)) in
      let out = take_out h s (t - s) (omega (arith, g.1, to.1)) is in
      let all = shift out one_down s (omega (arith, g.1, to.1)) is' in
      rw (← add-one j, ← e, ← d, ← at.0, ← to.0)
      (rw (take_at A B (2 * s) fore, drop_at A B (2 * s) fore, end) at all)

  -- a rank's place s, of which `is_at` says b
  module _ (r s : ℕ) (f : Sought ws n r 0 s) (b : Bool) (is : b ≡ is_at r (take (2 * n) ws) s) where
    at : (s ≡ seek r P) × (s ≤ n)
    at = sought h r 0 s f

    -- it has the rank
    module _ (yes : b ≡ true) where
      has : is_at r P s ≡ true
      has = rw (held h) at (sym is ∙ yes)

      inside : s < n
      inside = at_inside r ws n (room h) s b is yes

      pub set_there : (t o : ℕ) {z : List ℕ} → z ≡ t ∷ o ∷ drop 2 (mid_of (2 * s) (2 * n - 2 * s) ws)
          → Holds (put_mid (2 * s) (2 * n - 2 * s) ws z) n (place_set r t o P)
      set_there t o e =
          let D : List ℕ = t ∷ o ∷ drop (2 * s + 2) P in
          let le : 2 * s ≤ 2 * n = omega (arith, inside) in
          rw (← at.0, has)
          (replaced h (2 * s) (2 * n) refl le D 0 n
          (e ∙ rw (part_is h (2 * s) (2 * n) refl le, drop-drop 2 (2 * s) P) (sym (append-nil D)))
          (omega (arith, inside, length-drop (2 * s + 2) P, h.size)))

      pub unset_there : {z : List ℕ} → z ≡ drop 2 (mid_of (2 * s) (2 * n - 2 * s) ws) ++ replicate 2 0
          → Holds (put_mid (2 * s) (2 * n - 2 * s) ws z) (n - 1) (place_cleared r P)
      unset_there e = rw (← at.0, has) (take_out h s 1 (omega (arith, inside)) e)

    -- it has not
    module _ (no : b ≡ false) where
      has_not : is_at r P s ≡ false
      has_not = rw (held h) at (sym is ∙ no)

      -- the part that is opened ends in a place of zeros
      opened : 2 * n + 2 ≤ length ws → (let w : List ℕ = mid_of (2 * s) (2 * n + 2 - 2 * s) ws in
          take (length w - 2) w ≡ drop (2 * s) P)
      opened more_Room =
          let B : List ℕ = drop (2 * s) P in
          let Z : List ℕ = 0 ∷ 0 ∷ [] in
          let end : 2 * n + 2 ≡ 2 * (n + 1) = omega arith in
          rw (
            part_is (more h more_Room) (2 * s) (2 * n + 2) end (omega (arith, at.1)),
            drop-append-le (2 * s) P Z (omega (arith, at.1, h.size)),
          )
          (take_at B Z (length (B ++ Z) - 2) (omega (arith, length-append B Z)))

      pub set_new : (t o : ℕ) {z : List ℕ} → 2 * n + 2 ≤ length ws
          → (let w : List ℕ = mid_of (2 * s) (2 * n + 2 - 2 * s) ws in z ≡ t ∷ o ∷ take (length w - 2) w)
          → Holds (put_mid (2 * s) (2 * n + 2 - 2 * s) ws z) (n + 1) (place_set r t o P)
      set_new t o more_Room e =
          let D : List ℕ = t ∷ o ∷ drop (2 * s) P in
          let end : 2 * n + 2 ≡ 2 * (n + 1) = omega arith in
          let fore = take-append-le (2 * s) P (0 ∷ 0 ∷ []) (omega (arith, at.1, h.size)) in
          rw (← at.0, has_not, ← fore)
          (replaced (more h more_Room) (2 * s) (2 * n + 2) end (omega (arith, at.1)) D 0 (n + 1)
          (e ∙ rw (opened more_Room) (sym (append-nil D)))
          (omega (arith, at.1, length-drop (2 * s) P, h.size)))

      pub set_full : (t o : ℕ) → length ws - 2 * n < 2 → length ws < length (place_set r t o P)
      set_full t o full =
          let D : List ℕ = t ∷ o ∷ drop (2 * s) P in
          let fore : length (take (2 * s) P) ≡ 2 * s = length-take-le (2 * s) P (omega (arith, at.1, h.size)) in
          rw (← at.0, has_not)
          (omega (arith, at.1, length-append (take (2 * s) P) D, fore, length-drop (2 * s) P, h.size))
