-- Which rule a type falls under, from what the code's `match` tells of it: one of an arm's numbers, or none of all, and
-- where it stands among the ranges. Assumes nothing.
use mathlib.Core.Path.{◌≡◌, refl, sym, subst}
use mathlib.Core.Bool.{Bool, true, false, ◌&&◌}
use mathlib.Core.Logic.{◌≢◌, inl, inr}
use mathlib.Core.List.{[], ◌∷◌}
use Prim.Native.Nat.{ℕ, ◌+◌, ◌≤◌, ◌<◌}
use native.Mathlib.Omega.{arith}
use lib.Dec.{leb, ltb, eqb}
use types.Run.{OneOf}
use borrow.Author.Tests.{ltb-true, ltb-false, lt-ltb, le-ltb, le-leb, lt-leb, ne_eqb}
use Rattle.format.specs.Regular.{Rule, rule_of, name, eight, attribute, tail, bad}

below : (k n : ℕ) → k < n → eqb k n ≡ false
below k n h = ne_eqb k n (λ e. omega (arith, e))

above : (k n : ℕ) → n < k → eqb k n ≡ false
above k n h = ne_eqb k n (λ e. omega (arith, e))

unless : (a b : Bool) → b ≡ false → a && b ≡ false
unless true b h = h
unless false b h = refl

-- one of two numbers, one behind the other
two : (P : ℕ → Type 0) (n k : ℕ) → n ≤ k → k < n + 2 → P n → P (n + 1) → P k
two P n k l h p q = go (ltb k (n + 1)) refl
  where
    go : (t : Bool) → ltb k (n + 1) ≡ t → P k
    go true e = let s : n ≡ k = omega (arith, ltb-true k (n + 1) e) in subst P s p
    go false e = let s : n + 1 ≡ k = omega (arith, ltb-false k (n + 1) e) in subst P s q

module _ (logged : Bool) where
  -- a number whose rule is the same in a log and in a commit
  alike : (R : Rule) (n : ℕ) → R ≡ rule_of true n → R ≡ rule_of false n → (l : Bool) → R ≡ rule_of l n
  alike R n t f true = t
  alike R n t f false = f

  pub is_one : (R : Rule) (n k : ℕ) → R ≡ rule_of true n → R ≡ rule_of false n → k ≡ n → R ≡ rule_of logged k
  is_one R n k t f e = subst (λ x. R ≡ rule_of logged x) (sym e) (alike R n t f logged)

  pub is_eight : (k : ℕ) → OneOf (0x200 ∷ 0x202 ∷ []) k → eight ≡ rule_of logged k
  unfolding rule_of
  is_eight k (inl e) = is_one eight 0x200 k refl refl e
  is_eight k (inr e) = is_one eight 0x202 k refl refl e

  pub is_name_lem : (k : ℕ) → 1 ≤ k → k < 3 → name ≡ rule_of logged k
  unfolding rule_of
  is_name_lem k l h = two (λ x. name ≡ rule_of logged x) 1 k l h refl refl

  pub is_tail_lem : (k : ℕ) → (OneOf (0x5ff ∷ []) k → ⊥) → 0x5ff ≤ k → k < 0x602 → tail ≡ rule_of logged k
  unfolding rule_of
  is_tail_lem k o l h = let n : k ≢ 0x5ff = o in
      two (λ x. tail ≡ rule_of logged x) 0x600 k (omega (arith, n)) h (alike tail 0x600 refl refl logged)
      (alike tail 0x601 refl refl logged)

  pub is_attribute : (k : ℕ) → 0x300 ≤ k → k < 0x400 → attribute ≡ rule_of logged k
  unfolding rule_of
  is_attribute k l h =
      rw (
        below k 0x401 (omega arith),
        below k 0x4ff (omega arith),
        above k 1 (omega arith),
        above k 2 (omega arith),
        unless logged (eqb k 0xff) (above k 0xff (omega arith)),
        above k 0x201 (omega arith),
        above k 0x200 (omega arith),
        above k 0x202 (omega arith),
        le-leb 0x300 k l,
        lt-ltb k 0x400 h,
      )

  -- none of the single numbers of an arm
  abbrev pub None : ℕ → Type 0
  None k =
      ((((((Unit {0} × (OneOf (0x401 ∷ []) k → ⊥)) × (OneOf (0x4ff ∷ []) k → ⊥)) × (OneOf (0xff ∷ []) k → ⊥))
      × (OneOf (0x201 ∷ []) k → ⊥)) × (OneOf (0x200 ∷ 0x202 ∷ []) k → ⊥)) × (OneOf (0x7ff ∷ []) k → ⊥))
      × (OneOf (0x5ff ∷ []) k → ⊥)

  is_bad : (k : ℕ) → None k → eqb k 1 ≡ false → eqb k 2 ≡ false → leb 0x300 k && ltb k 0x400 ≡ false
      → eqb k 0x600 ≡ false → eqb k 0x601 ≡ false → bad ≡ rule_of logged k
  unfolding rule_of
  is_bad k n a b c d e =
      rw (
        ne_eqb k 0x401 n.0.0.0.0.0.0.1,
        ne_eqb k 0x4ff n.0.0.0.0.0.1,
        a,
        b,
        unless logged (eqb k 0xff) (ne_eqb k 0xff n.0.0.0.0.1),
        ne_eqb k 0x201 n.0.0.0.1,
        ne_eqb k 0x200 (λ e. n.0.0.1 (inl e)),
        ne_eqb k 0x202 (λ e. n.0.0.1 (inr e)),
        c,
        d,
        e,
        ne_eqb k 0x7ff n.0.1,
        unless logged (eqb k 0x5ff) (ne_eqb k 0x5ff n.1),
      )

  -- and in none of the ranges: below the first, or behind each
  outside_low : (k : ℕ) → k < 0x300 → leb 0x300 k && ltb k 0x400 ≡ false
  outside_low k h = rw (lt-leb 0x300 k h)

  outside_high : (k : ℕ) → 0x400 ≤ k → leb 0x300 k && ltb k 0x400 ≡ false
  outside_high k h = unless (leb 0x300 k) (ltb k 0x400) (le-ltb k 0x400 h)

  pub bad_first : (k : ℕ) → None k → k < 1 → bad ≡ rule_of logged k
  bad_first k n h =
      is_bad k n (below k 1 h) (below k 2 (omega arith)) (outside_low k (omega arith)) (below k 0x600 (omega arith))
      (below k 0x601 (omega arith))

  pub bad_second : (k : ℕ) → None k → 3 ≤ k → k < 0x300 → bad ≡ rule_of logged k
  bad_second k n l h =
      is_bad k n (above k 1 (omega arith)) (above k 2 (omega arith)) (outside_low k h) (below k 0x600 (omega arith))
      (below k 0x601 (omega arith))

  pub bad_third : (k : ℕ) → None k → 0x400 ≤ k → k < 0x5ff → bad ≡ rule_of logged k
  bad_third k n l h =
      is_bad k n (above k 1 (omega arith)) (above k 2 (omega arith)) (outside_high k l) (below k 0x600 (omega arith))
      (below k 0x601 (omega arith))

  pub bad_last : (k : ℕ) → None k → 0x602 ≤ k → bad ≡ rule_of logged k
  bad_last k n l =
      is_bad k n (above k 1 (omega arith)) (above k 2 (omega arith)) (outside_high k (omega arith))
      (above k 0x600 (omega arith)) (above k 0x601 (omega arith))
