-- Finding a place by halving: what one step leaves, and that as many steps as there are places are enough. Assumes
-- nothing.
use Rattle.std.proofs.Common.{◌≡◌, ℕ, zero, suc, ◌+◌, ◌-◌, ◌/◌, ◌<◌, ◌≤◌, Bool, true, false, ltb, List, length, sym, refl, ap, ◌∙◌, arith, ltb-false, ltb-true, le-ltb, lt-ltb, eq-eqb, ne_eqb}
use Rattle.format.specs.Index.{rank_of, tag_in, halving, seek_from}

module _ (r : ℕ) (P : List ℕ) where
  -- the rank of the place in the middle of n places from `at` on
  abbrev pub middle : ℕ → ℕ → ℕ
  middle at n = rank_of (tag_in P (at + n / 2))

  -- ---- what one step leaves
  pub none_left : (k at n : ℕ) → n ≤ 0 → halving k r P at n ≡ at
  unfolding halving
  none_left zero at n h = refl
  none_left (suc k) at n h = rw (eq-eqb n 0 (omega arith))

  pub step_up : (k at n : ℕ) → 0 < n → middle at n < r
      → halving (suc k) r P at n ≡ halving k r P (at + n / 2 + 1) (n - n / 2 - 1)
  unfolding halving
  step_up k at n p h = rw (ne_eqb n 0 (λ e. omega arith), lt-ltb (middle at n) r h)

  pub step_down : (k at n : ℕ) → 0 < n → r ≤ middle at n → halving (suc k) r P at n ≡ halving k r P at (n / 2)
  unfolding halving
  step_down k at n p h = rw (ne_eqb n 0 (λ e. omega arith), le-ltb (middle at n) r h)

  -- ---- n steps are enough for n places
  pub enough : (k m at n : ℕ) → n ≤ k → n ≤ m → halving k r P at n ≡ halving m r P at n
  enough zero m at n p q = none_left 0 at n (omega arith) ∙ sym (none_left m at n (omega arith))
  enough (suc k) zero at n p q = none_left (suc k) at n (omega arith) ∙ sym (none_left 0 at n (omega arith))
  enough (suc k) (suc m) at zero p q =
      none_left (suc k) at 0 (omega arith) ∙ sym (none_left (suc m) at 0 (omega arith))
  enough (suc k) (suc m) at (suc n) p q =
      go (ltb (middle at (suc n)) r) refl
      (enough k m (at + suc n / 2 + 1) (suc n - suc n / 2 - 1) (omega arith) (omega arith))
      (enough k m at (suc n / 2) (omega arith) (omega arith))
    where
      Same : ℕ → ℕ → Type 0
      Same at n = halving k r P at n ≡ halving m r P at n

      go : (b : Bool) → ltb (middle at (suc n)) r ≡ b → Same (at + suc n / 2 + 1) (suc n - suc n / 2 - 1)
          → Same at (suc n / 2) → halving (suc k) r P at (suc n) ≡ halving (suc m) r P at (suc n)
      go true e up down =
          let h = ltb-true (middle at (suc n)) r e in
          step_up k at (suc n) (omega arith) h ∙ up ∙ sym (step_up m at (suc n) (omega arith) h)
      go false e up down =
          let h = ltb-false (middle at (suc n)) r e in
          step_down k at (suc n) (omega arith) h ∙ down ∙ sym (step_down m at (suc n) (omega arith) h)

  pub halve_up : (at n : ℕ) → 0 < n → middle at n < r
      → halving n r P at n ≡ halving (n - n / 2 - 1) r P (at + n / 2 + 1) (n - n / 2 - 1)
  halve_up at n p h =
      let one : n ≡ suc (n - 1) = omega arith in
      ap (λ (k : ℕ). halving k r P at n) one ∙ step_up (n - 1) at n p h
      ∙ enough (n - 1) (n - n / 2 - 1) (at + n / 2 + 1) (n - n / 2 - 1) (omega arith) (omega arith)

  pub halve_down : (at n : ℕ) → 0 < n → r ≤ middle at n → halving n r P at n ≡ halving (n / 2) r P at (n / 2)
  halve_down at n p h =
      let one : n ≡ suc (n - 1) = omega arith in
      ap (λ (k : ℕ). halving k r P at n) one ∙ step_down (n - 1) at n p h
      ∙ enough (n - 1) (n / 2) at (n / 2) (omega arith) (omega arith)

-- ---- the loop of `seek`, with n places left from `at` on
pub record Seeking (r : ℕ) (P : List ℕ) (from at n : ℕ) : Type 0 where
  pub behind : from ≤ at
  pub inside : at + n ≤ length P / 2
  pub finds : halving n r P at n ≡ seek_from r P from

pub seek_start : (r : ℕ) (P : List ℕ) (from : ℕ) → from ≤ length P / 2
    → Seeking r P from from (length P / 2 - from)
seek_start r P from h = record { behind = omega arith; inside = omega arith; finds = refl }

module _ {r : ℕ} {P : List ℕ} {from at n : ℕ} (s : Seeking r P from at n) where
  pub seek_up : 0 < n → middle r P at n < r → Seeking r P from (at + n / 2 + 1) (n - n / 2 - 1)
  seek_up p h = record {
    behind = omega (arith, s.behind);
    inside = omega (arith, s.inside);
    finds = sym (halve_up r P at n p h) ∙ s.finds;
  }

  pub seek_down : 0 < n → r ≤ middle r P at n → Seeking r P from at (n / 2)
  seek_down p h = record {
    behind = s.behind;
    inside = omega (arith, s.inside);
    finds = sym (halve_down r P at n p h) ∙ s.finds;
  }

  pub seek_end : n ≤ 0 → at ≡ seek_from r P from
  seek_end h = sym (none_left r P n at n h) ∙ s.finds
