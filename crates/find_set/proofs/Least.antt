-- The lowest id of a set, by its words: those before the first that is not zero have none. Assumes nothing.
use mathlib.Core.Path.{◌≡◌, refl, sym, ap, ◌∙◌}
use mathlib.Core.Bool.{Bool, true, false}
use mathlib.Core.List.{List}
use Prim.Native.Nat.{ℕ, zero, suc, ◌+◌, ◌*◌, ◌/◌, ◌%◌, ◌^◌, ◌<◌, ◌≤◌}
use native.Mathlib.Nat.{zero-div}
use native.Mathlib.Omega.{arith}
use lib.ListN.{get_or}
use lib.Dec.{eqb}
use lib.Count.{count_trailing_zeros}
use borrow.Author.Tests.{eqb-true, eqb-false}
use Rattle.find_set.specs.Set.{has, lowest}
use Rattle.find_set.proofs.Digits.{Lowest, trailing}
use Rattle.find_set.proofs.Words.{same_on, has_at}

lowest_is : (n i r : ℕ) (f : ℕ → Bool) → i ≤ r → r ≤ i + n → ((j : ℕ) → i ≤ j → j < r → f j ≡ false)
    → (r < i + n → f r ≡ true) → r ≡ lowest n i f
unfolding lowest
lowest_is zero i r f l u none some = omega arith
lowest_is (suc n) i r f l u none some =
    go (eqb i r) refl (λ h. lowest_is n (suc i) r f h (omega arith) (λ j p q. none j (omega arith) q)
    (λ p. some (omega arith)))
  where
    go : (b : Bool) → eqb i r ≡ b → (suc i ≤ r → r ≡ lowest n (suc i) f) → r ≡ lowest (suc n) i f
    go true e rest =
        let same = eqb-true i r e in
        let is : f i ≡ true = ap f same ∙ some (omega arith) in
        rw is (sym same)
    go false e rest =
        let not = eqb-false i r e in
        let more : i < r = omega arith in
        rw (none i (omega arith) more) (rest more)

-- a word that is zero has no id
has_zero : (a : List ℕ) (x : ℕ) → get_or a (x / 32) 0 ≡ 0 → has a x ≡ false
unfolding has
has_zero a x h = rw (h, zero-div (2 ^ (x % 32)))

module _ (a : List ℕ) (i : ℕ) (zeros : (j : ℕ) → j < i → get_or a j 0 ≡ 0) where
  pub lowest_none : 32 ≤ i → 1_024 ≡ lowest 1_024 0 (has a)
  lowest_none h =
      lowest_is 1_024 0 1_024 (has a) (omega arith) (omega arith) (λ x p q. has_zero a x (zeros (x / 32) (omega arith)))
      (λ p. absurd (omega arith))

  abbrev t : ℕ
  t = count_trailing_zeros 32 (get_or a i 0)

  pub lowest_found : i < 32 → (get_or a i 0 ≡ 0 → ⊥) → get_or a i 0 < 2 ^ 32
      → i * 32 + count_trailing_zeros 32 (get_or a i 0) ≡ lowest 1_024 0 (has a)
  lowest_found h some fits =
      lowest_is 1_024 0 (i * 32 + t) (has a) (omega arith) (omega (arith, r.less))
      (λ x p q. before x q (eqb (x / 32) i) refl)
      (λ p. has_at a i t r.less ∙ same_on r.set)
    where
      r : Lowest 32 (get_or a i 0) t
      r = trailing 32 (get_or a i 0) (omega arith) fits

      before : (x : ℕ) → x < i * 32 + t → (b : Bool) → eqb (x / 32) i ≡ b → has a x ≡ false
      before x q true e =
          let same = eqb-true (x / 32) i e in
          let at : x ≡ i * 32 + x % 32 = omega arith in
          ap (has a) at ∙ has_at a i (x % 32) (omega arith)
          ∙ same_on (r.clear (x % 32) (omega arith))
      before x q false e =
          let not = eqb-false (x / 32) i e in
          has_zero a x (zeros (x / 32) (omega (arith, r.less)))
