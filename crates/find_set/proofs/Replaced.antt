-- A digit taken out of a word and another assigned in at its place: the word has the new one there, and its others.
-- Assumes nothing.
use mathlib.Core.Path.{◌≡◌, refl, sym, ap, ◌∙◌}
use mathlib.Core.Bool.{Bool, true, false}
use mathlib.Core.List.{List}
use Prim.Native.Nat.{ℕ, suc, ◌+◌, ◌-◌, ◌*◌, ◌%◌, ◌^◌, ◌<◌}
use native.Mathlib.Omega.{arith}
use mir.Val.{bool_byte}
use lib.ListN.{length, get_or, set, length-set}
use lib.Seq.{get_or-set_same}
use lib.Dec.{eqb, ltb}
use borrow.Author.Tests.{eq-eqb, ne_eqb, eqb-true, eqb-false, ltb-true, ltb-false}
use Rattle.find_set.specs.Set.{has, Is, assigned}
use Rattle.find_set.specs.Digit.{opened, closed}
use Rattle.find_set.proofs.Digits.{digit, digit_mod, opened_below, opened_at, opened_above}
use Rattle.find_set.proofs.Digits.{closed_below, closed_above, wide_below}
use Rattle.find_set.proofs.Words.{on, same_on, has_at, set_other, set_has}

assigned_at : (j : ℕ) (v : Bool) (f : ℕ → Bool) → assigned j v f j ≡ v
unfolding assigned
assigned_at j v f = rw (eq-eqb j j refl)

assigned_other : (j : ℕ) (v : Bool) (f : ℕ → Bool) (x : ℕ) → (x ≡ j → ⊥) → assigned j v f x ≡ f x
unfolding assigned
assigned_other j v f x n = rw (ne_eqb x j n)

pub flag_few : (b : Bool) → bool_byte b < 2
flag_few true = omega arith
flag_few false = omega arith

flag_is : (b : Bool) → eqb (bool_byte b) 1 ≡ b
flag_is true = refl
flag_is false = refl

module _ (a : List ℕ) (id i k : ℕ) (is : Bool) (low : k < 32) (at : i * 32 + k ≡ id) where
  abbrev c : ℕ
  c = bool_byte is

  abbrev wide : ℕ
  wide = 0 * 2 ^ 32 + get_or a i 0

  abbrev without : ℕ
  without = closed k wide % 2 ^ 32

  replaced_word : (n : ℕ) → n < 32 → on (opened k c without % 2 ^ 32) n ≡ assigned id is (has a) (i * 32 + n)
  replaced_word n h =
      same_on (digit_mod (opened k c without) 32 n h) ∙ go (eqb n k) refl (ltb n k) refl
    where
      stays : (n ≡ k → ⊥) → digit (opened k c without) n ≡ digit (get_or a i 0) n
          → on (opened k c without) n ≡ assigned id is (has a) (i * 32 + n)
      stays not e =
          same_on e ∙ sym (has_at a i n h)
          ∙ sym (assigned_other id is (has a) (i * 32 + n) (λ q. not (omega arith)))

      go : (e : Bool) → eqb n k ≡ e → (b : Bool) → ltb n k ≡ b
          → on (opened k c without) n ≡ assigned id is (has a) (i * 32 + n)
      go true q b l =
          let same = eqb-true n k q in
          let back : id ≡ i * 32 + n = omega arith in
          same_on (ap (digit (opened k c without)) same ∙ opened_at k c without (flag_few is)) ∙ flag_is is
          ∙ sym (assigned_at id is (has a)) ∙ ap (assigned id is (has a)) back
      go false q true l =
          let less = ltb-true n k l in
          stays (eqb-false n k q)
          (opened_below k c without n less ∙ digit_mod (closed k wide) 32 n h ∙ closed_below k wide n less
          ∙ wide_below 0 (get_or a i 0) n h)
      go false q false l =
          let not = eqb-false n k q in
          let more = ltb-false n k l in
          let m = n - 1 in
          let up : n ≡ suc m = omega arith in
          stays not
          (ap (digit (opened k c without)) up ∙ opened_above k c without (flag_few is) m (omega arith)
          ∙ digit_mod (closed k wide) 32 m (omega arith) ∙ closed_above k wide m (omega arith)
          ∙ ap (digit wide) (sym up) ∙ wide_below 0 (get_or a i 0) n h)

  pub replaced : i < length a → (s t : List ℕ) → s ≡ set a i (closed k (0 * 2 ^ 32 + get_or a i 0) % 2 ^ 32)
      → t ≡ set s i (opened k (bool_byte is) (get_or s i 0) % 2 ^ 32) → Is t (assigned id is (has a))
  replaced room s t es et x u =
      let v = opened k c without % 2 ^ 32 in
      let held : get_or (set a i without) i 0 ≡ without = get_or-set_same a i without 0 room in
      rw (et, es, held)
      (set_has (set a i without) i v (assigned id is (has a)) (omega (arith, length-set a i without)) replaced_word x
      (λ n. set_other a i without x n ∙ sym (assigned_other id is (has a) x (λ q. n (omega arith)))))
