-- Halving finds where a rank belongs, in places that are sorted about it. Assumes nothing.
use Rattle.std.specs.Prelude.{◌≡◌, refl, ◌≢◌, Bool, true, false, cond, List, ℕ, zero, suc, ◌+◌, ◌-◌, ◌/◌, ◌≤◌, ◌<◌, eqb, ltb}
use Rattle.std.proofs.Common.{arith, eqb-true, ltb-true, ltb-false}
use Rattle.std.proofs.lemmas.Bool.{eqb-false}
use Rattle.format.specs.Index.{rank_of, tag_in, halving}

-- a number is below another, or is not
below_or_not : {A : Type 0} (m q : ℕ) → (m < q → A) → (q ≤ m → A) → A
below_or_not {A} m q f g = go (ltb m q) refl
  where
    go : (x : Bool) → ltb m q ≡ x → A
    go true e = f (ltb-true m q e)
    go false e = g (ltb-false m q e)

-- of the n places from `at` on those before q are before the rank, and the others are not
pub halving_finds : (k r : ℕ) (P : List ℕ) (at n q : ℕ) → n ≤ k → at ≤ q → q ≤ at + n
    → ((i : ℕ) → i < q → rank_of (tag_in P i) < r) → ((i : ℕ) → q ≤ i → i < at + n → r ≤ rank_of (tag_in P i))
    → halving k r P at n ≡ q
unfolding halving
halving_finds zero r P at n q hk low high before behind = omega arith
halving_finds (suc k) r P at n q hk low high before behind =
    go (eqb n 0) refl (ltb (rank_of (tag_in P mid)) r) refl
    (λ at' n' l m w x. halving_finds k r P at' n' q l m w before (λ i a b. behind i a (omega arith)))
  where
    mid : ℕ
    mid = at + n / 2

    go : (z : Bool) → eqb n 0 ≡ z → (l : Bool) → ltb (rank_of (tag_in P mid)) r ≡ l
        → ((at' n' : ℕ) → n' ≤ k → at' ≤ q → q ≤ at' + n' → at' + n' ≤ at + n → halving k r P at' n' ≡ q)
        → cond z at (cond l (halving k r P (mid + 1) (n - n / 2 - 1)) (halving k r P at (n / 2))) ≡ q
    go true z l w on = let e : n ≡ 0 = eqb-true n 0 z in omega arith
    go false z true w on =
        let some : n ≢ 0 = eqb-false n 0 z in
        let m : rank_of (tag_in P mid) < r = ltb-true (rank_of (tag_in P mid)) r w in
        let past : mid + 1 ≤ q = below_or_not mid q (λ l. omega arith)
        (λ l. absurd (omega (arith, behind mid l (omega arith)))) in
        on (mid + 1) (n - n / 2 - 1) (omega arith) past (omega arith) (omega arith)
    go false z false w on =
        let some : n ≢ 0 = eqb-false n 0 z in
        let m : r ≤ rank_of (tag_in P mid) = ltb-false (rank_of (tag_in P mid)) r w in
        let past : q ≤ mid = below_or_not mid q (λ l. absurd (omega (arith, before mid l))) (λ l. l) in
        on at (n / 2) (omega arith) low past (omega arith)
