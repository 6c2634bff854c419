-- Places whose ranks lie between two, and where a rank is found among them. Assumes nothing.
use Rattle.std.specs.Prelude.{◌≡◌, refl, true, false, List, [], ◌∷◌, ◌++◌, ℕ, zero, suc, ◌+◌, ◌-◌, ◌*◌, ◌/◌, ◌^◌, ◌≤◌, ◌<◌, length, get_or, take, drop, replicate, ltb}
use Rattle.std.proofs.Common.{sym, ap, subst, ◌∙◌, append-nil, arith, length-append, get_or-append-add, take_at, drop_at, ne_eqb, eq-eqb, lt-ltb}
use Rattle.std.proofs.Math.Bool.{and-false}
use Rattle.std.proofs.Math.ListN.{get_or-append}
use Rattle.format.specs.Index.{rank_of, tag_in, off_in, seek_from, seek, is_at}
use Rattle.index_theory.specs.Halving.{halving_finds}

-- whole places, each of a rank from `low` on and below `high`
abbrev pub Between : ℕ → ℕ → List ℕ → Type 0
Between low high [] = Unit {0}
Between low high (x ∷ []) = ◌≡◌ {A = ℕ} 0 1
Between low high (t ∷ o ∷ P) = (low ≤ rank_of t) × (rank_of t < high) × Between low high P

pub between_app : (low high : ℕ) (A B : List ℕ) → Between low high A → Between low high B → Between low high (A ++ B)
between_app low high [] B a b = b
between_app low high (x ∷ []) B a b = absurd (omega arith)
between_app low high (t ∷ o ∷ A) B a b = (a.0, a.1, between_app low high A B a.2 b)

pub between_wider : (low high low' high' : ℕ) (A : List ℕ) → low' ≤ low → high ≤ high' → Between low high A
    → Between low' high' A
between_wider low high low' high' [] l h a = tt
between_wider low high low' high' (x ∷ []) l h a = a
between_wider low high low' high' (t ∷ o ∷ A) l h a =
    (omega (arith, a.0), omega (arith, a.1), between_wider low high low' high' A l h a.2)

pub between_even : (low high : ℕ) (A : List ℕ) → Between low high A → length A ≡ 2 * (length A / 2)
between_even low high [] a = refl
between_even low high (x ∷ []) a = absurd (omega arith)
between_even low high (t ∷ o ∷ A) a = omega (arith, between_even low high A a.2)

pub between_at : (low high : ℕ) (A : List ℕ) → Between low high A → (i : ℕ) → i < length A / 2
    → (low ≤ rank_of (tag_in A i)) × (rank_of (tag_in A i) < high)
between_at low high [] a i h = absurd (omega arith)
between_at low high (x ∷ []) a i h = absurd (omega arith)
between_at low high (t ∷ o ∷ A) a zero h = (a.0, a.1)
between_at low high (t ∷ o ∷ A) a (suc i) h =
    let e : 2 * suc i ≡ suc (suc (2 * i)) = omega arith in
    rw e (between_at low high A a.2 i (omega arith))

-- places none of which is before the rank r; behind the last one stands none, so that any number may be asked about
abbrev pub NoneBefore : ℕ → List ℕ → Type 0
NoneBefore r B = (i : ℕ) → r ≤ rank_of (tag_in B i)

no_rank : rank_of 0 ≡ 2 ^ 20
unfolding rank_of
no_rank = refl

zeros : (n i : ℕ) → ◌≡◌ {A = ℕ} (get_or (replicate n 0) i 0) 0
zeros zero i = refl
zeros (suc n) zero = refl
zeros (suc n) (suc i) = zeros n i

pub zeros_none : (r n : ℕ) → r ≤ 2 ^ 20 → NoneBefore r (replicate n 0)
zeros_none r n h i = rw (zeros n (2 * i), no_rank) h

-- places of ranks from r on, and others behind them
pub none_app : (r low high : ℕ) (B Z : List ℕ) → r ≤ low → Between low high B → NoneBefore r Z → NoneBefore r (B ++ Z)
none_app r low high [] Z l b z i = z i
none_app r low high (x ∷ []) Z l b z i = absurd (omega arith)
none_app r low high (t ∷ o ∷ B) Z l b z zero = omega (arith, b.0)
none_app r low high (t ∷ o ∷ B) Z l b z (suc i) =
    let e : 2 * suc i ≡ suc (suc (2 * i)) = omega arith in
    rw e (none_app r low high B Z l b.2 z i)

pub none_before : (r low high : ℕ) (B : List ℕ) → r ≤ low → r ≤ 2 ^ 20 → Between low high B → NoneBefore r B
none_before r low high B l h b = subst (NoneBefore r) (append-nil B) (none_app r low high B [] l b (zeros_none r 0 h))

-- places before the rank r and such as are not: their seam is found, from any place before it
module _ (low r : ℕ) (A B : List ℕ) (a : Between low r A) (b : NoneBefore r B) where
  abbrev seam : ℕ
  seam = length A / 2

  even : length A ≡ 2 * seam
  even = between_even low r A a

  pub seek_from_lem : (at : ℕ) → at ≤ seam → seek_from r (A ++ B) at ≡ seam
  seek_from_lem at h = halving_finds _ r (A ++ B) at (length (A ++ B) / 2 - at) seam (omega arith) h
      (omega (arith, length-append A B))
      (λ i l. rw (get_or-append A B 0 (2 * i) (omega (arith, even))) (between_at low r A a i l).1) behind
    where
      behind : (i : ℕ) → seam ≤ i → i < at + (length (A ++ B) / 2 - at) → r ≤ rank_of (tag_in (A ++ B) i)
      behind i l m =
          let e : 2 * i ≡ length A + 2 * (i - seam) = omega (arith, even) in
          rw (e, get_or-append-add A B (2 * (i - seam)) 0) (b (i - seam))

  pub seek_is : seek r (A ++ B) ≡ seam
  seek_is = seek_from_lem 0 (omega arith)

  sought : length A ≡ 2 * seek r (A ++ B)
  sought = even ∙ ap (λ (n : ℕ). 2 * n) (sym seek_is)

  pub take_seam : take (2 * seek r (A ++ B)) (A ++ B) ≡ A
  take_seam = take_at A B (2 * seek r (A ++ B)) sought

  pub drop_seam : drop (2 * seek r (A ++ B)) (A ++ B) ≡ B
  drop_seam = drop_at A B (2 * seek r (A ++ B)) sought

  -- what stands there
  pub tag_seam : tag_in (A ++ B) (seek r (A ++ B)) ≡ get_or B 0 0
  tag_seam =
      let e : 2 * seek r (A ++ B) ≡ length A + 0 = omega (arith, sought) in
      rw e (get_or-append-add A B 0 0)

  pub off_seam : off_in (A ++ B) (seek r (A ++ B)) ≡ get_or B 1 0
  off_seam =
      let e : 2 * seek r (A ++ B) + 1 ≡ length A + 1 = omega (arith, sought) in
      rw e (get_or-append-add A B 1 0)

  -- whether the rank has a place there
  pub at_seam : (t o : ℕ) (C : List ℕ) → B ≡ t ∷ o ∷ C → rank_of t ≡ r → is_at r (A ++ B) (seek r (A ++ B)) ≡ true
  at_seam t o C eB e =
      let z : rank_of (tag_in (A ++ B) (seek r (A ++ B))) ≡ r =
      ap rank_of (tag_seam ∙ ap (λ (l : List ℕ). get_or l 0 0) eB) ∙ e in
      let n : length B ≡ suc (suc (length C)) = ap length eB in
      rw (
        eq-eqb (rank_of (tag_in (A ++ B) (seek r (A ++ B)))) r z,
        lt-ltb (seek r (A ++ B)) (length (A ++ B) / 2) (omega (arith, length-append A B, sought)),
      )

pub not_at_seam : (low r : ℕ) (A B : List ℕ) → Between low r A → NoneBefore (suc r) B
    → is_at r (A ++ B) (seek r (A ++ B)) ≡ false
not_at_seam low r A B a b =
    let e = tag_seam low r A B a (λ i. omega (arith, b i)) in
    rw (ne_eqb (rank_of (tag_in (A ++ B) (seek r (A ++ B)))) r (λ q. omega (arith, q, ap rank_of e, b 0)))
    (and-false (ltb (seek r (A ++ B)) (length (A ++ B) / 2)))
