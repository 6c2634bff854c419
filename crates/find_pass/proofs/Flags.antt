-- The ids of a directory whose names are asked for, as an act changes it, and the lowest of them. Assumes nothing.
use mathlib.Core.Path.{◌≡◌, refl, sym, ap, ◌∙◌}
use mathlib.Core.Logic.{◌≢◌}
use mathlib.Core.Bool.{Bool, true, false, cond}
use mathlib.Core.List.{List, [], ◌∷◌, ◌++◌}
use Prim.Native.Nat.{ℕ, zero, suc, ◌+◌, ◌-◌, ◌≤◌, ◌<◌}
use native.Mathlib.Omega.{arith}
use lib.ListN.{length, get_or, set, take, drop, get_or-eq_default}
use lib.Seq.{get_or-set_same, get_or-set_other}
use lib.Dec.{eqb, ltb}
use borrow.Author.Tests.{ne_eqb, eqb-true, eqb-false, lt-ltb, le-ltb, ltb-true, ltb-false}
use Rattle.format.specs.Directory.{Load, Slot, Act, mk, rm, put, skip, empty, upd, reaching, apply}
use Rattle.format.specs.Find.{is_named, first_named}
use Rattle.format.proofs.Slots.{length_reaching, get_d_reaching}
use Rattle.theory.specs.Directory.Machine.{Allowed, ins_before, ins_at, ins_after, del_before, del_after}
use Rattle.find_set.specs.Set.{made, removed, assigned, lowest}
use Rattle.find_pass.specs.Pass.{marked, answered}
use Rattle.std.specs.Prelude.{Ok, Some, None, Option}

-- whether the slot i has a name that q takes
abbrev pub flags : (Option Load → Bool) → List Slot → ℕ → Bool
flags q D i = q (get_or D i empty 0)

module _ (q : Option Load → Bool) (never : q None ≡ false) where
  pub flags_past : (D : List Slot) (i : ℕ) → length D ≤ i → flags q D i ≡ false
  unfolding empty
  flags_past D i h = ap (λ (s : Slot). q (s 0)) (get_or-eq_default D empty h) ∙ never

  -- ---- an act
  flags_put : (D : List Slot) (j c : ℕ) (v : Option Load) (i : ℕ) → flags q (apply D (put j c v)) i ≡ marked q
      (put j c v) (flags q D) i
  unfolding apply marked assigned upd
  flags_put D j c v i = go (eqb i j) refl (eqb c 0) refl
    where
      here : j < length (reaching j D)
      here = omega (arith, length_reaching j D)

      go : (e : Bool) → eqb i j ≡ e → (z : Bool) → eqb c 0 ≡ z
          → flags q (set (reaching j D) j (upd (get_or D j empty) c v)) i
          ≡ cond z (cond e (q v) (flags q D i)) (flags q D i)
      go true e true z =
          let ei : i ≡ j = eqb-true i j e in
          let ec : c ≡ 0 = eqb-true c 0 z in
          rw (ei, ec, get_or-set_same (reaching j D) j (upd (get_or D j empty) 0 v) empty here)
      go true e false z =
          let ei : i ≡ j = eqb-true i j e in
          let nc : c ≢ 0 = eqb-false c 0 z in
          rw (
            ei,
            get_or-set_same (reaching j D) j (upd (get_or D j empty) c v) empty here,
            ne_eqb 0 c (λ h. nc (sym h)),
          )
      go false e z w =
          let n : i ≢ j = eqb-false i j e in
          ap (λ (s : Slot). q (s 0))
          (get_or-set_other (reaching j D) j i (upd (get_or D j empty) c v) empty n ∙ get_d_reaching j D i)
          ∙ pick z
        where
          pick : (z : Bool) → flags q D i ≡ cond z (flags q D i) (flags q D i)
          pick true = refl
          pick false = refl

  flags_mk : (D : List Slot) (j : ℕ) → j ≤ length D → (i : ℕ) → flags q (apply D (mk j)) i ≡ made j (flags q D) i
  unfolding apply made empty
  flags_mk D j h i = go (ltb i j) refl (eqb i j) refl
    where
      go : (a : Bool) → ltb i j ≡ a → (e : Bool) → eqb i j ≡ e → flags q (take j D ++ empty ∷ drop j D) i
          ≡ cond a (flags q D i) (cond e false (flags q D (i - 1)))
      go true a e w = ap (λ (s : Slot). q (s 0)) (ins_before D j i empty empty h (ltb-true i j a))
      go false a true w = rw (eqb-true i j w) (ap (λ (s : Slot). q (s 0)) (ins_at D j empty empty h) ∙ never)
      go false a false w =
          let k : j ≤ i = ltb-false i j a in
          let n : i ≢ j = eqb-false i j w in
          ap (λ (s : Slot). q (s 0)) (ins_after D j i empty empty h (omega arith))

  flags_rm : (D : List Slot) (j : ℕ) → j < length D → (i : ℕ) → flags q (apply D (rm j)) i ≡ removed j (flags q D) i
  unfolding apply removed
  flags_rm D j h i = go (ltb i j) refl
    where
      go : (a : Bool) → ltb i j ≡ a → flags q (take j D ++ drop (suc j) D) i ≡ cond a (flags q D i) (flags q D (suc i))
      go true a = ap (λ (s : Slot). q (s 0)) (del_before D j i empty h (ltb-true i j a))
      go false a =
          let e : i + 1 ≡ suc i = omega arith in
          ap (λ (s : Slot). q (s 0)) (del_after D j i empty h (ltb-false i j a)) ∙ ap (flags q D) e

  pub flags_apply : (g : Bool) (D : List Slot) (a : Act) → Allowed g a (length D) → (i : ℕ)
      → flags q (apply D a) i ≡ marked q a (flags q D) i
  unfolding marked apply
  flags_apply g D (mk j) h i = flags_mk D j h i
  flags_apply g D (rm j) h i = flags_rm D j h i
  flags_apply g D (put j c v) h i = flags_put D j c v i
  flags_apply g D skip h i = refl

-- ---- the lowest
none_named : (n i : ℕ) (f : ℕ → Bool) → ((k : ℕ) → i ≤ k → k < i + n → f k ≡ false) → lowest n i f ≡ i + n
unfolding lowest
none_named zero i f h = omega arith
none_named (suc n) i f h = rw (h i (omega arith) (omega arith))
    (none_named n (suc i) f (λ k l m. h k (omega arith) (omega arith)) ∙ omega arith)

-- f has, of the ids from i on, those of the slots D
pub lowest_named : (name : List ℕ) (kind n i : ℕ) (D : List Slot) (f : ℕ → Bool) → length D ≤ n → i + n ≡ 1_024
    → ((k : ℕ) → i ≤ k → k < 1_024 → f k ≡ flags (is_named name kind) D (k - i))
    → answered (lowest n i f) ≡ first_named name kind i D
unfolding lowest first_named is_named empty
lowest_named name kind n i [] f l e h =
    rw (none_named n i f (λ k m w. h k m (omega arith)), le-ltb (i + n) 1_024 (omega arith))
lowest_named name kind zero i (s ∷ D) f l e h = absurd (omega arith)
lowest_named name kind (suc n) i (s ∷ D) f l e h =
    rw here (go (is_named name kind (s 0)) (lowest_named name kind n (suc i) D f (omega arith) (omega arith) next))
  where
    here : f i ≡ is_named name kind (s 0)
    here = let z : i - i ≡ 0 = omega arith in
        h i (omega arith) (omega arith) ∙ ap (flags (is_named name kind) (s ∷ D)) z

    next : (k : ℕ) → suc i ≤ k → k < 1_024 → f k ≡ flags (is_named name kind) D (k - suc i)
    next k m w = let z : k - i ≡ suc (k - suc i) = omega arith in h k (omega arith) w
        ∙ ap (flags (is_named name kind) (s ∷ D)) z

    go : (x : Bool) → answered (lowest n (suc i) f) ≡ first_named name kind (suc i) D
        → answered (cond x i (lowest n (suc i) f)) ≡ cond x (Ok (Some i)) (first_named name kind (suc i) D)
    go true r = rw (lt-ltb i 1_024 (omega arith))
    go false r = r
