-- The set as an entry moves it: what it holds behind a create, a delete and a name, and behind what is none of these.
-- Assumes nothing.
use mathlib.Core.Path.{◌≡◌, refl, sym, ◌∙◌}
use mathlib.Core.Logic.{◌≢◌}
use mathlib.Core.Bool.{Bool, true, false, cond, ◌||◌}
use mathlib.Core.List.{List}
use Prim.Native.Nat.{ℕ, suc, ◌-◌, ◌<◌}
use native.Mathlib.Omega.{arith}
use lib.ListN.{length, get_or-eq_default}
use lib.Dec.{eqb, ltb}
use borrow.Author.Tests.{eqb-true, eqb-false}
use Rattle.find_set.specs.Set.{has, Is, made, removed, assigned}
use Rattle.find_pass.specs.Pass.{Holds}

-- ---- where nothing was ever put in, nothing is there to move
module _ (j : ℕ) (f : ℕ → Bool) (none : (i : ℕ) → f i ≡ false) (i : ℕ) where
  made_none : made j f i ≡ false
  unfolding made
  made_none = go (ltb i j) (eqb i j)
    where
      go : (a b : Bool) → cond a (f i) (cond b false (f (i - 1))) ≡ false
      go true b = none i
      go false true = refl
      go false false = none (i - 1)

  removed_none : removed j f i ≡ false
  unfolding removed
  removed_none = go (ltb i j)
    where
      go : (a : Bool) → cond a (f i) (f (suc i)) ≡ false
      go true = none i
      go false = none (suc i)

  assigned_none : assigned j false f i ≡ false
  unfolding assigned
  assigned_none = go (eqb i j)
    where
      go : (a : Bool) → cond a false (f i) ≡ false
      go true = refl
      go false = none i

-- so the words stay as they are
stays : (set : List ℕ) (f g : ℕ → Bool) → Holds set false f → ((i : ℕ) → g i ≡ false) → Holds set false g
stays set f g h none = record { marks = λ i l. h.marks i l ∙ h.never refl i ∙ sym (none i); never = λ e. none }

neither : (a b : Bool) → a || b ≡ false → (a ≡ false) × (b ≡ false)
neither true b h = (h, cc)
neither false b h = (refl, h)

-- ---- `old` and `new` are the words before and behind the call; any: whether it was made
module _ (old : List ℕ) (any : Bool) (id : ℕ) (f : ℕ → Bool) (h : Holds old any f) where
  pub made_still : any ≡ false → Holds old any (made id f)
  made_still e = rw e (stays old f (made id f) (rw e at h) (made_none id f (h.never e)))

  pub removed_still : any ≡ false → Holds old any (removed id f)
  removed_still e = rw e (stays old f (removed id f) (rw e at h) (removed_none id f (h.never e)))

  pub named_still : (is : Bool) → any || is ≡ false → Holds old any (assigned id is f)
  named_still is e =
      let n = neither any is e in
      rw (n.0, n.1) (stays old f (assigned id false f) (rw n.0 at h) (assigned_none id f (h.never n.0)))

  module _ (new : List ℕ) where
    never_true : {A : Type 0} → any ≡ true → any ≡ false → A
    never_true e n = absurd (let z : ◌≡◌ {A = ℕ} 0 1 = cc in omega arith)

    pub made_moved : any ≡ true → Is new (made id (has old)) → Holds new any (made id f)
    unfolding made
    made_moved e is = record {
      marks = λ i l. is i l ∙ go i l (ltb i id) refl (eqb i id) refl;
      never = λ n i. never_true e n;
    }
      where
        go : (i : ℕ) → i < 1_024 → (a : Bool) → ltb i id ≡ a → (b : Bool) → eqb i id ≡ b
            → cond a (has old i) (cond b false (has old (i - 1))) ≡ cond a (f i) (cond b false (f (i - 1)))
        go i l true ea b eb = h.marks i l
        go i l false ea true eb = refl
        go i l false ea false eb = h.marks (i - 1) (omega arith)

    -- `full`: what would come in from above the words is not there
    pub removed_moved : any ≡ true → length old ≡ 32 → f 1_024 ≡ false → Is new (removed id (has old))
        → Holds new any (removed id f)
    unfolding removed has
    removed_moved e full top is = record {
      marks = λ i l. is i l ∙ go i l (ltb i id);
      never = λ n i. never_true e n;
    }
      where
        past : has old 1_024 ≡ false
        past = rw (get_or-eq_default old 0 {n = 32} (omega arith))

        next : (i : ℕ) → i < 1_024 → (b : Bool) → eqb (suc i) 1_024 ≡ b → has old (suc i) ≡ f (suc i)
        next i l true eb =
            let q : suc i ≡ 1_024 = eqb-true (suc i) 1_024 eb in
            rw q (past ∙ sym top)
        next i l false eb =
            let q : suc i ≢ 1_024 = eqb-false (suc i) 1_024 eb in
            h.marks (suc i) (omega arith)

        go : (i : ℕ) → i < 1_024 → (a : Bool) → cond a (has old i) (has old (suc i)) ≡ cond a (f i) (f (suc i))
        go i l true = h.marks i l
        go i l false = next i l (eqb (suc i) 1_024) refl

    pub named_moved : (is : Bool) → Is new (assigned id is (has old)) → Holds new true (assigned id is f)
    unfolding assigned
    named_moved is e = record {
      marks = λ i l. e i l ∙ go i l (eqb i id);
      never = λ n i. never n;
    }
      where
        never : {A : Type 0} → true ≡ false → A
        never n = absurd (let z : ◌≡◌ {A = ℕ} 0 1 = cc in omega arith)

        go : (i : ℕ) → i < 1_024 → (a : Bool) → cond a is (has old i) ≡ cond a is (f i)
        go i l true = refl
        go i l false = h.marks i l
