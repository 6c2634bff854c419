-- "A shorter allowance gives the beginning of a longer one's list." A walk with k pairs more to spend is the same, or
-- the shorter one ended because its allowance was spent, and then its lines are the beginning of the longer one's.
-- Assumes nothing.
use Rattle.std.specs.Prelude.{◌≡◌, ◌⊎◌, Bool, cond, List, [], ◌++◌, ltb, Err, Ok, Result}
use Rattle.std.proofs.Math.Path.{refl}
use Rattle.std.proofs.Common.{sym, ap, ap₂, subst, ◌∙◌, inl, inr, append_assoc, append-nil}
use Rattle.std.proofs.Math.Bool.{true, false}
use Prim.Native.Nat.{ℕ, zero, suc, ◌+◌, ◌-◌, ◌≤◌, ◌<◌}
use native.Mathlib.Omega.{arith}
use Rattle.std.proofs.Math.Dec.{eqb}
use borrow.Author.Tests.{eqb-false, ne_eqb}
use Rattle.format.specs.Tree.{Opened, Line, Walk, stopped, behind, and_then, walk_opened, deepest, dir_walk}
use Rattle.format.specs.declared.LfsPair.{LfsPair}
use Rattle.format.specs.declared.Refusal.TheVariants.{Spent, TooDeep}
use Rattle.tree_theory.specs.Walks.{Any, any_named, Related, opened_alike}
use Rattle.format.specs.declared.Refusal.{Refusal}

-- the first list is the beginning of the second
abbrev pub Begins : List Line → List Line → Type 0
Begins xs ys = (rest : List Line) × (ys ≡ xs ++ rest)

-- the walk w was given k pairs less than the walk v
pub record Longer (k : ℕ) (w v : Walk) : Type 0 where
  pub lines : w.lines ≡ v.lines
  pub answer : w.answer ≡ v.answer
  pub left : v.left ≡ w.left + k

abbrev pub Shorter : ℕ → Walk → Walk → Type 0
Shorter k w v = ((w.answer ≡ Err Spent) × Begins w.lines v.lines) ⊎ Longer k w v

-- what is behind a walk does not alter how it begins
begins_behind : (x : Result Unit Refusal) (w v : Walk) → Begins w.lines (behind x w v).lines
begins_behind (Ok x) w v = (v.lines, refl)
begins_behind (Err r) w v = ([], sym (append-nil w.lines))

begins_on : (xs ys zs : List Line) → Begins xs ys → Begins ys zs → Begins xs zs
begins_on xs ys zs b c = (b.0 ++ c.0, c.1 ∙ ap (λ l. l ++ c.0) b.1 ∙ append_assoc xs b.0 c.0)

stays : (r : Result Unit Refusal) (w v : Walk) → r ≡ Err Spent → behind r w v ≡ w
stays r w v e = rw e

-- K bounds what the shorter one has
module _ (k K : ℕ) where
  abbrev Apart : ℕ → ℕ → Type 0
  Apart a b = (b ≡ a + k) × (a ≤ K)

  abbrev Both : Walk → Walk → Type 0
  Both w v = Shorter k w v × (w.left ≤ K)

  same_then : (w v : Walk) (f h : ℕ → Walk) → Longer k w v → w.left ≤ K → Both (f w.left) (h v.left)
      → (x : Result Unit Refusal) → Both (behind x w (f w.left)) (behind x v (h v.left))
  same_then w v f h s low (inl z, l) (Ok x) = (
    inl (
      z.0,
      (
        z.1.0,
        ap₂ (λ a b. a ++ b) (sym s.lines) z.1.1
            ∙ sym (append_assoc w.lines (f w.left).lines z.1.0),
      ),
    ),
    l,
  )
  same_then w v f h s low (inr z, l) (Ok x) = (
    inr (record {
      lines = ap₂ (λ a b. a ++ b) s.lines z.lines;
      answer = z.answer;
      left = z.left;
    }),
    l,
  )
  same_then w v f h s low t (Err r) = (inr s, low)

  both_then : (w v : Walk) (f h : ℕ → Walk) → Both w v → ((a b : ℕ) → Apart a b → Both (f a) (h b))
      → Both (and_then w f) (and_then v h)
  both_then w v f h (inl z, low) next =
      rw (stays w.answer w (f w.left) z.0)
      (inl (z.0, begins_on w.lines v.lines _ z.1 (begins_behind v.answer v (h v.left))), low)
  both_then w v f h (inr s, low) next =
      subst (λ (x : Result Unit Refusal). Both (and_then w f) (behind x v (h v.left))) s.answer
      (same_then w v f h s low (next w.left v.left (s.left, low)) w.answer)

  both : Related Apart Both
  both = record {
    ends = λ a b l. (inr (record { lines = refl; answer = refl; left = l.0 }), l.1);
    stops = λ r a b l. (inr (record { lines = refl; answer = refl; left = l.0 }), l.1);
    shows = λ depth n a b l. (inr (record { lines = refl; answer = refl; left = l.0 }), l.1);
    joins = both_then;
  }

module _ (opens : LfsPair → Opened) (k : ℕ) where
  -- what is to be shown, n and m being above the two allowances
  abbrev Shortens : ℕ → ℕ → ℕ → Type 0
  Shortens n m K = (depth : ℕ) (p : LfsPair) (a : ℕ) → a ≤ K
      → Both k K (dir_walk n opens depth p a) (dir_walk m opens depth p (a + k))

  shortens : (n m K : ℕ) → K < n → K + k < m → Shortens n m K
  unfolding dir_walk
  shortens zero m K l g = absurd (omega arith)
  shortens (suc n) zero K l g = absurd (omega arith)
  shortens (suc n) (suc m) K l g = λ depth p a h. go (λ q. shortens n m (K - 1) (omega arith) (omega arith)) depth p a h
      (ltb deepest depth) (eqb a 0) refl
    where
      go : (0 < K → Shortens n m (K - 1)) → (depth : ℕ) (p : LfsPair) (a : ℕ) → a ≤ K → (x y : Bool) → eqb a 0 ≡ y
          → Both k K (cond x (stopped TooDeep a) (cond y (stopped Spent a) (walk_opened (dir_walk n opens) depth (opens p)
          (a - 1)))) (cond x (stopped TooDeep (a + k)) (cond (eqb (a + k) 0) (stopped Spent (a + k))
          (walk_opened (dir_walk m opens) depth (opens p) (a + k - 1))))
      go ih depth p a h true y e = (inr (record { lines = refl; answer = refl; left = refl }), h)
      go ih depth p a h false true e = (inl (refl, (_, refl)), h)
      go ih depth p a h false false e =
          let some : (a ≡ 0) → ⊥ = eqb-false a 0 e in
          let one : a + k - 1 ≡ a - 1 + k = omega arith in
          let r = opened_alike (Apart k (K - 1)) (Both k (K - 1)) (both k (K - 1)) Any (dir_walk n opens)
          (dir_walk m opens)
          (λ d q i b c z. rw z.0 (ih (omega arith) d q b z.1)) depth (opens p) (any_named (opens p)) (a - 1)
          (a - 1 + k) (refl, omega arith) in
          rw (ne_eqb (a + k) 0 (λ z. some (omega arith)), one) (r.0, omega (arith, r.1))

  -- the walk with the allowance a, and with k more
  pub walk_shorter : (n m depth : ℕ) (p : LfsPair) (a : ℕ) → a < n → a + k < m
      → Shorter k (dir_walk n opens depth p a) (dir_walk m opens depth p (a + k))
  walk_shorter n m depth p a l g = (shortens n m a l g depth p a (omega arith)).0
