-- The number n of `dir_walk` decides nothing: with every one above the allowance the walk is the same, and it leaves no
-- more than it was given. Assumes nothing.
use Rattle.std.specs.Prelude.{◌≡◌, Bool, ltb, Err, Ok, Result}
use Rattle.std.proofs.Math.Path.{refl, ap}
use Rattle.std.proofs.Common.{◌∙◌, arith}
use Rattle.std.proofs.Math.Bool.{true, false, cond}
use Prim.Native.Nat.{ℕ, zero, suc, ◌-◌, ◌≤◌, ◌<◌}
use Rattle.std.proofs.Math.Dec.{eqb}
use borrow.Author.Tests.{eqb-false}
use Rattle.format.specs.Tree.{Opened, Walk, stopped, behind, and_then, walk_opened, deepest, dir_walk}
use Rattle.format.specs.declared.LfsPair.{LfsPair}
use Rattle.format.specs.declared.Refusal.TheVariants.{Spent, TooDeep}
use Rattle.tree_theory.specs.Walks.{Any, any_named, Related, opened_alike}
use Rattle.format.specs.declared.Refusal.{Refusal}

-- the same walk, which leaves at most K
abbrev Within : ℕ → Walk → Walk → Type 0
Within K w v = (w ≡ v) × (w.left ≤ K)

abbrev Below : ℕ → ℕ → ℕ → Type 0
Below K a b = (a ≡ b) × (a ≤ K)

then_within : (K : ℕ) (w : Walk) (f h : ℕ → Walk) → w.left ≤ K → ((a b : ℕ) → Below K a b → Within K (f a) (h b))
    → Within K (and_then w f) (and_then w h)
then_within K w f h low next = go w.answer (next w.left w.left (refl, low))
  where
    go : (x : Result Unit Refusal) → Within K (f w.left) (h w.left)
        → Within K (behind x w (f w.left)) (behind x w (h w.left))
    go (Ok x) k = (ap (behind (Ok tt) w) k.0, k.1)
    go (Err r) k = (refl, low)

within : (K : ℕ) → Related (Below K) (Within K)
within K =
    record {
      ends = λ a b l. (rw l.0, l.1);
      stops = λ r a b l. (rw l.0, l.1);
      shows = λ depth n a b l. (rw l.0, l.1);
      joins = λ w v f h r next. rw (← r.0) (then_within K w f h r.1 next);
    }

module _ (opens : LfsPair → Opened) where
  -- what is to be shown of two numbers
  abbrev Enough : ℕ → ℕ → ℕ → Type 0
  Enough n m K = (depth : ℕ) (p : LfsPair) (a : ℕ) → a ≤ K
      → (dir_walk n opens depth p a ≡ dir_walk m opens depth p a) × ((dir_walk n opens depth p a).left ≤ K)

  pub walk_enough : (n m K : ℕ) → K < n → K < m → Enough n m K
  unfolding dir_walk
  walk_enough zero m K l k = absurd (omega arith)
  walk_enough (suc n) zero K l k = absurd (omega arith)
  walk_enough (suc n) (suc m) K l k = λ depth p a h. go (λ q. walk_enough n m (K - 1) (omega arith) (omega arith)) depth
      p
      a h (ltb deepest depth) (eqb a 0) refl
    where
      go : (0 < K → Enough n m (K - 1)) → (depth : ℕ) (p : LfsPair) (a : ℕ) → a ≤ K → (x y : Bool) → eqb a 0 ≡ y
          → (let w : (ℕ → LfsPair → ℕ → Walk) → Walk = λ walk. cond x (stopped TooDeep a)
          (cond y (stopped Spent a) (walk_opened walk depth (opens p) (a - 1))) in
          (w (dir_walk n opens) ≡ w (dir_walk m opens)) × ((w (dir_walk n opens)).left ≤ K))
      go ih depth p a h true y e = (refl, h)
      go ih depth p a h false true e = (refl, h)
      go ih depth p a h false false e =
          let some : (a ≡ 0) → ⊥ = eqb-false a 0 e in
          let r = opened_alike (Below (K - 1)) (Within (K - 1)) (within (K - 1)) Any (dir_walk n opens)
          (dir_walk m opens)
          (λ d q i b c z. let s = ih (omega arith) d q b z.1 in (s.0 ∙ ap (dir_walk m opens d q) z.0, s.1))
          depth (opens p) (any_named (opens p)) (a - 1) (a - 1) (refl, omega arith) in
          (r.0, omega (arith, r.1))
