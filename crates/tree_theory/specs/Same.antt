-- A walk rests on what stands at its pairs and on nothing else: where that is the same, so is the walk. It is asked of
-- the pairs of a set that the walk does not leave: with each pair it has those that it names. Assumes nothing.
use Rattle.std.specs.Prelude.{◌≡◌, eqb, ltb}
use Rattle.std.proofs.Math.Path.{refl, ap}
use Rattle.std.proofs.Common.{◌∙◌}
use Rattle.std.proofs.Math.Bool.{cond}
use Prim.Native.Nat.{ℕ, zero, suc, ◌-◌}
use Rattle.format.specs.Tree.{Opened, stopped, behind, deepest, dir_walk}
use Rattle.format.specs.declared.LfsPair.{LfsPair}
use Rattle.format.specs.declared.Refusal.TheVariants.{Spent, TooDeep}
use Rattle.tree_theory.specs.Walks.{Names, Related, opened_alike}

-- with each of its pairs, those that it names
abbrev pub Closed : (LfsPair → Type 0) → (LfsPair → Opened) → Type 0
Closed P opens = (p : LfsPair) → P p → Names P (opens p)

same : Related (λ a b. a ≡ b) (λ w v. w ≡ v)
same = record {
  ends = λ a b l. rw l;
  stops = λ r a b l. rw l;
  shows = λ depth n a b l. rw l;
  joins = λ w v f h r next. rw (← r) (ap (behind w.answer w) (next w.left w.left refl));
}

module _ (P : LfsPair → Type 0) (opens other : LfsPair → Opened) (closed : Closed P opens)
    (alike : (p : LfsPair) → P p → opens p ≡ other p) where
  pub walk_same : (n depth : ℕ) (p : LfsPair) → P p → (a : ℕ) → dir_walk n opens depth p a ≡ dir_walk n other depth p a
  unfolding dir_walk
  walk_same zero depth p i a = refl
  walk_same (suc n) depth p i a =
      rw (← alike p i)
      (ap (λ w. cond (ltb deepest depth) (stopped TooDeep a) (cond (eqb a 0) (stopped Spent a) w))
      (opened_alike (λ b c. b ≡ c) (λ w v. w ≡ v) same P (dir_walk n opens) (dir_walk n other)
      (λ d q j b c l. walk_same n d q j b ∙ ap (dir_walk n other d q) l) depth (opens p) (closed p i) (a - 1)
      (a - 1) refl))
