-- The directory walk: one rule for each way out of its loop, and one for a further turn. Assumes nothing.
use mathlib.Core.Path.{◌≡◌, refl, sym, ap, ◌∙◌}
use mathlib.Core.Logic.{◌≢◌}
use mathlib.Core.Bool.{true, false, not}
use mathlib.Core.List.{List}
use Prim.Native.Nat.{ℕ, zero, suc, ◌+◌, ◌-◌, ◌≤◌, ◌<◌}
use native.Mathlib.Omega.{arith}
use borrow.Author.Tests.{eq-eqb, ne_eqb, lt-ltb, le-ltb, not-true, not-false}
use Rattle.format.specs.Tree.{Node, Opened, refused, holding, lines_text, stopped, inside}
use Rattle.format.specs.Tree.{slot_walk, walk_opened, deepest, dir_walk}
use Rattle.format.specs.declared.Geometry.{Geometry}
use Rattle.format.specs.declared.LfsPair.{LfsPair}
use Rattle.format.specs.declared.Refusal.{Refusal}
use Rattle.format.specs.declared.Refusal.TheVariants.{Spent, TooDeep}
use Rattle.text.specs.declared.Text.{Text}
use Rattle.text.specs.Put.{State, state_of}
use Rattle.text.proofs.Joined.{puts_nothing}
use Rattle.tree_theory.specs.Enough.{walk_enough}
use Rattle.tree_pair.specs.Pair.{Stands, dir_nodes, dir_tail, Opens}
use Rattle.tree_pair.specs.declared.Dir.{Dir}
use Rattle.tree_walk.specs.declared.Walked.{Walked}
use Rattle.tree_walk.specs.Walks.{stopped_at, comes, outcome, Walks}
use Rattle.tree_walk.proofs.Outcomes.{onward, stays, moves, comes_then, comes_ended}
use Rattle.std.specs.Prelude.{Err, Ok, Result, None, Option, Some}

-- a stop shows nothing
comes_stopped : (s : State) (r : Refusal) (left : ℕ)
    → record { shown = s; left = left; answer = Err r } ≡ comes s (stopped r left)
unfolding lines_text
comes_stopped s r left = ap (λ t. record { shown = t; left = left; answer = Err r }) (sym (puts_nothing s))

-- ---- the walk by its tests; n is above the allowance
module _ (opens : LfsPair → Opened) (depth : ℕ) (p : LfsPair) (left : ℕ) where
  walk_deep : deepest < depth → (n : ℕ) → left < n → stopped TooDeep left ≡ dir_walk n opens depth p left
  unfolding dir_walk
  walk_deep deep zero h = absurd (omega arith)
  walk_deep deep (suc n) h = rw (lt-ltb deepest depth deep)

  module _ (shallow : depth ≤ deepest) where
    walk_spent : left ≡ 0 → (n : ℕ) → left < n → stopped Spent left ≡ dir_walk n opens depth p left
    unfolding dir_walk
    walk_spent spent zero h = absurd (omega arith)
    walk_spent spent (suc n) h = rw (le-ltb deepest depth shallow, eq-eqb left 0 spent)

    walk_opened_lem : left ≢ 0 → (n : ℕ) → dir_walk (suc n) opens depth p left
        ≡ walk_opened (dir_walk n opens) depth (opens p) (left - 1)
    unfolding dir_walk
    walk_opened_lem more n = rw (le-ltb deepest depth shallow, ne_eqb left 0 more)

-- ---- the loop: p0, left0 and s0 are what it began with
module _ (opens : LfsPair → Opened) (depth : ℕ) (p0 : LfsPair) (left0 : ℕ) (s0 : Text) where
  -- what the code has come to is the walk that is asked for
  abbrev Comes : Walked → Text → Type 0
  Comes = Walks (λ n. dir_walk n opens depth p0 left0) left0 s0

  pub dir_deep : deepest < depth → (w : Walked) → w ≡ stopped_at TooDeep left0 → Comes w s0
  dir_deep deep w e =
      rw e
      (record {
        low = omega arith;
        buffer = refl;
        is = λ n h. comes_stopped (state_of s0) TooDeep left0
            ∙ ap (comes (state_of s0)) (walk_deep opens depth p0 left0 deep n h);
      })

  -- the walk that is asked for goes on from here, whatever the two numbers above the allowances
  abbrev pub Reached : LfsPair → ℕ → Text → Type 0
  Reached p spare u = (u.out.ghost_name ≡ s0.out.ghost_name) × ((n m : ℕ) → left0 < n → spare < m
      → comes (state_of s0) (dir_walk n opens depth p0 left0) ≡ comes (state_of u) (dir_walk m opens depth p spare))

  pub begins : Reached p0 left0 s0
  begins = (
    refl,
    λ n m h k. ap (comes (state_of s0)) (walk_enough opens n m left0 h k depth p0 left0 (omega arith)).0,
  )

  module _ (shallow : depth ≤ deepest) (p : LfsPair) (spare : ℕ) (u : Text) (low : spare ≤ left0)
      (reached : Reached p spare u) where
    pub dir_spent : spare ≡ 0 → (w : Walked) → w ≡ stopped_at Spent spare → Comes w u
    dir_spent spent w e =
        rw e
        (record {
          low = low;
          buffer = reached.0;
          is = λ n h. comes_stopped (state_of u) Spent spare
              ∙ ap (comes (state_of u)) (walk_spent opens depth p spare shallow spent (suc spare) (omega arith))
              ∙ sym (reached.1 n (suc spare) h (omega arith));
        })

    module _ (more : spare ≢ 0) where
      -- one pair further
      step : (n m : ℕ) → left0 < n → spare ≤ m → comes (state_of s0) (dir_walk n opens depth p0 left0)
          ≡ comes (state_of u) (walk_opened (dir_walk m opens) depth (opens p) (spare - 1))
      step n m h k = reached.1 n (suc m) h (omega arith)
          ∙ ap (comes (state_of u)) (walk_opened_lem opens depth p spare shallow more m)

      pub dir_refused : (r : Refusal) → opens p ≡ refused r → (w : Walked) → w ≡ stopped_at r (spare - 1) → Comes w u
      dir_refused r is w e =
          rw e
          (record {
            low = omega arith;
            buffer = reached.0;
            is = λ n h. comes_stopped (state_of u) r (spare - 1)
                ∙ sym (step n spare h (omega arith)
                ∙ ap (λ o. comes (state_of u) (walk_opened (dir_walk spare opens) depth o (spare - 1))) is);
          })

      -- the slots of the pair were walked
      module _ (ns : List Node) (tail : Option LfsPair) (is : opens p ≡ holding ns tail) (w : Walked) (o : Text)
          (went : Walks (λ n. slot_walk (dir_walk n opens (suc depth)) depth ns (spare - 1)) (spare - 1) u w o)
        where
          after : (n m : ℕ) → left0 < n → spare ≤ m → comes (state_of s0) (dir_walk n opens depth p0 left0)
              ≡ onward (outcome w o) (inside (dir_walk m opens depth) tail)
          after n m h k =
              step n m h k
              ∙ ap (λ x. comes (state_of u) (walk_opened (dir_walk m opens) depth x (spare - 1))) is
              ∙ comes_then (state_of u) (slot_walk (dir_walk m opens (suc depth)) depth ns (spare - 1))
              (inside (dir_walk m opens depth) tail)
              ∙ ap (λ x. onward x (inside (dir_walk m opens depth) tail)) (sym (went.is m (omega arith)))

          pub dir_stops : (r : Refusal) → w.answer ≡ Err r → Comes w o
          dir_stops r e = record {
            low = omega (arith, went.low);
            buffer = went.buffer ∙ reached.0;
            is = λ n h. sym (after n spare h (omega arith) ∙ stays w.answer r e (outcome w o) _);
          }

          module _ (done : w.answer ≡ (Ok tt)) where
            on : (m : ℕ) → onward (outcome w o) (inside (dir_walk m opens depth) tail)
                ≡ comes (state_of o) (inside (dir_walk m opens depth) tail w.left)
            on m = moves w.answer done (outcome w o) _

            pub dir_ends : tail ≡ None → Comes w o
            dir_ends e = record {
              low = omega (arith, went.low);
              buffer = went.buffer ∙ reached.0;
              is = λ n h. sym (after n spare h (omega arith) ∙ on spare
                  ∙ ap (λ t. comes (state_of o) (inside (dir_walk spare opens depth) t w.left)) e
                  ∙ comes_ended (state_of o) w.left ∙ ap (λ x. record {
                    shown = state_of o;
                    left = w.left;
                    answer = x;
                  }) (sym done));
            }

            pub dir_goes_on : (q : LfsPair) → tail ≡ Some q → Reached q w.left o
            dir_goes_on q e = (
              went.buffer ∙ reached.0,
              λ n m h k.
                  after n (spare + m) h (omega arith) ∙ on (spare + m)
                  ∙ ap (λ t. comes (state_of o) (inside (dir_walk (spare + m) opens depth) t w.left)) e
                  ∙ ap (comes (state_of o))
                  (walk_enough opens (spare + m) m w.left (omega (arith, went.low)) k depth q w.left
                  (omega arith)).0,
            )

-- ---- what stands at a pair, by what the code opened, x
module _ (g : Geometry) (vol : List ℕ) (o : Opened) (x : Result Dir Refusal) (opens : Opens g vol o x) where
  pub at_refused : (r : Refusal) → x ≡ Err r → o ≡ refused r
  at_refused r q = rw q at opens

  pub at_dir : (d : Dir) → x ≡ Ok d → (o ≡ holding (dir_nodes g vol d) (dir_tail d)) × Stands g vol d
  at_dir d q = rw q at opens
