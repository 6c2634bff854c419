-- What the two functions of the walk leave: the text with the walk's lines, what is left of the allowance, and whether
-- it went to its end. Assumes nothing.
use Rattle.std.specs.Prelude.{◌≡◌, true, false, List, ℕ, suc, ◌≤◌, ◌<◌, Ok, Err, Result}
use Rattle.format.specs.Regular.{rules_of}
use Rattle.format.specs.Tree.{Opened, Walk, lines_text, slot_walk, dir_walk, open_in, tree_fits}
use Rattle.format.specs.declared.Geometry.{Geometry}
use Rattle.format.specs.declared.LfsPair.{LfsPair}
use Rattle.format.specs.declared.Refusal.{Refusal}
use Rattle.format.specs.declared.Refusal.TheVariants.{Invalid}
use Rattle.format.specs.declared.Rules.{Rules}
use Rattle.volume.specs.declared.Volume.{Volume}
use Rattle.text.specs.declared.Text.{Text}
use Rattle.text.specs.Put.{State, state_of, puts_of}
use Rattle.tree_pair.specs.Pair.{dir_nodes}
use Rattle.tree_pair.specs.declared.Dir.{Dir}
use Rattle.tree_walk.specs.declared.Walked.{Walked}

abbrev pub stopped_at : Refusal → ℕ → Walked
stopped_at r left = record { answer = Err r; left = left }

-- a walk's outcome, from where the text stood before it
pub record Outcome : Type 0 where
  pub shown : State
  pub left : ℕ
  pub answer : Result Unit Refusal

abbrev pub comes : State → Walk → Outcome
comes s w = record { shown = puts_of s (lines_text w.lines); left = w.left; answer = w.answer }

-- what the code answers, and the text behind it
abbrev pub outcome : Walked → Text → Outcome
outcome r t = record { shown = state_of t; left = r.left; answer = r.answer }

-- the pairs of the volume, by a rule
abbrev pub pairs : Geometry → List ℕ → Rules → LfsPair → Opened
pairs g vol rules = open_in rules g vol

-- The outcome is the definition's, with every number of pairs that is above the allowance, and in the same buffer; and
-- the allowance doesn't grow.
pub record Walks (walk : ℕ → Walk) (left : ℕ) (s : Text) (r : Walked) (t : Text) : Type 0 where
  pub low : r.left ≤ left
  pub buffer : t.out.ghost_name ≡ s.out.ghost_name
  pub is : (n : ℕ) → left < n → outcome r t ≡ comes (state_of s) (walk n)

abbrev pub DirWalks : Geometry → List ℕ → Rules → ℕ → LfsPair → ℕ → Text → Walked → Text → Type 0
DirWalks g vol rules depth p left = Walks (λ n. dir_walk n (pairs g vol rules) depth p left) left

abbrev pub SlotWalks : Geometry → List ℕ → Rules → ℕ → Dir → ℕ → Text → Walked → Text → Type 0
SlotWalks g vol rules depth d left =
    Walks (λ n. slot_walk (dir_walk n (pairs g vol rules) (suc depth)) depth (dir_nodes g vol d) left) left

-- what a tree is asked for: where the sizes, the rule and the allowance are ones that a call takes, the volume and the
-- rule; "any other -22"
abbrev pub Asks : Geometry → List ℕ → ℕ → ℕ → Result (Volume × Rules) Refusal → Type 0
Asks g vol rules allowance (Ok (v, r)) =
    (v.g ≡ g) × (v.bytes.now ≡ vol) × (r ≡ rules_of rules) × (tree_fits g vol rules allowance ≡ true)
Asks g vol rules allowance (Err r) = (r ≡ Invalid) × (tree_fits g vol rules allowance ≡ false)
