-- How the outcomes of walks join: a walk behind another begins where that one left text and allowance. Assumes nothing.
use mathlib.Core.Path.{◌≡◌, refl, sym, ap, ◌∙◌}
use mathlib.Core.List.{List, [], ◌∷◌, ◌++◌, append_assoc, append-nil}
use Prim.Native.Nat.{ℕ}
use Rattle.format.specs.Tree.{Node, Line, line_text, lines_text, Walk, ended, shown, behind, and_then, inside, slot_walk}
use Rattle.format.specs.declared.LfsPair.{LfsPair}
use Rattle.format.specs.declared.Refusal.{Refusal}
use Rattle.text.specs.Put.{State, puts_of}
use Rattle.text.proofs.Joined.{puts_append, puts_nothing}
use Rattle.tree_walk.specs.Walks.{Outcome, comes}
use Rattle.std.specs.Prelude.{Err, Ok, Result}

-- what comes behind an outcome: a refusal is the last
abbrev pub goes : Result Unit Refusal → Outcome → Outcome → Outcome
goes (Ok x) o v = v
goes (Err r) o v = o

abbrev pub onward : Outcome → (ℕ → Walk) → Outcome
onward o next = goes o.answer o (comes o.shown (next o.left))

pub stays : (x : Result Unit Refusal) (r : Refusal) → x ≡ Err r → (o v : Outcome) → goes x o v ≡ o
stays x r e o v = rw e

pub moves : (x : Result Unit Refusal) → x ≡ (Ok tt) → (o v : Outcome) → goes x o v ≡ v
moves x e o v = rw e

pub lines_app : (xs ys : List Line) → lines_text (xs ++ ys) ≡ lines_text xs ++ lines_text ys
unfolding lines_text
lines_app [] ys = refl
lines_app (x ∷ xs) ys = ap (λ l. line_text x ++ l) (lines_app xs ys)
    ∙ sym (append_assoc (line_text x) (lines_text xs) (lines_text ys))

-- THE LAW
pub comes_then : (s : State) (w : Walk) (next : ℕ → Walk) → comes s (and_then w next) ≡ onward (comes s w) next
comes_then s w next = go w.answer (next w.left)
  where
    go : (x : Result Unit Refusal) (v : Walk)
        → comes s (behind x w v) ≡ goes x (comes s w) (comes (puts_of s (lines_text w.lines)) v)
    go (Ok x) v = ap (λ t. record { shown = t; left = v.left; answer = v.answer })
        (ap (puts_of s) (lines_app w.lines v.lines)
        ∙ puts_append s (lines_text w.lines) (lines_text v.lines))
    go (Err r) v = refl

-- nothing, and one line
pub comes_ended : (s : State) (left : ℕ) → comes s (ended left) ≡ record { shown = s; left = left; answer = (Ok tt) }
unfolding lines_text
comes_ended s left = ap (λ t. record { shown = t; left = left; answer = (Ok tt) }) (puts_nothing s)

comes_line : (s : State) (depth : ℕ) (n : Node) (left : ℕ) → comes s (shown depth n left)
    ≡ record { shown = puts_of s (line_text (record { depth = depth; node = n })); left = left; answer = (Ok tt) }
unfolding lines_text
comes_line s depth n left =
    ap (λ l. record { shown = puts_of s l; left = left; answer = (Ok tt) })
    (append-nil (line_text (record { depth = depth; node = n })))

-- an entry: its line, what is in it, and the others
pub comes_entry : (s : State) (enter : LfsPair → ℕ → Walk) (depth : ℕ) (n : Node) (ns : List Node) (left : ℕ)
    → comes s (slot_walk enter depth (n ∷ ns) left)
    ≡ onward (comes (puts_of s (line_text (record { depth = depth; node = n }))) (inside enter n.into left))
    (slot_walk enter depth ns)
unfolding slot_walk
comes_entry s enter depth n ns left =
    let next : ℕ → Walk = λ l. and_then (inside enter n.into l) (slot_walk enter depth ns) in
    comes_then s (shown depth n left) next ∙ ap (λ o. onward o next) (comes_line s depth n left)
    ∙ comes_then (puts_of s (line_text (record { depth = depth; node = n }))) (inside enter n.into left)
    (slot_walk enter depth ns)
