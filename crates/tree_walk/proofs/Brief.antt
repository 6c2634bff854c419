-- The text of a walk is shorter than 2^32 bytes: an entry's line has at most 27 bytes and 4 for each of its name, the
-- names of a pair stand in one block, and there are at most 4,096 pairs. Assumes nothing.
use mathlib.Core.Path.{◌≡◌, refl, ap}
use mathlib.Core.Bool.{Bool, true, false, cond}
use mathlib.Core.List.{List, [], ◌∷◌, ◌++◌}
use Prim.Native.Nat.{ℕ, zero, suc, ◌+◌, ◌-◌, ◌*◌, ◌^◌, ◌≤◌, ◌<◌}
use native.Mathlib.Omega.{arith}
use lib.ListN.{length, length-append}
use lib.Dec.{eqb, ltb}
use borrow.Author.Tests.{eqb-false}
use Rattle.format.specs.Log.{log}
use Rattle.format.specs.Regular.{Regular}
use Rattle.format.specs.Directory.{Load, Slot, dir_of}
use Rattle.format.specs.Listing.{ascii, decimal, hex_type, name_bytes, name_fields, number_line}
use Rattle.format.specs.Volume.{block_in, fetch_in}
use Rattle.format.specs.Tree.{Node, node_if, node_of, nodes_from, info_in, Opened, refused, holding, hard_tail, opened_by}
use Rattle.format.specs.Tree.{open_in}
use Rattle.format.specs.Tree.{Line, line_text, lines_text, Walk, stopped, behind, and_then, shown, inside, slot_walk}
use Rattle.format.specs.Tree.{walk_opened, deepest, dir_walk}
use Rattle.format.specs.declared.Geometry.{Geometry}
use Rattle.format.specs.declared.LfsPair.{LfsPair}
use Rattle.format.specs.declared.Rules.{Rules}
use Rattle.format.specs.declared.Refusal.TheVariants.{Irregular, Spent, TooDeep}
use Rattle.format.proofs.Growing.{widest}
use Rattle.theory.proofs.Compact.AcceptedVerdict.{slots_few}
use Rattle.text_input.proofs.Short.{decimal_short, name_length, number_short}
use Rattle.tree_theory.specs.NameBytes.{load_size, names_in, names_inside}
use Rattle.tree_theory.specs.InVolume.{there}
use Rattle.tree_walk.proofs.Outcomes.{lines_app}
use Rattle.std.specs.Prelude.{Err, Ok, Result, None, Option, Some}
use Rattle.format.specs.declared.Fetched.{Fetched}
use Rattle.format.specs.declared.LfsInfo.{LfsInfo}
use Rattle.format.specs.declared.Refusal.{Refusal}

-- ---- a line, and the entries of a pair
abbrev node_size : Node → ℕ
node_size n = 27 + 4 * length n.name.bytes

unfoldable nodes_size : List Node → ℕ
nodes_size [] = 0
nodes_size (n ∷ ns) = node_size n + nodes_size ns

line_brief : (l : Line) → length (line_text l) ≤ node_size l.node
unfolding line_text name_fields
line_brief l =
    let v : Load = l.node.name in
    let size : List ℕ = number_line (ascii " ") l.node.size in
    omega (
      arith,
      length-append (decimal l.depth) (name_fields (Some v) ++ size),
      length-append (name_fields (Some v)) size,
      length-append (hex_type v.type) (ascii " " ++ name_bytes v.bytes),
      decimal_short 10 l.depth,
      name_length v.bytes,
      number_short (ascii " ") l.node.size,
    )

nodes_app : (xs ys : List Node) → nodes_size (xs ++ ys) ≡ nodes_size xs + nodes_size ys
unfolding nodes_size
nodes_app [] ys = omega arith
nodes_app (x ∷ xs) ys = omega (arith, nodes_app xs ys)

node_brief : (i : Result LfsInfo Refusal) (name struct : Option Load) → nodes_size (node_of i name struct) ≤ 27 + 4 * load_size name
unfolding node_of nodes_size
node_brief i None struct = omega arith
node_brief i (Some v) None = omega arith
node_brief i (Some v) (Some struct) = go i
  where
    go : (a : Result LfsInfo Refusal) → nodes_size (node_if a v struct) ≤ 27 + 4 * length v.bytes
    go (Ok x) = omega arith
    go (Err r) = omega arith

nodes_brief : (info : ℕ → Result LfsInfo Refusal) (id : ℕ) (D : List Slot)
    → nodes_size (nodes_from info id D) ≤ 27 * length D + 4 * names_in D
unfolding nodes_from nodes_size names_in
nodes_brief info id [] = omega arith
nodes_brief info id (s ∷ D) = omega (
  arith,
  nodes_app (node_of (info id) (s 0) (s 1)) (nodes_from info (suc id) D),
  node_brief (info id) (s 0) (s 1),
  nodes_brief info (suc id) D,
)

-- ---- what stands at a pair: 1,023 lines at most, and 32,768 bytes of names
abbrev most : ℕ
most = 158_693

abbrev Brief : Opened → Type 0
Brief (refused r) = Unit {0}
Brief (holding ns tail) = nodes_size ns ≤ most

open_brief : (r : Rules) (g : Geometry) (vol : List ℕ) (p : LfsPair) → Brief (open_in r g vol p)
unfolding open_in
open_brief r g vol p = go (fetch_in g vol p) refl
  where
    go : (f : Result Fetched Refusal) → fetch_in g vol p ≡ f → Brief (opened_by r g vol p f)
    go (Err q) e = tt
    go (Ok f) e = held (Regular r (log b)) refl
      where
        b : List ℕ
        b = block_in g vol f.dir.pair.n0

        held : (x : Bool) → Regular r (log b) ≡ x
            → Brief (cond x (holding (nodes_from (info_in g vol p f.dir) 0 (dir_of (log b))) (hard_tail f.dir)) (refused Irregular))
        held false q = tt
        held true q =
            let t = there g vol p f.dir f.seed e in
            let wide = widest r (log b) q in
            omega (
              arith,
              nodes_brief (info_in g vol p f.dir) 0 (dir_of (log b)),
              slots_few b wide,
              names_inside b wide (omega (arith, t.least)),
              t.most,
            )

-- ---- the walk: what it shows is paid for by the allowance, and x is what stands in front
abbrev Paid : Walk → ℕ → ℕ → Type 0
Paid w left x = length (lines_text w.lines) + most * w.left ≤ most * left + x

then_paid : (w : Walk) (next : ℕ → Walk) (left x y z : ℕ) → x + y ≤ z → Paid w left x
    → Paid (next w.left) w.left y → Paid (and_then w next) left z
then_paid w next left x y z both h k = go w.answer (next w.left) k
  where
    go : (a : Result Unit Refusal) (v : Walk) → Paid v w.left y → Paid (behind a w v) left z
    go (Ok x) v q = omega (
      arith,
      h,
      q,
      ap length (lines_app w.lines v.lines),
      length-append (lines_text w.lines) (lines_text v.lines),
    )
    go (Err r) v q = omega (arith, h)

abbrev Pays : (LfsPair → ℕ → Walk) → Type 0
Pays walk = (p : LfsPair) (left : ℕ) → Paid (walk p left) left 0

inside_paid : (walk : LfsPair → ℕ → Walk) → Pays walk → (o : Option LfsPair) (left : ℕ)
    → Paid (inside walk o left) left 0
unfolding lines_text
inside_paid walk h None left = omega arith
inside_paid walk h (Some p) left = h p left

slots_paid : (walk : LfsPair → ℕ → Walk) → Pays walk → (depth : ℕ) (ns : List Node) (left : ℕ)
    → Paid (slot_walk walk depth ns left) left (nodes_size ns)
unfolding slot_walk lines_text nodes_size
slots_paid walk h depth [] left = omega arith
slots_paid walk h depth (n ∷ ns) left =
    then_paid (shown depth n left) (λ l. and_then (inside walk n.into l) (slot_walk walk depth ns)) left (node_size n)
    (nodes_size ns) (nodes_size (n ∷ ns)) (omega arith)
    (omega (
      arith,
      line_brief (record { depth = depth; node = n }),
      length-append (line_text (record { depth = depth; node = n })) [],
    ))
    (then_paid (inside walk n.into left) (slot_walk walk depth ns) left 0 (nodes_size ns) (nodes_size ns) (omega arith)
    (inside_paid walk h n.into left) (slots_paid walk h depth ns (inside walk n.into left).left))

opened_paid : (walk : ℕ → LfsPair → ℕ → Walk) → ((d : ℕ) → Pays (walk d)) → (depth : ℕ) (o : Opened) → Brief o
    → (left : ℕ) → Paid (walk_opened walk depth o left) left most
unfolding lines_text
opened_paid walk h depth (refused r) b left = omega arith
opened_paid walk h depth (holding ns tail) b left =
    let slots = slot_walk (walk (suc depth)) depth ns left in
    then_paid slots (inside (walk depth) tail) left (nodes_size ns) 0 most (omega (arith, b))
    (slots_paid (walk (suc depth)) (h (suc depth)) depth ns left) (inside_paid (walk depth) (h depth) tail
    slots.left)

walk_paid : (opens : LfsPair → Opened) → ((p : LfsPair) → Brief (opens p)) → (n depth : ℕ)
    → Pays (dir_walk n opens depth)
unfolding dir_walk lines_text
walk_paid opens h zero depth p left = omega arith
walk_paid opens h (suc n) depth p left = go (walk_paid opens h n) (ltb deepest depth) (eqb left 0) refl
  where
    go : ((d : ℕ) → Pays (dir_walk n opens d)) → (x y : Bool) → eqb left 0 ≡ y
        → Paid (cond x (stopped TooDeep left) (cond y (stopped Spent left)
        (walk_opened (dir_walk n opens) depth (opens p) (left - 1)))) left 0
    go ih true y e = omega arith
    go ih false true e = omega arith
    go ih false false e =
        omega (arith, opened_paid (dir_walk n opens) ih depth (opens p) (h p) (left - 1), eqb-false left 0 e)

-- THE LAW
pub text_brief : (r : Rules) (g : Geometry) (vol : List ℕ) (n depth : ℕ) (p : LfsPair) (left : ℕ) → left ≤ 4_096
    → length (lines_text (dir_walk n (open_in r g vol) depth p left).lines) < 2 ^ 32
text_brief r g vol n depth p left few =
    omega (arith, walk_paid (open_in r g vol) (open_brief r g vol) n depth p left)
