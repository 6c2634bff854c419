-- Document 02, L9: "list every directory and file from a given pair". First what stands in one pair, then the walk: two
-- functions that call each other, the directory walk and the slot walk. Assumes nothing.
use Rattle.std.specs.Prelude.{Bool, not, cond, ◌&&◌, List, [], ◌∷◌, ◌++◌, ℕ, zero, suc, ◌-◌, length, leb, ltb, eqb, Err, None, Ok, Option, Result, Some}
use Rattle.format.specs.Kind.{type_dir_struct}
use Rattle.format.specs.Log.{log}
use Rattle.format.specs.Record.{pair_in}
use Rattle.format.specs.Lookup.{getinfo_of}
use Rattle.format.specs.Regular.{Regular, rules_fit, rules_of}
use Rattle.format.specs.Directory.{Load, Slot, dir_of}
use Rattle.format.specs.Listing.{ascii, decimal, number_line, name_fields}
use Rattle.format.specs.Volume.{volume_fits, block_in, fetch_in}
use Rattle.format.specs.declared.Geometry.{Geometry}
use Rattle.format.specs.declared.LfsPair.{LfsPair}
use Rattle.format.specs.declared.LfsMdir.{LfsMdir}
use Rattle.format.specs.declared.LfsGstate.{LfsGstate}
use Rattle.format.specs.declared.Rules.{Rules}
use Rattle.format.specs.declared.Refusal.{Refusal}
use Rattle.format.specs.declared.Refusal.TheVariants.{Invalid, Irregular, Spent, TooDeep}
use Rattle.format.specs.declared.Written.{Written}
use Rattle.format.specs.declared.Fetched.{Fetched}
use Rattle.format.specs.declared.LfsInfo.{LfsInfo}

-- ---- what stands in a pair
-- An entry of a directory: the type and the bytes of its name, its size, and, of a directory, the pair that it begins
-- at.
pub record Node : Type 0 where
  pub name : Load
  pub size : ℕ
  pub into : Option LfsPair

-- "A slot walk meets a directory struct (two block numbers, little-endian)": it is entered by that, whatever the type
-- of its name.
abbrev pub into_of : Load → Option LfsPair
into_of struct = cond (eqb struct.type type_dir_struct) (Some (pair_in struct.bytes)) None

-- "Each line shows .. `lfs_dir_getinfo`'s size; a slot it answers -2 for gives no line and isn't entered."
abbrev pub node_if : Result LfsInfo Refusal → Load → Load → List Node
node_if (Ok i) name struct = record { name = name; size = i.size; into = into_of struct } ∷ []
node_if (Err r) name struct = []

-- from what `lfs_dir_getinfo` answers, and the slot's newest name and struct
unfoldable pub node_of : Result LfsInfo Refusal → Option Load → Option Load → List Node
node_of i (Some name) (Some struct) = node_if i name struct
node_of i (Some name) None = []
node_of i None struct = []

-- the slots of the directory machine from id on: "Directories come in id order"
unfoldable pub nodes_from : (ℕ → Result LfsInfo Refusal) → ℕ → List Slot → List Node
nodes_from info id [] = []
nodes_from info id (s ∷ D) = node_of (info id) (s 0) (s 1) ++ nodes_from info (suc id) D

-- `lfs_dir_getinfo` of a slot. The walk knows of no pending move, and reads with the longest name.
abbrev pub no_move : LfsGstate
no_move = record { tag = 0; pair = record { n0 = 0; n1 = 0 } }

abbrev pub info_in : Geometry → List ℕ → LfsPair → LfsMdir → ℕ → Result LfsInfo Refusal
info_in g vol p m id = getinfo_of g (block_in g vol p.n0) (block_in g vol p.n1) p.n0 p.n1 m no_move 255 id

-- What the walk finds at a pair: a refusal, or the directory's entries there and, where it goes on, its hard tail. Soft
-- tails are not followed.
pub data Opened : Type 0 where
  refused : Refusal → Opened
  holding : List Node → Option LfsPair → Opened

abbrev pub hard_tail : LfsMdir → Option LfsPair
hard_tail m = cond m.split (Some m.tail) None

-- "the fetch's own, -202", by the rule r; the record's first number is the block that answers
abbrev pub opened_by : Rules → Geometry → List ℕ → LfsPair → Result Fetched Refusal → Opened
opened_by r g vol p (Err q) = refused q
opened_by r g vol p (Ok f) =
    cond (Regular r (log (block_in g vol f.dir.pair.n0)))
    (holding (nodes_from (info_in g vol p f.dir) 0 (dir_of (log (block_in g vol f.dir.pair.n0)))) (hard_tail f.dir))
    (refused Irregular)

unfoldable pub open_in : Rules → Geometry → List ℕ → LfsPair → Opened
open_in r g vol p = opened_by r g vol p (fetch_in g vol p)

-- ---- the walk
-- "Each line shows depth, type, name as the listing prints it, and `lfs_dir_getinfo`'s size", as `0 001 q212 3`
pub record Line : Type 0 where
  pub depth : ℕ
  pub node : Node

unfoldable pub line_text : Line → List ℕ
line_text l = decimal l.depth ++ (name_fields (Some l.node.name) ++ number_line (ascii " ") l.node.size)

unfoldable pub lines_text : List Line → List ℕ
lines_text [] = []
lines_text (l ∷ ls) = line_text l ++ lines_text ls

-- What a walk comes to: its lines, what it leaves of the allowance, and whether it went to its end.
pub record Walk : Type 0 where
  pub lines : List Line
  pub left : ℕ
  pub answer : Result Unit Refusal

abbrev pub ended : ℕ → Walk
ended left = record { lines = []; left = left; answer = (Ok tt) }

abbrev pub stopped : Refusal → ℕ → Walk
stopped r left = record { lines = []; left = left; answer = Err r }

abbrev pub shown : ℕ → Node → ℕ → Walk
shown depth n left = record { lines = record { depth = depth; node = n } ∷ []; left = left; answer = (Ok tt) }

-- A walk, and behind it another with what is left of the allowance. A refusal ends both: "Lines given before a refusal
-- stay".
abbrev pub behind : Result Unit Refusal → Walk → Walk → Walk
behind (Ok x) w v = record { lines = w.lines ++ v.lines; left = v.left; answer = v.answer }
behind (Err r) w v = w

abbrev pub and_then : Walk → (ℕ → Walk) → Walk
and_then w next = behind w.answer w (next w.left)

-- where there is a pair, the walk of it
abbrev pub inside : (LfsPair → ℕ → Walk) → Option LfsPair → ℕ → Walk
inside walk None left = ended left
inside walk (Some p) left = walk p left

-- THE SLOT WALK, over the entries of a directory: an entry's line, what is in it where it is a directory, and then the
-- next. "Directories come in id order, children before the next id." `enter` is the directory walk, one deeper.
unfoldable pub slot_walk : (LfsPair → ℕ → Walk) → ℕ → List Node → ℕ → Walk
slot_walk enter depth [] left = ended left
slot_walk enter depth (n ∷ ns) left =
    and_then (shown depth n left) (λ l. and_then (inside enter n.into l) (slot_walk enter depth ns))

-- of a pair, and of the hard tail behind it: "the directory walk follows hard tails and calls the slot walk", "a hard
-- tail keeps" the depth; `walk` is the directory walk from a depth
abbrev pub walk_opened : (ℕ → LfsPair → ℕ → Walk) → ℕ → Opened → ℕ → Walk
walk_opened walk depth (refused r) left = stopped r left
walk_opened walk depth (holding ns tail) left =
    and_then (slot_walk (walk (suc depth)) depth ns left) (inside (walk depth) tail)

-- "a depth of at most 32, the given pair's being 0"
abbrev pub deepest : ℕ
deepest = 32

-- THE DIRECTORY WALK, from a pair on: "-232 depth, -231 allowance spent, the fetch's own, -202". The allowance is one
-- number for the whole tree: it falls by one at each pair, is handed on, and what is left of it is handed back. `opens`
-- is what stands at a pair; n pairs one in or behind the other are walked at most.
unfoldable pub dir_walk : ℕ → (LfsPair → Opened) → ℕ → LfsPair → ℕ → Walk
dir_walk zero opens depth p left = stopped Spent left
dir_walk (suc n) opens depth p left =
    cond (ltb deepest depth) (stopped TooDeep left)
    (cond (eqb left 0) (stopped Spent left)
    (walk_opened (dir_walk n opens) depth (opens p) (left - 1)))

-- ---- the call
-- "a falling allowance of pairs, at most 4,096 (more is -22)"
abbrev pub most_pairs : ℕ
most_pairs = 4_096

unfoldable pub tree_fits : Geometry → List ℕ → ℕ → ℕ → Bool
tree_fits g vol rules allowance = volume_fits g vol && rules_fit rules && leb allowance most_pairs

-- With each pair the allowance falls, so one more than it has is never too few for n: `walk_enough` of theory.
unfoldable pub tree_walk : Geometry → List ℕ → ℕ → ℕ → ℕ → ℕ → Walk
tree_walk g vol n0 n1 rules allowance =
    cond (not (tree_fits g vol rules allowance)) (stopped Invalid allowance)
    (dir_walk (suc allowance) (open_in (rules_of rules) g vol) 0 (record { n0 = n0; n1 = n1 }) allowance)

abbrev pub tree_text : Geometry → List ℕ → ℕ → ℕ → ℕ → ℕ → List ℕ
tree_text g vol n0 n1 rules allowance = lines_text (tree_walk g vol n0 n1 rules allowance).lines

-- "The answer is the refusal or 0 and the length of the whole text"
abbrev pub tree_of : Geometry → List ℕ → ℕ → ℕ → ℕ → ℕ → Written
tree_of g vol n0 n1 rules allowance = record {
  answer = (tree_walk g vol n0 n1 rules allowance).answer;
  length = length (tree_text g vol n0 n1 rules allowance);
}
