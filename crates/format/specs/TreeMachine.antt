-- Document 02, L9, the tree by what its pairs hold: a walk of volumes whose pairs hold the same machines shows the
-- same, where no superblock's name was put over another name. Here is what the walk finds at a pair that holds a
-- machine, and which logs that is said of. Assumes nothing.
use Rattle.std.specs.Prelude.{Bool, true, false, not, cond, ◌&&◌, List, [], ◌∷◌, ◌++◌, reverse, ℕ, length, drop, get_or, leb, ltb, eqb, None, Option, Some}
use Rattle.format.specs.Word.{le32}
use Rattle.format.specs.Kind.{type_inline_struct, type_ctz_struct}
use Rattle.format.specs.Walk.{Event}
use Rattle.format.specs.Directory.{Load, Slot, empty, Act, mk, rm, put, skip, dir, acts}
use Rattle.format.specs.Machine.{Machine}
use Rattle.format.specs.Tree.{Node, into_of, Opened, holding}

-- ---- names that `lfs_dir_getinfo` passes over: it looks under 0x780, so those of the types 0x080 to 0x0ff, of which a
-- regular log has the superblock's
unfoldable pub hidden : ℕ → Bool
hidden type = leb 0x080 type && ltb type 0x100

-- a slot's newest name is one that it sees
unfoldable pub named : Option Load → Bool
named None = false
named (Some v) = not (hidden v.type)

-- No hidden name was put on a slot whose newest name was another. Acts newest first, as `dir` has them.
unfoldable pub uncovered_in : List Act → Bool
uncovered_in [] = true
uncovered_in (put j c (Some v) ∷ l) = not (hidden v.type && named (get_or (dir l) j empty 0)) && uncovered_in l
uncovered_in (put j c None ∷ l) = uncovered_in l
uncovered_in (mk j ∷ l) = uncovered_in l
uncovered_in (rm j ∷ l) = uncovered_in l
uncovered_in (skip ∷ l) = uncovered_in l

-- of a log
abbrev pub uncovered : List Event → Bool
uncovered es = uncovered_in (reverse (acts es))

-- ---- what a machine shows
-- a file's size, from its struct: an inline one is the file, a CTZ struct has its head and its size
unfoldable pub struct_size : Load → ℕ
struct_size w = cond (eqb w.type type_ctz_struct) (le32 (drop 4 w.bytes))
    (cond (eqb w.type type_inline_struct) (length w.bytes) 0)

-- the entry of a slot: it has a name that is seen, and a struct
unfoldable pub slot_node : Option Load → Option Load → List Node
slot_node (Some v) (Some w) = cond (hidden v.type) []
    (record { name = v; size = struct_size w; into = into_of w } ∷ [])
slot_node (Some v) None = []
slot_node None w = []

unfoldable pub slot_nodes : List Slot → List Node
slot_nodes [] = []
slot_nodes (s ∷ D) = slot_node (s 0) (s 1) ++ slot_nodes D

-- the entries of a machine, and its hard tail
unfoldable pub machine_opened : Machine → Opened
machine_opened M = holding (slot_nodes M.slots) (cond M.split (Some M.tail) None)
