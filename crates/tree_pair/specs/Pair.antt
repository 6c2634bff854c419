-- What the walk's code keeps of a pair that it has opened, and of a slot. Assumes nothing.
use Rattle.std.specs.Prelude.{◌≡◌, ◌⊎◌, cond, List, [], ◌∷◌, ℕ, ◌<◌, length, None, Option, Some, Err, Ok, Result}
use Rattle.format.specs.Tag.{tag_type3}
use Rattle.format.specs.Log.{log}
use Rattle.format.specs.Look.{bytes_of, FoundIn}
use Rattle.format.specs.Directory.{Load, dir_of}
use Rattle.format.specs.Volume.{blocks_in, block_in}
use Rattle.format.specs.Tree.{Opened, refused, holding, node_of, nodes_from, Line, line_text}
use Rattle.format.specs.Tree as tree
use Rattle.format.specs.declared.Geometry.{Geometry}
use Rattle.format.specs.declared.LfsPair.{LfsPair}
use Rattle.format.specs.declared.Found.{Found}
use Rattle.tree_theory.specs.OnBlock.{info_at, slot_at, Regularly}
use Rattle.tree_pair.specs.declared.Dir.{Dir}
use Rattle.tree_pair.specs.declared.Entry.{Entry}
use Rattle.tree_pair.specs.declared.Entry.TheVariants as entry
use Rattle.format.specs.declared.Refusal.{Refusal}

-- ---- the entries of a block whose log ends at `end` with the tag `etag`
-- of a slot, if it has one
abbrev pub node_at : List ℕ → ℕ → ℕ → ℕ → List tree.Node
node_at b end etag id = node_of (info_at b end etag id) (slot_at b id 0) (slot_at b id 1)

abbrev pub nodes_at : List ℕ → ℕ → ℕ → List tree.Node
nodes_at b end etag = nodes_from (info_at b end etag) 0 (dir_of (log b))

-- a block that was fetched from, with a regular log, and a slot of it
pub record Slotted (b : List ℕ) (end etag id : ℕ) : Type 0 where
  pub regularly : Regularly b end etag
  pub low : id < length (dir_of (log b))

-- what was opened is such a block of the volume
pub record Stands (g : Geometry) (vol : List ℕ) (d : Dir) : Type 0 where
  pub inside : d.block < blocks_in g vol
  pub regularly : Regularly (block_in g vol d.block) d.end d.etag
  pub count' : d.count ≡ length (dir_of (log (block_in g vol d.block)))

abbrev pub dir_tail : Dir → Option LfsPair
dir_tail d = d.tail

abbrev pub dir_nodes : Geometry → List ℕ → Dir → List tree.Node
dir_nodes g vol d = nodes_at (block_in g vol d.block) d.end d.etag

-- how the code says what stands at a pair
abbrev pub Opens : Geometry → List ℕ → Opened → Result Dir Refusal → Type 0
Opens g vol o (Err r) = o ≡ refused r
Opens g vol o (Ok d) = (o ≡ holding (dir_nodes g vol d) (dir_tail d)) × Stands g vol d

-- ---- an entry
-- what an entry of the log holds that was found in the block
abbrev pub load_at : List ℕ → Found → Load
load_at b e = record { type = tag_type3 e.tag; bytes = bytes_of b e }

-- a name that `lfs_dir_getinfo` sees: the newest of the slot; or that there is none, or none that it sees
pub record Sees (b : List ℕ) (seen : Option Found) (name : Option Load) (e : Found) : Type 0 where
  pub inside : FoundIn (length b) e
  pub newest : name ≡ Some (load_at b e)
  pub other : Found
  pub found : seen ≡ Some other

abbrev pub NameSeen : List ℕ → Option Found → Option Load → Option Found → Type 0
NameSeen b seen name None = (name ≡ None) ⊎ (seen ≡ None)
NameSeen b seen name (Some e) = Sees b seen name e

-- the line of an entry; the pair that it leads into does not show
abbrev pub line_of : ℕ → Load → ℕ → Line
line_of depth name size = record { depth = depth; node = record { name = name; size = size; into = None } }

-- how the code says what the slot's entry is
pub record Shows (b : List ℕ) (e : Found) (size : ℕ) (into : Option LfsPair) (nodes : List tree.Node) : Type 0 where
  pub inside : FoundIn (length b) e
  pub is : nodes ≡ record { name = load_at b e; size = size; into = into } ∷ []

abbrev pub EntryIs : List ℕ → List tree.Node → Option Entry → Type 0
EntryIs b nodes None = nodes ≡ []
EntryIs b nodes (Some (entry.File e size)) = Shows b e size None nodes
EntryIs b nodes (Some (entry.Dir e p)) = Shows b e 0 (Some p) nodes

-- its name stands in the block, and its line
abbrev pub EntryIn : ℕ → Entry → Type 0
EntryIn n (entry.File e size) = FoundIn n e
EntryIn n (entry.Dir e p) = FoundIn n e

abbrev pub entry_text : List ℕ → ℕ → Entry → List ℕ
entry_text b depth (entry.File e size) = line_text (line_of depth (load_at b e) size)
entry_text b depth (entry.Dir e p) = line_text (line_of depth (load_at b e) 0)
