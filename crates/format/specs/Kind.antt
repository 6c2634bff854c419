-- Document 01, Types (SPEC.md), by name; and which of them fetch tells apart. Assumes nothing.
use Rattle.std.specs.Prelude.{Bool, ◌||◌, ℕ, eqb}
use Rattle.format.specs.Tag.{tag_type1, tag_type2, tag_type3}

-- "name 0x000 (file 0x001, directory 0x002, superblock 0x0ff)"
abbrev pub type_name : ℕ
type_name = 0x000

abbrev pub type_file : ℕ
type_file = 0x001

abbrev pub type_directory : ℕ
type_directory = 0x002

abbrev pub type_superblock : ℕ
type_superblock = 0x0ff

-- "struct 0x200 directory, 0x201 inline, 0x202 CTZ"
abbrev pub type_dir_struct : ℕ
type_dir_struct = 0x200

abbrev pub type_inline_struct : ℕ
type_inline_struct = 0x201

abbrev pub type_ctz_struct : ℕ
type_ctz_struct = 0x202

-- "user attribute 0x300 to 0x3ff"
abbrev pub type_user_attr : ℕ
type_user_attr = 0x300

-- "create 0x401; delete 0x4ff"; both are splices, type1 0x400
abbrev pub type_splice : ℕ
type_splice = 0x400

abbrev pub type_create : ℕ
type_create = 0x401

abbrev pub type_delete : ℕ
type_delete = 0x4ff

-- "commit check 0x500 under type2; forward check 0x5ff"
abbrev pub type_check : ℕ
type_check = 0x500

abbrev pub type_forward : ℕ
type_forward = 0x5ff

-- "tail 0x600 soft, 0x601 hard"
abbrev pub type_tail : ℕ
type_tail = 0x600

abbrev pub type_hard_tail : ℕ
type_hard_tail = 0x601

-- "move state 0x7ff"
abbrev pub type_move : ℕ
type_move = 0x7ff

-- The id of what belongs to no slot: "Tail: id 1,023 .. Move state: id 1,023", check tags, and the root of
-- `lfs_dir_getinfo`.
abbrev pub no_slot : ℕ
no_slot = 1023

-- What fetch tells apart. Names, splices and tails go by type1, so every 0x0xx is a name; a check goes by type2, 0x500
-- to 0x57f; the forward check is exactly 0x5ff.
abbrev pub is_name : ℕ → Bool
is_name t = eqb (tag_type1 t) type_name

abbrev pub is_splice : ℕ → Bool
is_splice t = eqb (tag_type1 t) type_splice

abbrev pub is_tail : ℕ → Bool
is_tail t = eqb (tag_type1 t) type_tail

abbrev pub is_check : ℕ → Bool
is_check t = eqb (tag_type2 t) type_check

abbrev pub is_forward : ℕ → Bool
is_forward t = eqb (tag_type3 t) type_forward

-- "Tail: .. 8 bytes are read, though the size be smaller. Forward check: 8 bytes likewise"
abbrev pub is_wide : ℕ → Bool
is_wide t = is_tail t || is_forward t
