-- Document 01: "a simple directory machine: slots inserted, removed, attributes set". The directory of a log is what
-- its entries make of an empty one. It is one machine for both rules: what is set in a slot that is not there makes it,
-- which in a log that is regular by document 01 never happens, and by littlefs's rule for a name alone. Assumes
-- nothing.
use Rattle.std.specs.Prelude.{Bool, cond, List, [], ◌∷◌, ◌++◌, reverse, ℕ, suc, ◌+◌, ◌-◌, ◌^◌, length, take, drop, replicate, set, get_or, eqb, None, Option, Some}
use Rattle.format.specs.Tag.{tag_type1, tag_type3, tag_chunk, tag_id, tag_delete}
use Rattle.format.specs.Kind.{is_name, type_dir_struct, type_user_attr, type_create, type_delete, type_move}
use Rattle.format.specs.Walk.{Event, ent, chk, inv}

-- classes of what a slot holds: 0 its name, 1 its struct, 2 + u its user attribute u
abbrev pub classes : ℕ
classes = 2 + 2 ^ 8

-- what stands under a slot's class: the entry's type and bytes
pub record Load : Type 0 where
  pub type : ℕ
  pub bytes : List ℕ

-- a slot: under each class something, or nothing
abbrev pub Slot : Type 0
Slot = ℕ → Option Load

unfoldable pub empty : Slot
empty c = None

unfoldable pub upd : Slot → ℕ → Option Load → Slot
upd s c v k = cond (eqb k c) v (s k)

-- what an entry does: make a slot, remove one, put something (or, for a removal, nothing) under a slot's class; or none
-- of these
pub data Act : Type 0 where
  mk : ℕ → Act
  rm : ℕ → Act
  put : ℕ → ℕ → Option Load → Act
  skip : Act

-- "the slots in between are made, empty": as many behind the last one as make a slot j
unfoldable pub reaching : ℕ → List Slot → List Slot
reaching j D = D ++ replicate (suc j - length D) empty

-- "slots inserted, removed, attributes set"
unfoldable pub apply : List Slot → Act → List Slot
apply D (mk j) = take j D ++ empty ∷ drop j D
apply D (rm j) = take j D ++ drop (suc j) D
apply D (put j c v) = set (reaching j D) j (upd (get_or D j empty) c v)
apply D skip = D

-- acts newest first
unfoldable pub dir : List Act → List Slot
dir [] = []
dir (a ∷ l) = apply (dir l) a

-- acts oldest first, applied to a directory
unfoldable pub apply_all : List Slot → List Act → List Slot
apply_all D [] = D
apply_all D (a ∷ l) = apply_all (apply D a) l

-- structs and user attributes go by type1, as names do
abbrev pub is_struct : ℕ → Bool
is_struct t = eqb (tag_type1 t) type_dir_struct

abbrev pub is_attr : ℕ → Bool
is_attr t = eqb (tag_type1 t) type_user_attr

-- the class of what an entry sets in its slot, or `classes` where it sets nothing
unfoldable pub seat_class : ℕ → ℕ
seat_class t = cond (is_name t) 0 (cond (is_struct t) 1 (cond (is_attr t) (2 + tag_chunk t) classes))

-- "Size 0x3ff means removal."
abbrev pub load_of : ℕ → List ℕ → Option Load
load_of t d = cond (tag_delete t) None (Some (record { type = tag_type3 t; bytes = d }))

-- a tag and its bytes as an act
unfoldable pub act : ℕ → List ℕ → Act
act t d =
    cond (is_name t) (put (tag_id t) 0 (load_of t d))
    (cond (is_struct t) (put (tag_id t) 1 (load_of t d))
    (cond (is_attr t) (put (tag_id t) (2 + tag_chunk t) (load_of t d))
    (cond (eqb (tag_type3 t) type_create) (mk (tag_id t))
    (cond (eqb (tag_type3 t) type_delete) (rm (tag_id t)) skip))))

-- of a log, oldest first
unfoldable pub acts : List Event → List Act
acts [] = []
acts (ent t d ∷ es) = act t d ∷ acts es
acts (chk t c ∷ es) = skip ∷ acts es
acts (inv ∷ es) = acts es

-- the directory of a log
unfoldable pub dir_of : List Event → List Slot
dir_of es = dir (reverse (acts es))

-- the move state of a log: the last one
abbrev pub is_move : ℕ → Bool
is_move t = eqb (tag_type3 t) type_move

unfoldable pub move_of : Option Load → List Event → Option Load
move_of v [] = v
move_of v (ent t d ∷ es) = move_of (cond (is_move t) (load_of t d) v) es
move_of v (chk t c ∷ es) = move_of v es
move_of v (inv ∷ es) = move_of v es
