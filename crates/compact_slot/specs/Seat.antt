-- What one walk back gathers for a slot: for each class a seat of two words, the newest entry's tag with the slot's id,
-- and the offset of its first data byte. Assumes nothing.
use Rattle.std.specs.Prelude.{◌≡◌, Bool, cond, ◌&&◌, List, ℕ, ◌+◌, ◌-◌, ◌*◌, ◌^◌, ◌≤◌, ◌<◌, length, get_or, set, eqb, leb, ltb, None, Option, Some}
use Rattle.format.specs.Tag.{tag_type3, tag_id, tag_size, tag_delete, tag_length, tag_of}
use Rattle.format.specs.Kind.{type_create, type_delete}
use Rattle.format.specs.Directory.{classes, seat_class, Act}
use Rattle.format.specs.Look.{HitIn}
use Rattle.theory.specs.Directory.Machine.{find, most_slots}
use Rattle.theory.specs.Lookup.ByMask.{holds, Answers}
use Rattle.format.specs.declared.Found.{Found}

-- the two words of a class's seat
abbrev pub seat_tag : List ℕ → ℕ → ℕ
seat_tag seats c = get_or seats (2 * c) 0

abbrev pub seat_off : List ℕ → ℕ → ℕ
seat_off seats c = get_or seats (2 * c + 1) 0

-- what they tell: nothing where the offset is 0, and nothing of a removal
unfoldable pub hit_of : ℕ → ℕ → Option Found
hit_of t off =
    cond (eqb off 0) None
    (cond (tag_delete t) None (Some (record { tag = t; length = tag_length t; off = off })))

abbrev pub hit_at : List ℕ → ℕ → Option Found
hit_at seats c = hit_of (seat_tag seats c) (seat_off seats c)

-- a create of exactly this id: the slot's own
unfoldable pub created_at : ℕ → ℕ → Bool
created_at t id = eqb (tag_type3 t) type_create && eqb (tag_id t) id

-- the slot's id before a tag
unfoldable pub id_before : ℕ → ℕ → ℕ
id_before t id =
    cond (eqb (tag_type3 t) type_create) (cond (ltb (tag_id t) id) (id - 1) id)
    (cond (eqb (tag_type3 t) type_delete) (cond (leb (tag_id t) id) (id + 1) id) id)

-- the seats with a tag and an offset in that of class k
abbrev pub seated : List ℕ → ℕ → ℕ → ℕ → List ℕ
seated seats k t off = set (set seats (2 * k) t) (2 * k + 1) off

-- the seats after an entry of the slot, whose id is `slot` there and `id` now: a newer one stays
unfoldable pub noted : List ℕ → ℕ → ℕ → ℕ → ℕ → List ℕ
noted seats t at slot id =
    cond (eqb (tag_id t) slot && ltb (seat_class t) classes && eqb (seat_off seats (seat_class t)) 0)
    (seated seats (seat_class t) (tag_of (tag_type3 t) id (tag_size t)) (at + 4)) seats

-- what the walk asks: an end inside the block and of at most 65,536, and an id that a slot can have
pub record Gatherable (b : List ℕ) (end id : ℕ) : Type 0 where
  pub inside : end ≤ length b
  pub small : end ≤ 2 ^ 16
  pub slot : id ≤ most_slots

-- what it leaves: at each class's seat stands what the search back finds, whole in the block, and its tag has the
-- slot's id
pub record Gathered (b : List ℕ) (l : List Act) (id : ℕ) (seats : List ℕ) : Type 0 where
  pub loads : (c : ℕ) → c < classes → holds b (hit_at seats c) ≡ find c id l
  pub inside : (c : ℕ) → c < classes → HitIn (length b) (hit_at seats c)
  pub named : (c : ℕ) → c < classes → Answers id (hit_at seats c)
