-- The small functions of a slot's walk, branch by branch: x, y, j and k are what the code read of the tag. Assumes
-- nothing.
use mathlib.Core.Path.{◌≡◌}
use mathlib.Core.Bool.{Bool, true, false, ◌&&◌}
use Prim.Native.Nat.{ℕ, ◌+◌, ◌-◌, ◌^◌, ◌≤◌, ◌<◌}
use native.Mathlib.Omega.{arith}
use lib.Dec.{eqb}
use borrow.Author.Tests.{eq-eqb, ne_eqb, lt-ltb, le-ltb, le-leb, lt-leb}
use Rattle.format.specs.Tag.{tag_type3, tag_id, tag_size, tag_delete, tag_length, mk_tag, tag_of}
use Rattle.format.specs.Kind.{type_create, type_delete}
use Rattle.format.proofs.Words.{mk_tag_sum}
use Rattle.compact_slot.specs.Seat.{hit_of, created_at, id_before}
use Rattle.std.specs.Prelude.{None, Some}

module _ (t id x j : ℕ) (ex : x ≡ tag_type3 t) (ej : j ≡ tag_id t) where
  pub created_is : eqb x type_create && eqb j id ≡ created_at t id
  unfolding created_at
  created_is = rw (ex, ej)

  pub before_create : x ≡ type_create → j < id → id - 1 ≡ id_before t id
  unfolding id_before
  before_create h k = rw (← ex, ← ej, h, lt-ltb j id k)

  pub before_create_above : x ≡ type_create → id ≤ j → id ≡ id_before t id
  unfolding id_before
  before_create_above h k = rw (← ex, ← ej, h, le-ltb j id k)

  pub before_delete : (x ≡ type_create → ⊥) → x ≡ type_delete → j ≤ id → id + 1 ≡ id_before t id
  unfolding id_before
  before_delete n h k = rw (← ex, ← ej, h, le-leb j id k)

  pub before_delete_above : (x ≡ type_create → ⊥) → x ≡ type_delete → id < j → id ≡ id_before t id
  unfolding id_before
  before_delete_above n h k = rw (← ex, ← ej, h, lt-leb j id k)

  pub before_other : (x ≡ type_create → ⊥) → (x ≡ type_delete → ⊥) → id ≡ id_before t id
  unfolding id_before
  before_other n h = rw (← ex, ne_eqb x type_create n, ne_eqb x type_delete h)

-- ---- what an entry's seat has: the tag with another id
pub named_lem : (t id x s : ℕ) → x ≡ tag_type3 t → s ≡ tag_size t → id < 2 ^ 10
    → mk_tag x id s ≡ tag_of (tag_type3 t) id (tag_size t)
unfolding tag_of
named_lem t id x s ex es low =
    rw (ex, es) (mk_tag_sum (tag_type3 t) id (tag_size t) (omega arith) low (omega arith))

-- ---- what a seat tells: d whether its tag is a removal's, n its length
module _ (t off : ℕ) where
  pub found_free : off ≡ 0 → None ≡ hit_of t off
  unfolding hit_of
  found_free h = rw (eq-eqb off 0 h)

  module _ (d : Bool) (ed : d ≡ tag_delete t) (some : off ≡ 0 → ⊥) where
    pub found_removed : d ≡ true → None ≡ hit_of t off
    unfolding hit_of
    found_removed h = rw (ne_eqb off 0 some, ← ed, h)

    pub found_kept : d ≡ false → (n : ℕ) → n ≡ tag_length t
        → Some (record { tag = t; length = n; off = off }) ≡ hit_of t off
    unfolding hit_of
    found_kept h n en = rw (ne_eqb off 0 some, ← ed, h, en)
