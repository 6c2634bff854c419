-- Acts as the entries that write them: what compaction's entries are made of. Assumes nothing.
use Rattle.std.specs.Prelude.{◌≡◌, refl, ◌⊎◌, true, false, ℕ, zero, suc, ◌+◌, ◌-◌, ◌^◌, ◌≤◌, ◌<◌, length, None, Some}
use Rattle.std.proofs.Common.{ap, ap₂, ◌∙◌, inl, arith, ne_eqb}
use mathlib.Core.List.{List, [], ◌∷◌, reverse_aux, map}
use Rattle.format.specs.Tag.{tag_type3, tag_chunk, tag_id, removal_size, tag_of}
use Rattle.format.specs.Kind.{type_dir_struct, type_user_attr, type_create, type_delete, type_check, type_move, no_slot, is_wide}
use Rattle.format.specs.Regular.{rule_of, rule_holds}
use Rattle.format.specs.Commit.{Item}
use Rattle.format.specs.Directory.{Act, mk, rm, put, skip, Load, load_of, act}
use Rattle.format.proofs.Tags.{of_valid, of_type3, of_length, of_size, of_id, of_chunk}
use Rattle.theory.specs.Walk.Step.{not_true}
use Rattle.theory.specs.Walk.ReadBack.{GoodItem, AllGood}
use Rattle.theory.specs.Directory.Types.{not_check, not_wide, act_name, act_struct, act_attr, act_create}
use Rattle.theory.specs.Blocks.Append.{item_acts}

-- ---- an item of any type that fits its fields
pub good_item : (T j : ℕ) (d : List ℕ) → T < 2 ^ 11 → j < 2 ^ 10 → length d < removal_size
    → (T < type_check) ⊎ (type_check + 2 ^ 7 ≤ T)
    → (is_wide (tag_of T j (length d)) ≡ true → length d ≡ 8) → GoodItem (record { tag = tag_of T j (length d); body = d })
good_item T j d a b l side wide =
    record {
      small = of_valid T j (length d) a b (omega arith);
      entry = not_check (tag_of T j (length d)) (rw (of_type3 T j (length d) a b (omega arith)) side);
      long = of_length T j (length d) l;
      eight = wide;
    }

-- of a type below 0x500: not one of those that are read by eight bytes
pub good_low : (T j : ℕ) (d : List ℕ) → T < type_check → j < 2 ^ 10 → length d < removal_size
    → GoodItem (record { tag = tag_of T j (length d); body = d })
good_low T j d a b l = good_item T j d (omega arith) b l (inl a)
    (λ w. absurd (not_true (is_wide (tag_of T j (length d))) narrow w))
  where
    narrow : is_wide (tag_of T j (length d)) ≡ false
    narrow = not_wide (tag_of T j (length d))
        (inl (rw (of_type3 T j (length d) (omega arith) b (omega arith)) (omega arith)))

-- ---- acts and their items
unfoldable pub to_item : Act → Item
to_item (mk j) = record { tag = tag_of type_create j 0; body = [] }
to_item (rm j) = record { tag = tag_of type_delete j 0; body = [] }
to_item (put j c (Some v)) = record { tag = tag_of v.type j (length v.bytes); body = v.bytes }
to_item (put j c None) = record { tag = tag_of (type_user_attr + c - 2) j removal_size; body = [] }
to_item skip = record { tag = tag_of type_move no_slot 0; body = [] }

-- the types of a class: 0 name, 1 struct, 2 + u user attribute u
abbrev pub TypeOf : ℕ → ℕ → Type 0
TypeOf zero T = T < 2 ^ 8
TypeOf (suc zero) T = (type_dir_struct ≤ T) × (T < type_dir_struct + 2 ^ 8)
TypeOf (suc (suc u)) T = (T ≡ type_user_attr + u) × (u < 2 ^ 8)

-- what a slot may hold under class c: a type of the class, fewer bytes than a removal's size, and the rule of the type
-- passed
abbrev pub LoadOk : ℕ → Load → Type 0
LoadOk c v = TypeOf c v.type × (length v.bytes < removal_size)
    × (rule_holds (rule_of true v.type) 1 0 (length v.bytes) ≡ true)

-- acts that compaction writes
abbrev pub OkAct : Act → Type 0
OkAct (mk j) = j < 2 ^ 10
OkAct (rm j) = ⊥
OkAct (put j c (Some v)) = (j < 2 ^ 10) × LoadOk c v
OkAct (put j c None) = ⊥
OkAct skip = ⊥

pub some_load : (T j s : ℕ) (d : List ℕ) → T < 2 ^ 11 → j < 2 ^ 10 → s < removal_size
    → load_of (tag_of T j s) d ≡ Some (record { type = T; bytes = d })
some_load T j s d a b c =
    rw (of_size T j s (omega arith), ne_eqb s removal_size (λ q. omega arith), of_type3 T j s a b (omega arith))

pub type_low : (c T : ℕ) → TypeOf c T → T < 2 ^ 10
type_low zero T k = omega arith
type_low (suc zero) T k = omega (arith, k.1)
type_low (suc (suc u)) T k = omega (arith, k.0, k.1)

act_put : (c T j : ℕ) (d : List ℕ) → TypeOf c T → j < 2 ^ 10 → length d < removal_size
    → act (tag_of T j (length d)) d ≡ put j c (Some (record { type = T; bytes = d }))
act_put c T j d k b l = by c k ∙ rw (of_id T j (length d) b (omega arith), some_load T j (length d) d low b l)
  where
    low : T < 2 ^ 11
    low = omega (arith, type_low c T k)

    is : tag_type3 (tag_of T j (length d)) ≡ T
    is = of_type3 T j (length d) low b (omega arith)

    by : (c : ℕ) → TypeOf c T → act (tag_of T j (length d)) d ≡ put (tag_id (tag_of T j (length d))) c
        (load_of (tag_of T j (length d)) d)
    by zero k = act_name (tag_of T j (length d)) d (rw is k)
    by (suc zero) k = act_struct (tag_of T j (length d)) d (rw is k.0) (rw is k.1)
    by (suc (suc u)) k =
        let e : 2 + tag_chunk (tag_of T j (length d)) ≡ suc (suc u) =
        omega (arith, of_chunk T j (length d) b (omega arith), k.0, k.1) in
        act_attr (tag_of T j (length d)) d (rw is (omega (arith, k.0))) (rw is (omega (arith, k.0, k.1)))
        ∙ ap (λ (n : ℕ). put (tag_id (tag_of T j (length d))) n (load_of (tag_of T j (length d)) d)) e

pub act_to_item : (a : Act) → OkAct a → act (to_item a).tag (to_item a).body ≡ a
unfolding to_item
act_to_item (mk j) h =
    act_create (tag_of type_create j 0) [] (of_type3 type_create j 0 (omega arith) h (omega arith))
    ∙ ap mk (of_id type_create j 0 h (omega arith))
act_to_item (rm j) h = absurd h
act_to_item (put j c (Some v)) h = act_put c v.type j v.bytes h.1.0 h.0 h.1.1
act_to_item (put j c None) h = absurd h
act_to_item skip h = absurd h

pub good_to_item : (a : Act) → OkAct a → GoodItem (to_item a)
unfolding to_item
good_to_item (mk j) h = good_low type_create j [] (omega arith) h (omega arith)
good_to_item (rm j) h = absurd h
good_to_item (put j c (Some v)) h = good_low v.type j v.bytes (omega (arith, type_low c v.type h.1.0))
    h.0 h.1.1
good_to_item (put j c None) h = absurd h
good_to_item skip h = absurd h

-- ---- lists of acts
abbrev pub AllOk : List Act → Type 0
AllOk [] = Unit {0}
AllOk (a ∷ l) = OkAct a × AllOk l

pub items_acts : (l : List Act) → AllOk l → item_acts (map to_item l) ≡ l
unfolding item_acts
items_acts [] h = refl
items_acts (a ∷ l) h = ap₂ (λ x y. x ∷ y) (act_to_item a h.0) (items_acts l h.1)

pub items_good : (l : List Act) → AllOk l → AllGood (map to_item l)
items_good [] h = tt
items_good (a ∷ l) h = (good_to_item a h.0, items_good l h.1)

pub ok_rev : (l r : List Act) → AllOk l → AllOk r → AllOk (reverse_aux l r)
ok_rev [] r h k = k
ok_rev (a ∷ l) r h k = ok_rev l (a ∷ r) h.1 (h.0, k)
