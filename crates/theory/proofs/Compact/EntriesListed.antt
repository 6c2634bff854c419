-- Compaction's entries as `format` lists them, forwards, are the theory's: a directory's acts, newest first, turned
-- round. Assumes nothing.
use Rattle.std.specs.Prelude.{◌≡◌, refl, ℕ, zero, suc, ◌+◌, None, Option, Some}
use Rattle.std.proofs.Common.{sym, ap, ◌∙◌, add-zero, zero-add, arith}
use mathlib.Core.List.{List, [], ◌∷◌, ◌++◌, append_assoc, append-nil, map, reverse, reverse-cons}
use Rattle.format.specs.Commit.{Item}
use Rattle.format.specs.Directory.{Load, Slot, Act, mk, put, classes}
use Rattle.format.specs.Compaction.{class_items, slot_items, dir_items}
use Rattle.theory.specs.Directory.Rebuild.{emit, puts, rebuild}
use Rattle.theory.specs.Blocks.ActItems.{to_item}
use Rattle.theory.specs.Blocks.Compact.{compact_items}

-- ---- one more class at the end of those from c on
pub slot_more : (n c id : ℕ) (s : Slot) → slot_items (suc n) c id s ≡ slot_items n c id s ++ class_items id (s (c + n))
unfolding slot_items
slot_more zero c id s = rw (add-zero c) (append-nil (class_items id (s c)))
slot_more (suc n) c id s =
    let e : suc c + n ≡ c + suc n = omega arith in
    ap (λ (l : List Item). class_items id (s c) ++ l) (slot_more n (suc c) id s
    ∙ ap (λ (k : ℕ). slot_items n (suc c) id s ++ class_items id (s k)) e)
    ∙ sym (append_assoc (class_items id (s c)) (slot_items n (suc c) id s) (class_items id (s (c + suc n))))

-- ---- acts, newest first, as entries, oldest first
abbrev turned : List Act → List Item
turned l = map to_item (reverse l)

map_app : (k l : List Act) → map to_item (k ++ l) ≡ map to_item k ++ map to_item l
map_app [] l = refl
map_app (a ∷ k) l = ap (λ (z : List Item). to_item a ∷ z) (map_app k l)

turned_more : (a : Act) (l : List Act) → turned (a ∷ l) ≡ turned l ++ (to_item a ∷ [])
turned_more a l = ap (map to_item) (reverse-cons a l) ∙ map_app (reverse l) (a ∷ [])

turned_emit : (id n : ℕ) (v : Option Load) (l : List Act) → turned (emit id n v l) ≡ turned l ++ class_items id v
unfolding to_item
turned_emit id n None l = sym (append-nil (turned l))
turned_emit id n (Some v) l = turned_more (put id n (Some v)) l

turned_slot : (n id : ℕ) (s : Slot) (l : List Act) → turned (puts n id s l) ≡ turned l ++ slot_items n 0 id s
unfolding puts slot_items
turned_slot zero id s l = sym (append-nil (turned l))
turned_slot (suc n) id s l =
    turned_emit id n (s n) (puts n id s l) ∙ ap (λ (z : List Item). z ++ class_items id (s n)) (turned_slot n id s l)
    ∙ append_assoc (turned l) (slot_items n 0 id s) (class_items id (s n))
    ∙ ap (λ (z : List Item). turned l ++ z)
    (sym (slot_more n 0 id s ∙ ap (λ (k : ℕ). slot_items n 0 id s ++ class_items id (s k)) (zero-add n)))

turned_dir : (D : List Slot) (id : ℕ) (l : List Act) → turned (rebuild id D l) ≡ turned l ++ dir_items id D
unfolding rebuild dir_items to_item
turned_dir [] id l = sym (append-nil (turned l))
turned_dir (s ∷ D) id l =
    turned_dir D (suc id) (puts classes id s (mk id ∷ l))
    ∙ ap (λ (z : List Item). z ++ dir_items (suc id) D) (turned_slot classes id s (mk id ∷ l)
    ∙ ap (λ (z : List Item). z ++ slot_items classes 0 id s) (turned_more (mk id) l))
    ∙ rearranged (turned l) (to_item (mk id)) (slot_items classes 0 id s) (dir_items (suc id) D)
  where
    rearranged : (x : List Item) (i : Item) (y z : List Item) → ((x ++ (i ∷ [])) ++ y) ++ z ≡ x ++ ((i ∷ y) ++ z)
    rearranged x i y z = simp append_assoc

-- so the theory's entries are format's
pub listed : (D : List Slot) (ts : List Item) → compact_items D ts ≡ dir_items 0 D ++ ts
unfolding compact_items
listed D ts = ap (λ (z : List Item). z ++ ts) (turned_dir D 0 [])
