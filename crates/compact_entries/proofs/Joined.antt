-- Entries join: one after the other, and as the bytes of one commit. Assumes nothing.
use mathlib.Core.Path.{◌≡◌, refl, sym, ap, ◌∙◌}
use mathlib.Core.Bool.{Bool, true, false, cond}
use mathlib.Core.List.{List, [], ◌∷◌, ◌++◌, append_assoc}
use Prim.Native.Nat.{ℕ, zero, suc, ◌+◌, ◌*◌, ◌≤◌}
use native.Mathlib.Nat.{add-zero, add_assoc}
use native.Mathlib.Omega.{arith}
use lib.ListN.{length}
use borrow.Author.Tests.{eqb-false}
use Rattle.format.specs.Word.{to_be32, to_le32, xor}
use Rattle.format.specs.Tag.{tag_size, tag_delete, tag_length, tag_of}
use Rattle.format.specs.Kind.{type_create, type_tail, type_hard_tail, no_slot}
use Rattle.format.specs.Crc.{crc}
use Rattle.format.specs.Walk.{Event}
use Rattle.format.specs.Record.{no_tail, tail_of, split_of}
use Rattle.format.specs.Directory.{classes, Load, Slot, dir_of, move_of}
use Rattle.format.specs.Commit.{Item, commit_bytes}
use Rattle.format.specs.Stores.{entries_length, tag_coincides, coincides}
use Rattle.format.specs.Writer.{forward_item, forward_length, carried_for, forward_items, with_forward}
use Rattle.format.specs.Compaction.{class_items, slot_items, dir_items, is_no_tail, tail_items, move_items, compaction_items}
use Rattle.format.specs.declared.LfsFcrc.{LfsFcrc}
use Rattle.format.specs.declared.LfsPair.{LfsPair}
use Rattle.theory.specs.Commit.ForwardCheck.{length_app, forward_long}
use Rattle.commit_lay.specs.Laid.{puts_of}
use Rattle.commit_lay.proofs.Puts.{puts_app, puts_length}
use Rattle.compact_entries.specs.Emitted.{Standing, item_bytes, emitted, emits, create_item}
use Rattle.std.specs.Prelude.{None, Option, Some}

pub emits_app : (is js : List Item) (s : Standing) → emits s (is ++ js) ≡ emits (emits s is) js
unfolding emits
emits_app [] js s = refl
emits_app (i ∷ is) js s = emits_app is js (emitted s i)

-- ---- the end moves by the entries' lengths
pub emits_end : (is : List Item) (s : Standing) → (emits s is).end ≡ s.end + entries_length is
unfolding emits emitted entries_length
emits_end [] s = sym (add-zero s.end)
emits_end (i ∷ is) s = emits_end is (emitted s i) ∙ add_assoc s.end (tag_length i.tag) (entries_length is)

pub length_most : (t : ℕ) → tag_length t ≤ 1_026
unfolding tag_length
length_most t = go (tag_delete t) refl
  where
    go : (b : Bool) → tag_delete t ≡ b → cond b 4 (4 + tag_size t) ≤ 1_026
    go true e = omega arith
    go false e =
        let n : (tag_size t ≡ 0x3ff → ⊥) = eqb-false (tag_size t) 0x3ff e in
        omega arith

pub class_most : (id : ℕ) (v : Option Load) → entries_length (class_items id v) ≤ 1_026
unfolding entries_length
class_most id None = omega arith
class_most id (Some v) = omega (arith, length_most (tag_of v.type id (length v.bytes)))

pub slot_most : (n c id : ℕ) (s : Slot) → entries_length (slot_items n c id s) ≤ n * 1_026
unfolding entries_length slot_items
slot_most zero c id s = omega arith
slot_most (suc n) c id s =
    rw (length_app (class_items id (s c)) (slot_items n (suc c) id s))
    (omega (arith, class_most id (s c), slot_most n (suc c) id s))

-- bounds of the end behind an entry, a class, a slot, the directory
pub entry_within : (r s : Standing) (i : Item) → r ≡ emitted s i → r.end ≤ s.end + 1_026
unfolding emitted
entry_within r s i h = omega (arith, ap (λ (z : Standing). z.end) h, length_most i.tag)

pub class_within : (r s : Standing) (id : ℕ) (v : Option Load) → r ≡ emits s (class_items id v) → r.end ≤ s.end + 1_026
class_within r s id v h = omega (arith, ap (λ (z : Standing). z.end) h, emits_end (class_items id v) s, class_most id v)

pub slot_within : (r s : Standing) (id : ℕ) (v : Slot) → r ≡ emits s (create_item id ∷ slot_items classes 0 id v)
    → r.end ≤ s.end + 265_734
unfolding entries_length
slot_within r s id v h =
    omega (
      arith,
      ap (λ (z : Standing). z.end) h,
      emits_end (create_item id ∷ slot_items classes 0 id v) s,
      length_most (tag_of type_create id 0),
      slot_most classes 0 id v,
    )

dir_most : (D : List Slot) (id : ℕ) → entries_length (dir_items id D) ≤ length D * 265_734
unfolding entries_length dir_items
dir_most [] id = omega arith
dir_most (s ∷ D) id =
    rw (length_app (slot_items classes 0 id s) (dir_items (suc id) D))
    (omega (arith, length_most (tag_of type_create id 0), slot_most classes 0 id s, dir_most D (suc id)))

pub dir_within : (r s : Standing) (D : List Slot) → r ≡ emits s (dir_items 0 D) → r.end ≤ s.end + length D * 265_734
dir_within r s D h = omega (arith, ap (λ (z : Standing). z.end) h, emits_end (dir_items 0 D) s, dir_most D 0)

tail_most : (split : Bool) (p : LfsPair) → entries_length (tail_items split p) ≤ 1_026
unfolding entries_length
tail_most split p = go (is_no_tail split p)
  where
    go : (b : Bool) → entries_length
        (cond b [] (record {
          tag = tag_of (cond split type_hard_tail type_tail) no_slot 8;
          body = to_le32 p.n0 ++ to_le32 p.n1;
        } ∷ [])) ≤ 1_026
    go true = omega arith
    go false = omega (arith, length_most (tag_of (cond split type_hard_tail type_tail) no_slot 8))

pub tail_within : (r s : Standing) (split : Bool) (p : LfsPair) → r ≡ emits s (tail_items split p)
    → r.end ≤ s.end + 1_026
tail_within r s split p h =
    omega (arith, ap (λ (z : Standing). z.end) h, emits_end (tail_items split p) s, tail_most split p)

-- all entries of a log of at most 1,023 slots
pub items_most : (es : List Event) → length (dir_of es) ≤ 1_023 → entries_length (compaction_items es) ≤ 271_847_934
unfolding compaction_items
items_most es few =
    let I : List Item = tail_items (split_of false es) (tail_of no_tail es) in
    let M : List Item = move_items (move_of None es) in
    rw (length_app (dir_items 0 (dir_of es)) (I ++ M), length_app I M)
    (omega (
      arith,
      dir_most (dir_of es) 0,
      tail_most (split_of false es) (tail_of no_tail es),
      class_most no_slot (move_of None es),
    ))

-- and the forward check, or none, behind them
forward_most : (f : LfsFcrc) → entries_length (forward_items f) ≤ forward_length
unfolding entries_length
forward_most f = go f.seen
  where
    go : (b : Bool) → entries_length (cond b (forward_item f ∷ []) []) ≤ forward_length
    go true = omega (arith, forward_long)
    go false = omega arith

pub laid_most : (byte prog block from : ℕ) (es : List Event) → length (dir_of es) ≤ 1_023
    → entries_length (with_forward byte prog block from (compaction_items es)) ≤ 271_847_946
unfolding with_forward
laid_most byte prog block from es few =
    let f : LfsFcrc = carried_for byte prog block (from + entries_length (compaction_items es)) in
    rw (length_app (compaction_items es) (forward_items f)) (omega (arith, items_most es few, forward_most f))

-- ---- the block keeps its length
pub emits_block : (is : List Item) (s : Standing) → length (emits s is).stores.block ≡ length s.stores.block
unfolding emits emitted
emits_block [] s = refl
emits_block (i ∷ is) s = emits_block is (emitted s i) ∙ puts_length (item_bytes s.prev i) s.stores

-- ---- with the check behind them, the bytes of a commit
pub emits_commit : (is : List Item) (s : Standing) (ct : ℕ)
    → puts_of (emits s is).stores (to_be32 (xor ct (emits s is).prev) ++ to_le32
    (crc (emits s is).sum (to_be32 (xor ct (emits s is).prev))))
    ≡ puts_of s.stores (commit_bytes s.sum s.prev is ct)
unfolding emits emitted commit_bytes
emits_commit [] s ct = refl
emits_commit (i ∷ is) s ct =
    emits_commit is (emitted s i) ct
    ∙ puts_app (item_bytes s.prev i) (commit_bytes (crc s.sum (item_bytes s.prev i)) i.tag is ct) s.stores
    ∙ ap (puts_of s.stores) (append_assoc (to_be32 (xor i.tag s.prev)) i.body
    (commit_bytes (crc s.sum (item_bytes s.prev i)) i.tag is ct))

-- and the coincidence is a test of where they end
pub emits_coincides : (byte : ℕ) (is : List Item) (s : Standing) (ct : ℕ)
    → tag_coincides byte (emits s is).sum (xor ct (emits s is).prev) ≡ coincides byte s.sum s.prev is ct
unfolding emits emitted coincides
emits_coincides byte [] s ct = refl
emits_coincides byte (i ∷ is) s ct = emits_coincides byte is (emitted s i) ct
