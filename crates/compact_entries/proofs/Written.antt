-- What each function of the emission adds: an entry, a class, a slot, the directory, the tail, the forward check.
-- Assumes nothing.
use mathlib.Core.Path.{◌≡◌, refl, sym, ap, ap₂, ◌∙◌}
use mathlib.Core.Bool.{Bool, true, false, not, cond}
use mathlib.Core.List.{List, [], ◌∷◌, ◌++◌}
use Prim.Native.Nat.{ℕ, zero, suc, ◌+◌, ◌-◌, ◌^◌, ◌≤◌, ◌<◌}
use native.Mathlib.Numerals.{add-one}
use native.Mathlib.Omega.{arith}
use lib.Bits.{bit_xor}
use lib.ListN.{length, drop, get_or, drop_of_length-le}
use lib.Seq.{drop-cons}
use borrow.Author.Tests.{ne_eqb, not-true, not-false}
use Rattle.format.specs.Word.{to_be32, to_le32, xor}
use Rattle.format.specs.Tag.{removal_size, tag_length, mk_tag, tag_of}
use Rattle.format.specs.Kind.{type_create, type_tail, type_hard_tail, no_slot}
use Rattle.format.specs.Crc.{crc}
use Rattle.format.specs.Directory.{classes, Load, Slot, empty}
use Rattle.format.specs.Commit.{Item}
use Rattle.format.specs.Compaction.{class_items, slot_items, dir_items, is_no_tail, tail_items}
use Rattle.format.specs.Writer.{forward_items}
use Rattle.format.specs.declared.LfsFcrc.{LfsFcrc}
use Rattle.format.specs.declared.LfsPair.{LfsPair}
use Rattle.format.proofs.Words.{mk_tag_sum}
use Rattle.format.proofs.Searched.{hit_in, bytes_length}
use Rattle.commit_lay.specs.Laid.{Laid, puts_of, body_of}
use Rattle.commit_lay.proofs.Parts.{pair_body}
use Rattle.commit_lay.proofs.Puts.{puts_app}
use Rattle.format.specs.Look.{data_size, bytes_of, FoundIn, HitIn}
use Rattle.format.specs.declared.Found.{Found}
use Rattle.theory.specs.Lookup.ByMask.{holds, Answers}
use Rattle.compact_slot.specs.Seat.{hit_at}
use Rattle.compact_slot.specs.Slots.{slot_in}
use Rattle.compact_entries.specs.Emitted.{Standing, emitted, emits, create_item, hit_items}
use Rattle.compact_entries.proofs.Joined.{emits_app}
use Rattle.std.specs.Prelude.{None, Option, Some}

-- the code's XOR
pub xor_is : (a b : ℕ) → bit_xor a b ≡ xor a b
unfolding xor
xor_is a b = refl

-- ---- the check: w is its tag as it is stored, t and u are what the two stores leave, y is the checksum
pub check_done : (r t u : Laid) (prev sum tag w y : ℕ) → w ≡ xor tag prev → t ≡ puts_of r (to_be32 w)
    → y ≡ crc sum (to_be32 w) → u ≡ puts_of t (to_le32 y)
    → u ≡ puts_of r (to_be32 (xor tag prev) ++ to_le32 (crc sum (to_be32 (xor tag prev))))
check_done r t u prev sum tag w y ew et ey eu =
    eu ∙ rw (ey, et, ew) (puts_app (to_be32 (xor tag prev)) (to_le32 (crc sum (to_be32 (xor tag prev)))) r)

-- ---- one entry: w is the tag as it is stored, r the stores behind it, n its length and y its checksum
pub entry_done : (s : Standing) (t w : ℕ) (body : List ℕ) (r : Laid) (n y : ℕ) → w ≡ xor t s.prev
    → r ≡ puts_of s.stores (to_be32 w ++ body) → n ≡ tag_length t
    → y ≡ crc s.sum (to_be32 w ++ body) → record { stores = r; end = s.end + n; prev = t; sum = y }
    ≡ emitted s (record { tag = t; body = body })
unfolding emitted
entry_done s t w body r n y ew er en ey =
    λ i. record {
      stores = (er ∙ ap (λ (z : ℕ). puts_of s.stores (to_be32 z ++ body)) ew) i;
      end = s.end + en i;
      prev = t;
      sum = (ey ∙ ap (λ (z : ℕ). crc s.sum (to_be32 z ++ body)) ew) i;
    }

-- ---- a tag of fields that fit
made_tag : (k y id z : ℕ) → k ≡ mk_tag y id z → y < 2 ^ 12 → id < 2 ^ 10 → z < 2 ^ 10 → k ≡ tag_of y id z
unfolding tag_of
made_tag k y id z ek hy hid hz = ek ∙ mk_tag_sum y id z hy hid hz

-- ---- an entry that was found
module _ (b : List ℕ) (s : Standing) (h : Option Found) where
  pub hit_missing : h ≡ None → s ≡ emits s (hit_items b h)
  unfolding emits
  hit_missing q = sym (ap (λ (x : Option Found). emits s (hit_items b x)) q)

  -- r stands behind it
  pub hit_made : (f : Found) → h ≡ Some f → HitIn (length b) h → (r : Standing)
      → r ≡ emitted s (record { tag = f.tag; body = body_of b f.off (f.length - 4) }) → r ≡ emits s (hit_items b h)
  unfolding emits body_of
  hit_made f q i r er =
      let w : FoundIn (length b) f = hit_in (length b) h i q in
      er ∙ rw (ne_eqb (data_size f) removal_size (λ z. omega (arith, w.kept)))
      (sym (ap (λ (x : Option Found). emits s (hit_items b x)) q))

-- whose tag has the id is the entry of what it holds
pub hit_items_lem : (b : List ℕ) (id : ℕ) (h : Option Found) → HitIn (length b) h → Answers id h
    → hit_items b h ≡ class_items id (holds b h)
unfolding holds
hit_items_lem b id None i a = refl
hit_items_lem b id (Some f) i a =
    rw (bytes_length b f i) (ap (λ (t : ℕ). one (record { tag = t; body = bytes_of b f })) a)
  where
    one : Item → List Item
    one x = x ∷ []

-- what the seat of class c tells is h; r stands behind it
pub seat_laid : (b : List ℕ) (id : ℕ) (seats : List ℕ) (c : ℕ) → HitIn (length b) (hit_at seats c)
    → Answers id (hit_at seats c) → (h : Option Found) → h ≡ hit_at seats c → (s r : Standing) → r ≡ emits s (hit_items b h)
    → r ≡ emits s (class_items id (slot_in b seats c))
seat_laid b id seats c i a h eh s r er = er ∙ ap (emits s) (ap (hit_items b) eh ∙ hit_items_lem b id (hit_at seats c) i a)

-- ---- a slot
no_body : (dat : List ℕ) → body_of dat 0 0 ≡ []
unfolding body_of
no_body dat = refl

-- r stands behind the create, whose tag is k
pub create_done : (s r : Standing) (dat : List ℕ) (id k : ℕ) → id < 2 ^ 10 → k ≡ mk_tag type_create id 0
    → r ≡ emitted s (record { tag = k; body = body_of dat 0 0 }) → r ≡ emitted s (create_item id)
create_done s r dat id k low ek er =
    er ∙ ap₂ (λ (p : ℕ) (q : List ℕ). emitted s (record { tag = p; body = q }))
    (made_tag k type_create id 0 ek (omega arith) low (omega arith)) (no_body dat)

pub slot_created : (s r : Standing) (id : ℕ) (is : List Item) → r ≡ emitted s (create_item id)
    → emits s (create_item id ∷ is) ≡ emits r is
unfolding emits
slot_created s r id is er = ap (λ (z : Standing). emits z is) (sym er)

class_next : (c id : ℕ) (s : Slot) → c < classes → slot_items (classes - c) c id s ≡ class_items id (s c)
    ++ slot_items (classes - (c + 1)) (c + 1) id s
unfolding slot_items
class_next c id s h =
    let e : classes - c ≡ suc (classes - (c + 1)) = omega arith in
    rw (e, add-one c)

-- one class more: a is where all classes end, r stands behind class c
pub slot_class : (a s r : Standing) (c id : ℕ) (slot : Slot) → c < classes
    → a ≡ emits s (slot_items (classes - c) c id slot) → r ≡ emits s (class_items id (slot c))
    → a ≡ emits r (slot_items (classes - (c + 1)) (c + 1) id slot)
slot_class a s r c id slot h ea er =
    ea ∙ ap (emits s) (class_next c id slot h) ∙ emits_app (class_items id (slot c))
    (slot_items (classes - (c + 1)) (c + 1) id slot) s
    ∙ ap (λ (z : Standing). emits z (slot_items (classes - (c + 1)) (c + 1) id slot)) (sym er)

pub slot_done : (a s : Standing) (c id : ℕ) (slot : Slot) → classes ≤ c
    → a ≡ emits s (slot_items (classes - c) c id slot) → s ≡ a
unfolding emits slot_items
slot_done a s c id slot h ea =
    let e : classes - c ≡ 0 = omega arith in
    sym (ea ∙ rw e)

-- ---- the directory
slot_same : (n c id : ℕ) (s t : Slot) → ((k : ℕ) → k < c + n → s k ≡ t k) → slot_items n c id s ≡ slot_items n c id t
unfolding slot_items
slot_same zero c id s t h = refl
slot_same (suc n) c id s t h =
    ap₂ (λ (x : Option Load) (y : List Item). class_items id x ++ y) (h c (omega arith))
    (slot_same n (suc c) id s t (λ k l. h k (omega arith)))

-- one slot more: a is where all slots end, r stands behind the slot id, whose seats hold what the directory has there
pub dir_slot : (a s r : Standing) (D : List Slot) (id : ℕ) (slot : Slot) → id < length D
    → ((k : ℕ) → k < classes → slot k ≡ get_or D id empty k)
    → a ≡ emits s (dir_items id (drop id D)) → r ≡ emits s (create_item id ∷ slot_items classes 0 id slot)
    → a ≡ emits r (dir_items (id + 1) (drop (id + 1) D))
unfolding dir_items
dir_slot a s r D id slot h same ea er =
    let I : List Item = create_item id ∷ slot_items classes 0 id slot in
    let e : dir_items id (drop id D) ≡ I ++ dir_items (id + 1) (drop (id + 1) D) =
    ap (dir_items id) (drop-cons D id empty h)
    ∙ rw (add-one id) (ap (λ (l : List Item). (create_item id ∷ l) ++ dir_items (suc id) (drop (suc id) D))
    (sym (slot_same classes 0 id slot (get_or D id empty) (λ k l. same k (omega arith))))) in
    ea ∙ ap (emits s) e ∙ emits_app I (dir_items (id + 1) (drop (id + 1) D)) s
    ∙ ap (λ (z : Standing). emits z (dir_items (id + 1) (drop (id + 1) D))) (sym er)

pub dir_done : (a s : Standing) (D : List Slot) (id : ℕ) → length D ≤ id → a ≡ emits s (dir_items id (drop id D)) → s ≡ a
unfolding emits dir_items
dir_done a s D id h ea = sym (ea ∙ rw (drop_of_length-le D {i = id} h))

-- ---- the tail
module _ (s : Standing) (split : Bool) (p : LfsPair) where
  pub tail_none : is_no_tail split p ≡ true → s ≡ emits s (tail_items split p)
  unfolding emits
  tail_none h = rw h

  tail_type : (b : Bool) → cond b type_hard_tail type_tail < 2 ^ 12
  tail_type true = omega arith
  tail_type false = omega arith

  -- x is the tail's type, k the tag made of it, l what `le_pair` answers
  pub tail_made : is_no_tail split p ≡ false → (x : ℕ) → x ≡ cond split type_hard_tail type_tail → (k : ℕ)
      → k ≡ mk_tag x no_slot 8 → (l : List ℕ) → l ≡ to_le32 p.n0 ++ to_le32 p.n1
      → (r : Standing) → r ≡ emitted s (record { tag = k; body = body_of l 0 8 }) → r ≡ emits s (tail_items split p)
  unfolding emits
  tail_made h x ex k ek l el r er =
      let tag : k ≡ tag_of (cond split type_hard_tail type_tail) no_slot 8 =
      made_tag k x no_slot 8 ek (rw ex (tail_type split)) (omega arith) (omega arith)
      ∙ ap (λ (y : ℕ). tag_of y no_slot 8) ex in
      er ∙ ap₂ (λ (y : ℕ) (q : List ℕ). emitted s (record { tag = y; body = q })) tag
      (pair_body p.n0 p.n1 l el) ∙ rw h

-- ---- the forward check
module _ (s : Standing) (f : LfsFcrc) where
  pub forward_none : not f.seen ≡ true → s ≡ emits s (forward_items f)
  unfolding emits
  forward_none h = rw (not-true f.seen h)

  -- l is what `le_pair` answers
  pub forward_made : not f.seen ≡ false → (l : List ℕ) → l ≡ to_le32 f.size ++ to_le32 f.sum → (r : Standing)
      → r ≡ emitted s (record { tag = 0x5fff_fc08; body = body_of l 0 8 }) → r ≡ emits s (forward_items f)
  unfolding emits tag_of
  forward_made h l el r er =
      er ∙ ap (λ (q : List ℕ). emitted s (record { tag = 0x5fff_fc08; body = q }))
      (pair_body f.size f.sum l el) ∙ rw (not-false f.seen h)
