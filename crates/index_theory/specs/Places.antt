-- The places of a directory: of a slot whose classes hold what belongs there the ranks rise with the classes, and of a
-- directory with the ids; a slot more or less before them shifts the ids. Assumes nothing.
use Rattle.std.specs.Prelude.{◌≡◌, ◌≢◌, length, replicate, None, Option, Some}
use Rattle.std.proofs.Math.Path.{refl, ap, ap₂}
use Rattle.std.proofs.Common.{sym, ◌∙◌, arith, zero-add, add-zero, suc-add, length-append, ne_eqb}
use mathlib.Core.List.{List, [], ◌∷◌, ◌++◌, append_assoc}
use Prim.Native.Nat.{ℕ, zero, suc, ◌+◌, ◌*◌, ◌^◌, ◌≤◌, ◌<◌}
use Rattle.std.proofs.Math.ListN.{get_or}
use Rattle.format.specs.Word.{plus32}
use Rattle.format.specs.Tag.{tag_type3, tag_of}
use Rattle.format.specs.Directory.{classes, seat_class, Load, Slot, empty}
use Rattle.format.specs.Index.{rank_at, rank_of, class_places, slot_places, dir_places, shifted, one_up, one_down}
use Rattle.format.proofs.Tags.{of_type3, of_id}
use Rattle.theory.specs.Directory.Types.{type1_of, chunk_of}
use Rattle.index_theory.specs.Ordered.{Between, between_app, between_wider}

-- ---- what belongs under a class: a type of that class, which is not 0, and a size that fits a tag
pub record Fits (c : ℕ) (v : Load) : Type 0 where
  pub some_type : 0 < v.type
  pub type : v.type < 2 ^ 11
  pub size : get_or v.bytes 0 0 < 2 ^ 10
  pub class : seat_class (v.type * 2 ^ 20) ≡ c

abbrev pub FitsIn : ℕ → Option Load → Type 0
FitsIn c None = Unit {0}
FitsIn c (Some v) = Fits c v

abbrev pub SlotFits : Slot → Type 0
SlotFits s = (c : ℕ) → FitsIn c (s c)

abbrev pub AllFit : List Slot → Type 0
AllFit [] = Unit {0}
AllFit (s ∷ D) = SlotFits s × AllFit D

-- ---- ranks
-- the class of a tag is its type's
pub class_of_type : (type id size : ℕ) → type < 2 ^ 11 → id < 2 ^ 10 → size < 2 ^ 10
    → seat_class (tag_of type id size) ≡ seat_class (type * 2 ^ 20)
unfolding seat_class
class_of_type type id size ht hi hs =
    let t : tag_type3 (tag_of type id size) ≡ type = of_type3 type id size ht hi hs in
    let u : tag_type3 (type * 2 ^ 20) ≡ type = omega arith in
    rw (
      type1_of (tag_of type id size),
      type1_of (type * 2 ^ 20),
      chunk_of (tag_of type id size),
      chunk_of (type * 2 ^ 20),
      t,
      u,
    )

some_tag : (type id size : ℕ) → 0 < type → tag_of type id size ≢ 0
unfolding tag_of
some_tag type id size h e = omega arith

pub rank_of_lem : (c id : ℕ) (v : Load) → Fits c v → id < 2 ^ 10
    → rank_of (tag_of v.type id (get_or v.bytes 0 0)) ≡ rank_at id c
unfolding rank_of
rank_of_lem c id v f h =
    let t : ℕ = tag_of v.type id (get_or v.bytes 0 0) in
    rw (
      ne_eqb t 0 (some_tag v.type id (get_or v.bytes 0 0) f.some_type),
      of_id v.type id (get_or v.bytes 0 0) h f.size,
      class_of_type v.type id (get_or v.bytes 0 0) f.type h f.size,
      f.class,
    )

pub class_between : (c id : ℕ) (v : Option Load) → FitsIn c v → id < 2 ^ 10
    → Between (rank_at id c) (rank_at id (suc c)) (class_places id v)
class_between c id None f h = tt
class_between c id (Some v) f h = let e = rank_of_lem c id v f h in (omega (arith, e), omega (arith, e), tt)

pub slot_between : (n c id : ℕ) (s : Slot) → SlotFits s → id < 2 ^ 10
    → Between (rank_at id c) (rank_at id (c + n)) (slot_places n c id s)
unfolding slot_places
slot_between zero c id s f h = tt
slot_between (suc n) c id s f h =
    between_app (rank_at id c) (rank_at id (c + suc n)) (class_places id (s c)) (slot_places n (suc c) id s)
    (between_wider (rank_at id c) (rank_at id (suc c)) (rank_at id c) (rank_at id (c + suc n)) (class_places id (s c))
    (omega arith) (omega arith) (class_between c id (s c) (f c) h))
    (between_wider (rank_at id (suc c)) (rank_at id (suc c + n)) (rank_at id c) (rank_at id (c + suc n))
    (slot_places n (suc c) id s) (omega arith) (omega arith) (slot_between n (suc c) id s f h))

pub dir_between : (id : ℕ) (D : List Slot) → AllFit D → id + length D ≤ 2 ^ 10
    → Between (rank_at id 0) (rank_at (id + length D) 0) (dir_places id D)
unfolding dir_places
dir_between id [] f h = tt
dir_between id (s ∷ D) f h =
    between_app (rank_at id 0) (rank_at (id + suc (length D)) 0) (slot_places classes 0 id s) (dir_places (suc id) D)
    (between_wider (rank_at id 0) (rank_at id (0 + classes)) (rank_at id 0) (rank_at (id + suc (length D)) 0)
    (slot_places classes 0 id s) (omega arith) (omega arith) (slot_between classes 0 id s f.0 (omega arith)))
    (between_wider (rank_at (suc id) 0) (rank_at (suc id + length D) 0) (rank_at id 0)
    (rank_at (id + suc (length D)) 0) (dir_places (suc id) D) (omega arith) (omega arith)
    (dir_between (suc id) D f.1 (omega arith)))

-- ---- parts
pub slot_split : (m n c id : ℕ) (s : Slot)
    → slot_places (m + n) c id s ≡ slot_places m c id s ++ slot_places n (c + m) id s
unfolding slot_places
slot_split zero n c id s = rw (zero-add n, add-zero c)
slot_split (suc m) n c id s =
    let e : suc c + m ≡ c + suc m = omega arith in
    ap (λ (k : ℕ). slot_places k c id s) (suc-add m n)
    ∙ ap (λ (l : List ℕ). class_places id (s c) ++ l) (slot_split m n (suc c) id s
    ∙ ap (λ (k : ℕ). slot_places m (suc c) id s ++ slot_places n k id s) e)
    ∙ sym (append_assoc (class_places id (s c)) (slot_places m (suc c) id s) (slot_places n (c + suc m) id s))

pub slot_same : (n c id : ℕ) (s t : Slot) → ((k : ℕ) → c ≤ k → k < c + n → s k ≡ t k)
    → slot_places n c id s ≡ slot_places n c id t
unfolding slot_places
slot_same zero c id s t h = refl
slot_same (suc n) c id s t h =
    ap₂ (λ (x : Option Load) (y : List ℕ). class_places id x ++ y) (h c (omega arith) (omega arith))
    (slot_same n (suc c) id s t (λ k l m. h k (omega arith) (omega arith)))

pub dir_app : (id : ℕ) (D E : List Slot) → dir_places id (D ++ E) ≡ dir_places id D ++ dir_places (id + length D) E
unfolding dir_places
dir_app id [] E = rw (add-zero id)
dir_app id (s ∷ D) E =
    let e : suc id + length D ≡ id + suc (length D) = omega arith in
    ap (λ (l : List ℕ). slot_places classes 0 id s ++ l) (dir_app (suc id) D E
    ∙ ap (λ (k : ℕ). dir_places (suc id) D ++ dir_places k E) e)
    ∙ sym (append_assoc (slot_places classes 0 id s) (dir_places (suc id) D) (dir_places (id + suc (length D)) E))

-- empty slots have none
pub slot_empty : (n c id : ℕ) → slot_places n c id empty ≡ []
unfolding slot_places empty
slot_empty zero c id = refl
slot_empty (suc n) c id = slot_empty n (suc c) id

pub dir_empty : (id n : ℕ) → dir_places id (replicate n empty) ≡ []
unfolding dir_places
dir_empty id zero = refl
dir_empty id (suc n) = ap₂ (λ (x y : List ℕ). x ++ y) (slot_empty classes 0 id) (dir_empty (suc id) n)

-- ---- ids one up, and one down
pub shifted_app : (by low high : ℕ) (A B : List ℕ) → Between low high A
    → shifted by (A ++ B) ≡ shifted by A ++ shifted by B
unfolding shifted
shifted_app by low high [] B a = refl
shifted_app by low high (x ∷ []) B a = absurd (omega arith)
shifted_app by low high (t ∷ o ∷ A) B a =
    ap (λ (l : List ℕ). plus32 t by ∷ o ∷ l) (shifted_app by low high A B a.2)

-- the tag with the other id
module _ (by id id' : ℕ) (hi : id < 2 ^ 10) (hi' : id' < 2 ^ 10)
    (tags : (type size : ℕ) → type < 2 ^ 11 → size < 2 ^ 10
    → plus32 (tag_of type id size) by ≡ tag_of type id' size) where
  class_shift : (c : ℕ) (v : Option Load) → FitsIn c v → shifted by (class_places id v) ≡ class_places id' v
  unfolding shifted
  class_shift c None f = refl
  class_shift c (Some v) f = ap (λ (t : ℕ). t ∷ get_or v.bytes 1 0 ∷ [])
      (tags v.type (get_or v.bytes 0 0) f.type
      f.size)

  pub slot_shift : (n c : ℕ) (s : Slot) → SlotFits s → shifted by (slot_places n c id s) ≡ slot_places n c id' s
  unfolding slot_places shifted
  slot_shift zero c s f = refl
  slot_shift (suc n) c s f =
      shifted_app by (rank_at id c) (rank_at id (suc c)) (class_places id (s c)) (slot_places n (suc c) id s)
      (class_between c id (s c) (f c) hi)
      ∙ ap₂ (λ (x y : List ℕ). x ++ y) (class_shift c (s c) (f c)) (slot_shift n (suc c) s f)

tag_up : (type id size : ℕ) → type < 2 ^ 11 → id + 1 < 2 ^ 10 → size < 2 ^ 10
    → plus32 (tag_of type id size) one_up ≡ tag_of type (suc id) size
unfolding tag_of
tag_up type id size ht hi hs = omega arith

tag_down : (type id size : ℕ) → type < 2 ^ 11 → id + 1 < 2 ^ 10 → size < 2 ^ 10
    → plus32 (tag_of type (suc id) size) one_down ≡ tag_of type id size
unfolding tag_of
tag_down type id size ht hi hs = omega arith

pub dir_up : (id : ℕ) (D : List Slot) → AllFit D → id + length D < 2 ^ 10
    → shifted one_up (dir_places id D) ≡ dir_places (suc id) D
unfolding dir_places shifted
dir_up id [] f h = refl
dir_up id (s ∷ D) f h =
    shifted_app one_up (rank_at id 0) (rank_at id (0 + classes)) (slot_places classes 0 id s) (dir_places (suc id) D)
    (slot_between classes 0 id s f.0 (omega arith))
    ∙ ap₂ (λ (x y : List ℕ). x ++ y) (slot_shift one_up id (suc id) (omega arith) (omega arith)
    (λ type size t z. tag_up type id size t (omega arith) z) classes 0 s f.0)
    (dir_up (suc id) D f.1 (omega arith))

pub dir_down : (id : ℕ) (D : List Slot) → AllFit D → id + length D < 2 ^ 10
    → shifted one_down (dir_places (suc id) D) ≡ dir_places id D
unfolding dir_places shifted
dir_down id [] f h = refl
dir_down id (s ∷ D) f h =
    shifted_app one_down (rank_at (suc id) 0) (rank_at (suc id) (0 + classes)) (slot_places classes 0 (suc id) s)
    (dir_places (suc (suc id)) D) (slot_between classes 0 (suc id) s f.0 (omega arith))
    ∙ ap₂ (λ (x y : List ℕ). x ++ y) (slot_shift one_down (suc id) id (omega arith) (omega arith)
    (λ type size t z. tag_down type id size t (omega arith) z) classes 0 s f.0)
    (dir_down (suc id) D f.1 (omega arith))

-- ---- how many: a place for each class of each slot at most
class_few : (id : ℕ) (v : Option Load) → length (class_places id v) ≤ 2
class_few id None = omega arith
class_few id (Some v) = omega arith

slot_few : (n c id : ℕ) (s : Slot) → length (slot_places n c id s) ≤ 2 * n
unfolding slot_places
slot_few zero c id s = omega arith
slot_few (suc n) c id s = rw (length-append (class_places id (s c)) (slot_places n (suc c) id s))
    (omega (arith, class_few id (s c), slot_few n (suc c) id s))

pub dir_few : (id : ℕ) (D : List Slot) → length (dir_places id D) ≤ 516 * length D
unfolding dir_places
dir_few id [] = omega arith
dir_few id (s ∷ D) = rw (length-append (slot_places classes 0 id s) (dir_places (suc id) D))
    (omega (arith, slot_few classes 0 id s, dir_few (suc id) D))
