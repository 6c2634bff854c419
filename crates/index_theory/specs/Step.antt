-- What an entry does to the places of a directory is what the directory machine does: the places of the directory
-- behind it. Assumes nothing.
use Rattle.std.specs.Prelude.{◌≡◌, refl, ◌≢◌, Bool, true, false, cond, get_or, replicate, eqb, None, Option, Some}
use Rattle.std.proofs.Math.Path.{sym, ap, ap₂}
use Rattle.std.proofs.Common.{◌∙◌, zero-add, take-append-drop, length-append, length-take-le, drop-drop, eqb-true, eq-eqb, ne_eqb}
use mathlib.Core.List.{List, [], ◌∷◌, ◌++◌, append_assoc, append-nil}
use Prim.Native.Nat.{ℕ, zero, suc, ◌+◌, ◌-◌, ◌*◌, ◌/◌, ◌^◌, ◌≤◌, ◌<◌, max}
use native.Mathlib.Omega.{arith}
use Rattle.std.proofs.Math.ListN.{length, take, drop, length-drop}
use Rattle.std.proofs.Math.Seq.{drop-cons, split_at, set_split, take_at, drop_at}
use Rattle.format.specs.Tag.{tag_of}
use Rattle.format.specs.Directory.{classes, Load, Slot, Act, mk, rm, put, skip, empty, upd, reaching, apply}
use Rattle.format.specs.Index.{rank_at, seek, seek_from, is_at, class_places, slot_places, dir_places, shifted, one_up}
use Rattle.format.specs.Index.{one_down, slot_made, slot_removed, places_after}
use Rattle.format.proofs.Slots.{length_reaching, get_d_reaching}
use Rattle.theory.specs.Directory.Machine.{most_slots, Allowed}
use Rattle.index_theory.specs.Ordered.{Between, between_app, between_wider, between_even, NoneBefore, none_app}
use Rattle.index_theory.specs.Ordered.{none_before, seek_from_lem, seek_is, take_seam, drop_seam, not_at_seam}
use Rattle.index_theory.specs.Ordered.{at_seam}
use Rattle.index_theory.specs.Places.{FitsIn, SlotFits, AllFit, rank_of_lem, class_between, slot_between}
use Rattle.index_theory.specs.Places.{dir_between, slot_split}
use Rattle.index_theory.specs.Places.{slot_same, dir_app, dir_empty, slot_empty, dir_up, dir_down}

-- ---- parts of a directory whose slots hold what belongs there
pub fit_app : (D E : List Slot) → AllFit D → AllFit E → AllFit (D ++ E)
fit_app [] E f g = g
fit_app (s ∷ D) E f g = (f.0, fit_app D E f.1 g)

pub fit_take : (n : ℕ) (D : List Slot) → AllFit D → AllFit (take n D)
fit_take zero D f = tt
fit_take (suc n) [] f = tt
fit_take (suc n) (s ∷ D) f = (f.0, fit_take n D f.1)

pub fit_drop : (n : ℕ) (D : List Slot) → AllFit D → AllFit (drop n D)
fit_drop zero D f = f
fit_drop (suc n) [] f = tt
fit_drop (suc n) (s ∷ D) f = fit_drop n D f.1

empty_fits : SlotFits empty
unfolding empty
empty_fits c = tt

pub fit_empty : (n : ℕ) → AllFit (replicate n empty)
fit_empty zero = tt
fit_empty (suc n) = (empty_fits, fit_empty n)

pub fit_at : (D : List Slot) (i : ℕ) → AllFit D → SlotFits (get_or D i empty)
fit_at [] i f = empty_fits
fit_at (s ∷ D) zero f = f.0
fit_at (s ∷ D) (suc i) f = fit_at D i f.1

upd_fits : (s : Slot) (c : ℕ) (v : Option Load) → SlotFits s → FitsIn c v → SlotFits (upd s c v)
unfolding upd
upd_fits s c v f g k = go (eqb k c) refl
  where
    go : (x : Bool) → eqb k c ≡ x → FitsIn k (cond x v (s k))
    go true e = rw (eqb-true k c e) g
    go false e = f k

-- ---- one place, or none, between places before a rank and places behind it: both sides are found again
module _ (low j c : ℕ) (A B : List ℕ) (m : Option Load) (f : FitsIn c m) (hj : j < 2 ^ 10)
    (a : Between low (rank_at j c) A) (b : NoneBefore (suc (rank_at j c)) B) where
  abbrev P : List ℕ
  P = A ++ (class_places j m ++ B)

  some_place : NoneBefore (rank_at j c) (class_places j m ++ B)
  some_place = none_app (rank_at j c) (rank_at j c) (rank_at j (suc c)) (class_places j m) B (omega arith)
      (class_between c j m f hj) (λ i. omega (arith, b i))

  pub side_before : take (2 * seek (rank_at j c) P) P ≡ A
  side_before = take_seam low (rank_at j c) A (class_places j m ++ B) a some_place

  pub side_behind : drop (cond (is_at (rank_at j c) P (seek (rank_at j c) P)) (2 * seek (rank_at j c) P + 2)
      (2 * seek (rank_at j c) P)) P ≡ B
  side_behind = go m f some_place
    where
      r : ℕ
      r = rank_at j c

      go : (m : Option Load) → FitsIn c m → NoneBefore r (class_places j m ++ B)
          → drop (cond (is_at r (A ++ (class_places j m ++ B)) (seek r (A ++ (class_places j m ++ B))))
          (2 * seek r (A ++ (class_places j m ++ B)) + 2) (2 * seek r (A ++ (class_places j m ++ B))))
          (A ++ (class_places j m ++ B)) ≡ B
      go None f w = rw (not_at_seam low r A B a b) (drop_seam low r A B a w)
      go (Some v) f w =
          let t : ℕ = tag_of v.type j (get_or v.bytes 0 0) in
          let o : ℕ = get_or v.bytes 1 0 in
          rw (at_seam low r A (t ∷ o ∷ B) a w t o B refl (rank_of_lem c j v f hj))
          (sym (drop-drop 2 (2 * seek r (A ++ t ∷ o ∷ B)) (A ++ t ∷ o ∷ B))
          ∙ ap (drop 2) (drop_seam low r A (t ∷ o ∷ B) a w))

-- ---- the places of a directory, parted where class c of slot j stands
pub record Parted (D : List Slot) (j c : ℕ) : Type 0 where
  pub before : List ℕ
  pub rest : List ℕ
  pub high : ℕ
  pub is : dir_places 0 D ≡ before ++ (class_places j (get_or D j empty c) ++ rest)
  pub below : Between (rank_at 0 0) (rank_at j c) before
  pub above : Between (suc (rank_at j c)) high rest

-- ---- and at the slot j
module _ (D : List Slot) (f : AllFit D) (few : length D ≤ most_slots) (j : ℕ) (h : j ≤ length D) where
  A : List ℕ
  A = dir_places 0 (take j D)

  long : length (take j D) ≡ j
  long = length-take-le j D h

  -- any slots behind those before j
  behind : (E : List Slot) → dir_places 0 (take j D ++ E) ≡ A ++ dir_places j E
  unfolding A
  behind E = dir_app 0 (take j D) E ∙ ap (λ (k : ℕ). dir_places 0 (take j D) ++ dir_places k E)
      (zero-add (length (take j D)) ∙ long)

  parted : dir_places 0 D ≡ A ++ dir_places j (drop j D)
  parted = ap (dir_places 0) (sym (take-append-drop j D)) ∙ behind (drop j D)

  front : Between (rank_at 0 0) (rank_at j 0) A
  unfolding A
  front = between_wider (rank_at 0 0) (rank_at (0 + length (take j D)) 0) (rank_at 0 0) (rank_at j 0) A (omega arith)
      (omega (arith, long)) (dir_between 0 (take j D) (fit_take j D f) (omega (arith, long)))

  back : NoneBefore (rank_at j 0) (dir_places j (drop j D))
  back = none_before (rank_at j 0) (rank_at j 0) (rank_at (j + length (drop j D)) 0) (dir_places j (drop j D)) (omega arith)
      (omega arith) (dir_between j (drop j D) (fit_drop j D f) (omega (arith, length-drop j D)))

  -- a slot is made there
  pub made : slot_made j (dir_places 0 D) ≡ dir_places 0 (take j D ++ empty ∷ drop j D)
  unfolding dir_places
  made =
      let r : ℕ = rank_at j 0 in
      let B : List ℕ = dir_places j (drop j D) in
      ap (slot_made j) parted
      ∙ ap₂ (λ (x y : List ℕ). x ++ shifted one_up y) (take_seam (rank_at 0 0) r A B front back)
      (drop_seam (rank_at 0 0) r A B front back)
      ∙ ap (λ (y : List ℕ). A ++ y) (dir_up j (drop j D) (fit_drop j D f) (omega (arith, length-drop j D))
      ∙ ap (λ (y : List ℕ). y ++ dir_places (suc j) (drop j D)) (sym (slot_empty classes 0 j)))
      ∙ sym (behind (empty ∷ drop j D))

  -- the slot there is removed
  module _ (more : j < length D) where
    s : Slot
    s = get_or D j empty

    M : List ℕ
    M = slot_places classes 0 j s

    E : List Slot
    E = drop (suc j) D

    B : List ℕ
    B = dir_places (suc j) E

    split : drop j D ≡ s ∷ E
    unfolding s E
    split = drop-cons D j empty more

    own : Between (rank_at j 0) (rank_at (suc j) 0) M
    unfolding M s
    own = between_wider (rank_at j 0) (rank_at j (0 + classes)) (rank_at j 0) (rank_at (suc j) 0) M (omega arith)
        (omega arith) (slot_between classes 0 j s (fit_at D j f) (omega arith))

    high : ℕ
    high = rank_at (suc j + length E) 0

    others : Between (rank_at (suc j) 0) high B
    unfolding B E high
    others = dir_between (suc j) E (fit_drop (suc j) D f) (omega (arith, length-drop (suc j) D))

    three : dir_places 0 D ≡ A ++ (M ++ B)
    unfolding dir_places M B
    three = parted ∙ ap (λ (l : List Slot). A ++ dir_places j l) split

    joined : dir_places 0 D ≡ (A ++ M) ++ B
    joined = three ∙ sym (append_assoc A M B)

    low_front : Between (rank_at 0 0) (rank_at (suc j) 0) (A ++ M)
    low_front = between_app (rank_at 0 0) (rank_at (suc j) 0) A M
        (between_wider (rank_at 0 0) (rank_at j 0) (rank_at 0 0) (rank_at (suc j) 0) A (omega arith) (omega arith) front)
        (between_wider (rank_at j 0) (rank_at (suc j) 0) (rank_at 0 0) (rank_at (suc j) 0) M (omega arith)
        (omega arith) own)

    last : NoneBefore (rank_at (suc j) 0) B
    last = none_before (rank_at (suc j) 0) (rank_at (suc j) 0) high B (omega arith) (omega arith) others

    own_on : NoneBefore (rank_at j 0) (M ++ B)
    own_on = none_app (rank_at j 0) (rank_at j 0) (rank_at (suc j) 0) M B (omega arith) own (λ i. omega (arith, last i))

    -- where its own places begin, and where they end
    begins : seek (rank_at j 0) (dir_places 0 D) ≡ length A / 2
    begins = ap (seek (rank_at j 0)) three ∙ seek_is (rank_at 0 0) (rank_at j 0) A (M ++ B) front own_on

    ends : seek_from (rank_at (suc j) 0) (dir_places 0 D) (length A / 2) ≡ length (A ++ M) / 2
    ends = ap (λ (P : List ℕ). seek_from (rank_at (suc j) 0) P (length A / 2)) joined
        ∙ seek_from_lem (rank_at 0 0) (rank_at (suc j) 0) (A ++ M) B low_front last (length A / 2)
        (omega (arith, length-append A M))

    pub removed : slot_removed j (dir_places 0 D) ≡ dir_places 0 (take j D ++ drop (suc j) D)
    unfolding B E
    removed =
        let evenA : 2 * (length A / 2) ≡ length A = sym (between_even (rank_at 0 0) (rank_at j 0) A front) in
        let evenM : 2 * (length (A ++ M) / 2) ≡ length (A ++ M) =
        sym (between_even (rank_at 0 0) (rank_at (suc j) 0) (A ++ M)
        low_front) in
        rw (begins, ends)
        (ap₂ (λ (x y : List ℕ). x ++ shifted one_down y)
        (ap (take (2 * (length A / 2))) three ∙ take_at A (M ++ B) (2 * (length A / 2)) (sym evenA))
        (ap (drop (2 * (length (A ++ M) / 2))) joined ∙ drop_at (A ++ M) B (2 * (length (A ++ M) / 2)) (sym evenM))
        ∙ ap (λ (y : List ℕ). A ++ y) (dir_down j E (fit_drop (suc j) D f) (omega (arith, length-drop (suc j) D)))
        ∙ sym (behind E))

    -- what stands under a class of the slot there: A and what is before it, and behind it the rest
    module _ (c : ℕ) (hc : c < classes) where
      before : List ℕ
      before = A ++ slot_places c 0 j s

      rest : List ℕ
      rest = slot_places (classes - suc c) (suc c) j s ++ B

      slot_parted : (t : Slot) → ((k : ℕ) → k ≢ c → t k ≡ s k) → slot_places classes 0 j t
          ≡ slot_places c 0 j s ++ (class_places j (t c) ++ slot_places (classes - suc c) (suc c) j s)
      unfolding slot_places
      slot_parted t same =
          let e : classes ≡ c + suc (classes - suc c) = omega arith in
          ap (λ (n : ℕ). slot_places n 0 j t) e ∙ slot_split c (suc (classes - suc c)) 0 j t
          ∙ ap₂ (λ (x y : List ℕ). x ++ y) (slot_same c 0 j t s (λ k l m. same k (λ q. omega arith)))
          (rw (zero-add c) (ap (λ (y : List ℕ). class_places j (t c) ++ y) (slot_same (classes - suc c) (suc c) j t s
          (λ k l m. same k (λ q. omega arith)))))

      -- the directory with the slot t there
      whole : (t : Slot) → ((k : ℕ) → k ≢ c → t k ≡ s k) → dir_places 0 (take j D ++ t ∷ E)
          ≡ before ++ (class_places j (t c) ++ rest)
      unfolding before rest B dir_places
      whole t same =
          let X : List ℕ = slot_places c 0 j s in
          let Y : List ℕ = class_places j (t c) in
          let Z : List ℕ = slot_places (classes - suc c) (suc c) j s in
          behind (t ∷ E)
          ∙ ap (λ (y : List ℕ). A ++ (y ++ B)) (slot_parted t same)
          ∙ ap (λ (y : List ℕ). A ++ y) (append_assoc X (Y ++ Z) B ∙ ap (λ (y : List ℕ). X ++ y) (append_assoc Y Z B))
          ∙ sym (append_assoc A X (Y ++ (Z ++ B)))

      below : Between (rank_at 0 0) (rank_at j c) before
      unfolding before s
      below = between_app (rank_at 0 0) (rank_at j c) A (slot_places c 0 j s)
          (between_wider (rank_at 0 0) (rank_at j 0) (rank_at 0 0) (rank_at j c) A (omega arith) (omega arith) front)
          (between_wider (rank_at j 0) (rank_at j (0 + c)) (rank_at 0 0) (rank_at j c) (slot_places c 0 j s) (omega arith)
          (omega arith) (slot_between c 0 j s (fit_at D j f) (omega arith)))

      above : Between (suc (rank_at j c)) high rest
      unfolding rest high s
      above =
          let Z : List ℕ = slot_places (classes - suc c) (suc c) j s in
          between_app (suc (rank_at j c)) high Z B
          (between_wider (rank_at j (suc c)) (rank_at j (suc c + (classes - suc c))) (suc (rank_at j c)) high Z
          (omega arith)
          (omega arith) (slot_between (classes - suc c) (suc c) j s (fit_at D j f) (omega arith)))
          (between_wider (rank_at (suc j) 0) high (suc (rank_at j c)) high B (omega arith) (omega arith) others)

      now_there : dir_places 0 D ≡ before ++ (class_places j (s c) ++ rest)
      unfolding s E
      now_there = ap (dir_places 0) (split_at D j empty more) ∙ whole s (λ k n. refl)

      pub class_parted : Parted D j c
      unfolding s
      class_parted = record { before = before; rest = rest; high = high; is = now_there; below = below; above = above }

      -- what is put there
      pub put_there : (v : Option Load) → places_after (dir_places 0 D) (put j c v)
          ≡ dir_places 0 (take j D ++ upd (get_or D j empty) c v ∷ drop (suc j) D)
      unfolding places_after s E upd
      put_there v =
          let m : Option Load = s c in
          let own : upd s c v c ≡ v = rw (eq-eqb c c refl) in
          let up : NoneBefore (suc (rank_at j c)) rest = none_before (suc (rank_at j c)) (suc (rank_at j c)) high rest
          (omega arith) (omega arith) above in
          let x = side_before (rank_at 0 0) j c before rest m (fit_at D j f c) (omega arith) below up in
          let y = side_behind (rank_at 0 0) j c before rest m (fit_at D j f c) (omega arith) below up in
          ap (λ (P : List ℕ). places_after P (put j c v)) now_there ∙ go v x y
          ∙ sym (whole (upd s c v) (λ k n. rw (ne_eqb k c n))
          ∙ ap (λ (z : Option Load). before ++ (class_places j z ++ rest))
          own)
        where
          P : List ℕ
          P = before ++ (class_places j (s c) ++ rest)

          go : (v : Option Load) → take (2 * seek (rank_at j c) P) P ≡ before
              → drop (cond (is_at (rank_at j c) P (seek (rank_at j c) P)) (2 * seek (rank_at j c) P + 2)
              (2 * seek (rank_at j c) P)) P ≡ rest
              → places_after P (put j c v) ≡ before ++ (class_places j v ++ rest)
          go None x y = ap₂ (λ (a b : List ℕ). a ++ b) x y
          go (Some v) x y = ap₂
              (λ (a b : List ℕ). a ++ tag_of v.type j (get_or v.bytes 0 0) ∷ get_or v.bytes 1 0 ∷ b)
              x y

-- ---- an entry
-- what may be put: under a class that there is, what belongs there, in a slot that a tag can name
abbrev pub ActFits : Act → Type 0
ActFits (mk j) = Unit {0}
ActFits (rm j) = Unit {0}
ActFits (put j c v) = (c < classes) × (j < most_slots) × FitsIn c v
ActFits skip = Unit {0}

module _ (j : ℕ) (D : List Slot) (f : AllFit D) where
  reaching_fits : AllFit (reaching j D)
  unfolding reaching
  reaching_fits = fit_app D (replicate (suc j - length D) empty) f (fit_empty (suc j - length D))

  reaching_same : dir_places 0 (reaching j D) ≡ dir_places 0 D
  unfolding reaching
  reaching_same = dir_app 0 D (replicate (suc j - length D) empty)
      ∙ ap (λ (y : List ℕ). dir_places 0 D ++ y) (dir_empty (0 + length D) (suc j - length D))
      ∙ append-nil (dir_places 0 D)

  there : j < length (reaching j D)
  there = omega (arith, length_reaching j D)

  put_parts : (c : ℕ) (v : Option Load) → apply D (put j c v)
      ≡ take j (reaching j D) ++ upd (get_or (reaching j D) j empty) c v ∷ drop (suc j) (reaching j D)
  unfolding apply
  put_parts c v = set_split (reaching j D) j (upd (get_or D j empty) c v) there
      ∙ ap (λ (s : Slot). take j (reaching j D) ++ upd s c v ∷ drop (suc j) (reaching j D)) (sym (get_d_reaching j D j))

-- what belongs somewhere stays where it belongs
pub apply_fits : (D : List Slot) (a : Act) → ActFits a → AllFit D → AllFit (apply D a)
unfolding apply
apply_fits D (mk j) h f = fit_app (take j D) (empty ∷ drop j D) (fit_take j D f) (empty_fits, fit_drop j D f)
apply_fits D (rm j) h f = fit_app (take j D) (drop (suc j) D) (fit_take j D f) (fit_drop (suc j) D f)
apply_fits D (put j c v) h f =
    let g = reaching_fits j D f in
    rw (put_parts j D f c v)
    (fit_app (take j (reaching j D)) (upd (get_or (reaching j D) j empty) c v ∷ drop (suc j) (reaching j D))
    (fit_take j (reaching j D) g)
    (upd_fits (get_or (reaching j D) j empty) c v (fit_at (reaching j D) j g) h.2, fit_drop (suc j) (reaching j D) g))
apply_fits D skip h f = f

-- the places behind an entry are those of the directory behind it
pub step_places : (g : Bool) (D : List Slot) (a : Act) → Allowed g a (length D) → ActFits a → AllFit D
    → length D ≤ most_slots → places_after (dir_places 0 D) a ≡ dir_places 0 (apply D a)
unfolding places_after apply
step_places g D (mk j) w h f few = made D f few j w
step_places g D (rm j) w h f few = removed D f few j (omega arith) w
step_places g D (put j c v) w h f few =
    let R : List Slot = reaching j D in
    let n : length R ≡ max (length D) (suc j) = length_reaching j D in
    ap (λ (P : List ℕ). places_after P (put j c v)) (sym (reaching_same j D f))
    ∙ put_there R (reaching_fits j D f) (omega (arith, h.1)) j (omega arith) (there j D f) c h.0 v
    ∙ ap (dir_places 0) (sym (put_parts j D f c v))
step_places g D skip w h f few = refl
