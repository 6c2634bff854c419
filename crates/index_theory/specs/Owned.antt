-- The places of one slot stand together: from its first place on, those with its id are its own, and behind them stand
-- those of the later slots. Assumes nothing.
use Rattle.std.specs.Prelude.{◌≡◌, refl, ◌≢◌, Bool, true, false, cond, List, [], ◌∷◌, ◌++◌, ℕ, zero, suc, ◌+◌, ◌^◌, ◌≤◌, ◌<◌, length, drop, get_or, eqb, None, Option, Some}
use Rattle.std.proofs.Math.Path.{ap}
use Rattle.std.proofs.Common.{◌∙◌, append-nil, arith, length-drop, drop-cons, drop_at, eq-eqb, ne_eqb}
use Rattle.format.specs.Tag.{tag_id, tag_of}
use Rattle.format.specs.Directory.{classes, Load, Slot, empty}
use Rattle.format.specs.Index.{class_places, slot_places, dir_places}
use Rattle.format.proofs.Tags.{of_id}
use Rattle.theory.specs.Directory.Machine.{most_slots}
use Rattle.index_theory.specs.Places.{FitsIn, SlotFits, AllFit}
use Rattle.index_theory.specs.Step.{fit_at}

-- the places in front that have the id
unfoldable pub own_places : ℕ → List ℕ → List ℕ
own_places id [] = []
own_places id (x ∷ []) = []
own_places id (t ∷ o ∷ P) = cond (eqb (tag_id t) id) (t ∷ o ∷ own_places id P) []

pub own_more : (id t o : ℕ) (P : List ℕ) → tag_id t ≡ id → own_places id (t ∷ o ∷ P) ≡ t ∷ o ∷ own_places id P
unfolding own_places
own_more id t o P e = rw (eq-eqb (tag_id t) id e)

pub own_none : (id t o : ℕ) (P : List ℕ) → tag_id t ≢ id → own_places id (t ∷ o ∷ P) ≡ []
unfolding own_places
own_none id t o P e = rw (ne_eqb (tag_id t) id e)

pub own_short : (id : ℕ) (P : List ℕ) → length P ≤ 1 → own_places id P ≡ []
unfolding own_places
own_short id [] h = refl
own_short id (x ∷ []) h = refl
own_short id (t ∷ o ∷ P) h = absurd (omega arith)

pub own_fits : (id : ℕ) (P : List ℕ) → length (own_places id P) ≤ length P
unfolding own_places
own_fits id [] = omega arith
own_fits id (x ∷ []) = omega arith
own_fits id (t ∷ o ∷ P) = go (eqb (tag_id t) id) (own_fits id P)
  where
    go : (x : Bool) → length (own_places id P) ≤ length P
        → length (cond x (t ∷ o ∷ own_places id P) []) ≤ suc (suc (length P))
    go true h = omega arith
    go false h = omega arith

-- ---- a slot's places, and others behind them
slot_own : (n c id : ℕ) (s : Slot) (R : List ℕ) → SlotFits s → id < 2 ^ 10
    → own_places id (slot_places n c id s ++ R) ≡ slot_places n c id s ++ own_places id R
unfolding slot_places
slot_own zero c id s R f h = refl
slot_own (suc n) c id s R f h = go (s c) (f c) (slot_own n (suc c) id s R f h)
  where
    go : (v : Option Load) → FitsIn c v
        → own_places id (slot_places n (suc c) id s ++ R) ≡ slot_places n (suc c) id s ++ own_places id R
        → own_places id ((class_places id v ++ slot_places n (suc c) id s) ++ R)
        ≡ (class_places id v ++ slot_places n (suc c) id s) ++ own_places id R
    go None g on = on
    go (Some v) g on =
        let t : ℕ = tag_of v.type id (get_or v.bytes 0 0) in
        let o : ℕ = get_or v.bytes 1 0 in
        own_more id t o (slot_places n (suc c) id s ++ R) (of_id v.type id (get_or v.bytes 0 0) h g.size)
        ∙ ap (λ (l : List ℕ). t ∷ o ∷ l) on

slot_other : (n c id k : ℕ) (s : Slot) (R : List ℕ) → SlotFits s → k < 2 ^ 10 → id < k → own_places id R ≡ []
    → own_places id (slot_places n c k s ++ R) ≡ []
unfolding slot_places
slot_other zero c id k s R f h l e = e
slot_other (suc n) c id k s R f h l e = go (s c) (f c) (slot_other n (suc c) id k s R f h l e)
  where
    go : (v : Option Load) → FitsIn c v → own_places id (slot_places n (suc c) k s ++ R) ≡ []
        → own_places id ((class_places k v ++ slot_places n (suc c) k s) ++ R) ≡ []
    go None g on = on
    go (Some v) g on = own_none id (tag_of v.type k (get_or v.bytes 0 0)) (get_or v.bytes 1 0)
        (slot_places n (suc c) k s ++ R) (λ q. omega (arith, of_id v.type k (get_or v.bytes 0 0) h g.size))

dir_other : (id k : ℕ) (D : List Slot) → AllFit D → k + length D ≤ 2 ^ 10 → id < k → own_places id (dir_places k D) ≡ []
unfolding dir_places own_places
dir_other id k [] f h l = refl
dir_other id k (s ∷ D) f h l = slot_other classes 0 id k s (dir_places (suc k) D) f.0 (omega arith) l
    (dir_other id (suc k) D f.1 (omega arith) (omega arith))

drop_fits : (i : ℕ) (D : List Slot) → AllFit D → AllFit (drop i D)
drop_fits zero D f = f
drop_fits (suc i) [] f = f
drop_fits (suc i) (s ∷ D) f = drop_fits i D f.1

-- ---- the places from the slot id on
module _ (D : List Slot) (f : AllFit D) (few : length D ≤ most_slots) (id : ℕ) (there : id < length D) where
  abbrev s : Slot
  s = get_or D id empty

  abbrev rest : List ℕ
  rest = dir_places (suc id) (drop (suc id) D)

  parts : dir_places id (drop id D) ≡ slot_places classes 0 id s ++ rest
  unfolding dir_places
  parts = ap (dir_places id) (drop-cons D id empty there)

  pub own_is : own_places id (dir_places id (drop id D)) ≡ slot_places classes 0 id s
  own_is =
      let None : own_places id rest ≡ [] = dir_other id (suc id) (drop (suc id) D) (drop_fits (suc id) D f)
      (omega (arith, length-drop (suc id) D)) (omega arith) in
      ap (own_places id) parts ∙ slot_own classes 0 id s rest (fit_at D id f) (omega arith)
      ∙ ap (λ (l : List ℕ). slot_places classes 0 id s ++ l) None ∙ append-nil (slot_places classes 0 id s)

  -- behind them stand those from the next slot on
  pub own_behind : drop (length (own_places id (dir_places id (drop id D)))) (dir_places id (drop id D)) ≡ rest
  own_behind = rw (own_is, parts) (drop_at (slot_places classes 0 id s) rest (length (slot_places classes 0 id s)) refl)
