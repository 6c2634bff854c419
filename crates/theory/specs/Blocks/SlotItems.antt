-- Slots whose loads fit their classes: a regular log's directory has them, and compaction's entries for them are well
-- made. Assumes nothing.
use Rattle.std.specs.Prelude.{◌≡◌, refl, Bool, true, false, cond, ℕ, zero, suc, ◌+◌, ◌-◌, ◌^◌, ◌≤◌, ◌<◌, length, take, drop, get_or, set, replicate, eqb, None, Option, Some}
use mathlib.Core.List.{List, [], ◌∷◌, ◌++◌, reverse, reverse_aux}
use Rattle.std.proofs.Common.{arith, eqb-true}
use Rattle.format.specs.Walk.{Event}
use Rattle.format.specs.Directory.{Slot, Load, classes, put, Act, mk, rm, skip, empty, upd, dir, reaching, apply, dir_of}
use Rattle.format.specs.Directory.{acts}
use Rattle.theory.specs.Directory.Rebuild.{AllHeld, puts, emit, rebuild}
use Rattle.theory.specs.Blocks.ActItems.{LoadOk, TypeOf, AllOk}

abbrev pub OkSlot : Slot → Type 0
OkSlot s = (c : ℕ) (v : Load) → s c ≡ Some v → LoadOk c v

abbrev pub OkSlots : List Slot → Type 0
OkSlots [] = Unit {0}
OkSlots (s ∷ D) = OkSlot s × OkSlots D

type_bound : (c T : ℕ) → TypeOf c T → c < classes
type_bound zero T k = omega arith
type_bound (suc zero) T k = omega arith
type_bound (suc (suc u)) T k = omega (arith, k.1)

held : (s : Slot) → OkSlot s → (c : ℕ) → classes ≤ c → s c ≡ None
held s ok c h = go (s c) refl
  where
    go : (v : Option Load) → s c ≡ v → v ≡ None
    go None e = refl
    go (Some v) e = absurd (let k = type_bound c v.type (ok c v e).0 in omega arith)

pub all_held : (D : List Slot) → OkSlots D → AllHeld D
all_held [] h = tt
all_held (s ∷ D) h = (held s h.0, all_held D h.1)

puts_ok : (n i : ℕ) (s : Slot) (l : List Act) → OkSlot s → i < 2 ^ 10 → AllOk l → AllOk (puts n i s l)
unfolding puts
puts_ok zero i s l ok h k = k
puts_ok (suc n) i s l ok h k = go (s n) refl (puts_ok n i s l ok h k)
  where
    go : (v : Option Load) → s n ≡ v → AllOk (puts n i s l) → AllOk (emit i n v (puts n i s l))
    go None e r = r
    go (Some v) e r = ((h, ok n v e), r)

pub rebuild_ok : (D : List Slot) (i : ℕ) (l : List Act) → OkSlots D → i + length D ≤ 2 ^ 10 → AllOk l
    → AllOk (rebuild i D l)
unfolding rebuild
rebuild_ok [] i l ok h k = k
rebuild_ok (s ∷ D) i l ok h k = rebuild_ok D (suc i) (puts classes i s (mk i ∷ l)) ok.1 (omega arith)
    (puts_ok classes i s (mk i ∷ l) ok.0 (omega arith) (omega arith, k))

-- ---- a regular log's directory has such slots
abbrev pub PutOk : Act → Type 0
PutOk (mk j) = Unit {0}
PutOk (rm j) = Unit {0}
PutOk (put j c (Some v)) = LoadOk c v
PutOk (put j c None) = Unit {0}
PutOk skip = Unit {0}

abbrev pub PutsOk : List Act → Type 0
PutsOk [] = Unit {0}
PutsOk (a ∷ l) = PutOk a × PutsOk l

ok_empty : OkSlot empty
unfolding empty
ok_empty c v h = absurd (let z : ◌≡◌ {A = ℕ} 0 1 = cc in omega arith)

ok_take : (n : ℕ) (D : List Slot) → OkSlots D → OkSlots (take n D)
ok_take zero D h = tt
ok_take (suc n) [] h = tt
ok_take (suc n) (s ∷ D) h = (h.0, ok_take n D h.1)

ok_drop : (n : ℕ) (D : List Slot) → OkSlots D → OkSlots (drop n D)
ok_drop zero D h = h
ok_drop (suc n) [] h = tt
ok_drop (suc n) (s ∷ D) h = ok_drop n D h.1

ok_app : (D E : List Slot) → OkSlots D → OkSlots E → OkSlots (D ++ E)
ok_app [] E h k = k
ok_app (s ∷ D) E h k = (h.0, ok_app D E h.1 k)

pub ok_get : (D : List Slot) (i : ℕ) → OkSlots D → OkSlot (get_or D i empty)
ok_get [] i h = ok_empty
ok_get (s ∷ D) zero h = h.0
ok_get (s ∷ D) (suc i) h = ok_get D i h.1

ok_set : (D : List Slot) (i : ℕ) (s : Slot) → OkSlots D → OkSlot s → OkSlots (set D i s)
ok_set [] i s h k = tt
ok_set (x ∷ D) zero s h k = (k, h.1)
ok_set (x ∷ D) (suc i) s h k = (h.0, ok_set D i s h.1 k)

-- slots that are made are empty
ok_made : (n : ℕ) → OkSlots (replicate n empty)
ok_made zero = tt
ok_made (suc n) = (ok_empty, ok_made n)

ok_reaching : (D : List Slot) (j : ℕ) → OkSlots D → OkSlots (reaching j D)
unfolding reaching
ok_reaching D j h = ok_app D (replicate (suc j - length D) empty) h (ok_made (suc j - length D))

ok_upd : (s : Slot) (c j : ℕ) (v : Option Load) → OkSlot s → PutOk (put j c v) → OkSlot (upd s c v)
unfolding upd
ok_upd s c j v ok p k w h = go (eqb k c) refl v p h
  where
    go : (b : Bool) → eqb k c ≡ b → (v : Option Load) → PutOk (put j c v) → cond b v (s k) ≡ Some w → LoadOk k w
    go false e v p h = ok k w h
    go true e None p h = absurd (let z : ◌≡◌ {A = ℕ} 0 1 = cc in omega arith)
    go true e (Some v) p h =
        let q : v ≡ w = cc in
        rw (eqb-true k c e, ← q) p

ok_dir : (l : List Act) → PutsOk l → OkSlots (dir l)
unfolding dir apply
ok_dir [] h = tt
ok_dir (mk j ∷ l) h = let r = ok_dir l h.1 in ok_app (take j (dir l)) (empty ∷ drop j (dir l)) (ok_take j (dir l) r)
    (ok_empty, ok_drop j (dir l) r)
ok_dir (rm j ∷ l) h = let r = ok_dir l h.1 in ok_app (take j (dir l)) (drop (suc j) (dir l)) (ok_take j (dir l) r)
    (ok_drop (suc j) (dir l) r)
ok_dir (put j c v ∷ l) h = let r = ok_dir l h.1 in ok_set (reaching j (dir l)) j (upd (get_or (dir l) j empty) c v)
    (ok_reaching (dir l) j r)
    (ok_upd (get_or (dir l) j empty) c j v (ok_get (dir l) j r) h.0)
ok_dir (skip ∷ l) h = ok_dir l h.1

puts_rev : (l r : List Act) → PutsOk l → PutsOk r → PutsOk (reverse_aux l r)
puts_rev [] r h k = k
puts_rev (a ∷ l) r h k = puts_rev l (a ∷ r) h.1 (h.0, k)

pub ok_dir_of : (es : List Event) → PutsOk (acts es) → OkSlots (dir_of es)
unfolding dir_of
ok_dir_of es h = ok_dir (reverse (acts es)) (puts_rev (acts es) [] h tt)
