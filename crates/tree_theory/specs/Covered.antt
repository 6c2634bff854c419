-- The names that `lfs_dir_getinfo` sees, by the directory machine: of a slot whose newest name is hidden it sees an
-- older one, if there is any. So a superblock's name may cover another; where none does, it sees the newest name or
-- none. Assumes nothing.
use Rattle.std.specs.Prelude.{◌≡◌, ◌≢◌, Bool, not, cond, ◌&&◌, List, [], ◌∷◌, map, ℕ, suc, ◌+◌, ◌-◌, ◌≤◌, ◌<◌, length, get_or, eqb, leb, None, Option, Some}
use Rattle.std.proofs.Math.Path.{refl}
use Rattle.std.proofs.Common.{sym, ap, ◌∙◌, inl, arith, length-append, length-take, length-drop, eqb-true, leb-true, leb-false}
use Rattle.std.proofs.Math.Bool.{true, false}
use Rattle.std.proofs.lemmas.Bool.{eqb-false}
use Rattle.format.specs.Directory.{Load, Slot, Act, mk, rm, put, skip, empty, apply, dir}
use Rattle.format.specs.TreeMachine.{hidden, named, uncovered_in}
use Rattle.theory.specs.Walk.Step.{both_true}
use Rattle.theory.specs.Directory.Machine.{find, grows_behind, still_grows, Allowed, AllAllowed, Inside}
use Rattle.theory.specs.Directory.Machine.{length_put, inside_put, inside_there, length_ins, length_del, find_dir}
use Rattle.theory.specs.Lookup.ByMask.{FewBack}
use Rattle.theory.specs.Lookup.Masks.{and_no}

-- ---- an act, with a hidden name taken for a user attribute
unfoldable pub veiled : Act → Act
veiled (mk j) = mk j
veiled (rm j) = rm j
veiled (put j c None) = put j c None
veiled (put j c (Some v)) = cond (hidden v.type) (put j 257 (Some (record { type = 0x3ff; bytes = v.bytes })))
    (put j c (Some v))
veiled skip = skip

-- it does to the number of slots what it did
length_veiled : (D E : List Slot) (a : Act) → length D ≡ length E → length (apply D (veiled a)) ≡ length (apply E a)
unfolding veiled apply
length_veiled D E (mk j) h =
    simp (length-append, length-take, length-drop) (omega arith)
length_veiled D E (rm j) h =
    simp (length-append, length-take, length-drop) (omega arith)
length_veiled D E (put j c None) h = length_put D j c None ∙ omega (arith, length_put E j c None)
length_veiled D E (put j c (Some v)) h = go (hidden v.type)
  where
    go : (b : Bool)
        → length (apply D (cond b (put j 257 (Some (record { type = 0x3ff; bytes = v.bytes }))) (put j c (Some v))))
        ≡ length (apply E (put j c (Some v)))
    go true = length_put D j 257 (Some (record { type = 0x3ff; bytes = v.bytes }))
        ∙ omega (arith, length_put E j c (Some v))
    go false = length_put D j c (Some v) ∙ omega (arith, length_put E j c (Some v))
length_veiled D E skip h = h

pub dir_veiled : (l : List Act) → length (dir (map veiled l)) ≡ length (dir l)
unfolding dir
dir_veiled [] = refl
dir_veiled (a ∷ l) = length_veiled (dir (map veiled l)) (dir l) a (dir_veiled l)

-- so what is allowed stays allowed
module _ (g : Bool) where
  behind_veiled : (h : Bool) (a : Act) → grows_behind h (veiled a) ≡ grows_behind h a
  unfolding veiled
  behind_veiled h (mk j) = refl
  behind_veiled h (rm j) = refl
  behind_veiled h (put j c None) = refl
  behind_veiled h (put j c (Some v)) = go (hidden v.type)
    where
      go : (b : Bool)
          → grows_behind h (cond b (put j 257 (Some (record { type = 0x3ff; bytes = v.bytes }))) (put j c (Some v))) ≡ h
      go true = refl
      go false = refl
  behind_veiled h skip = refl

  still_veiled : (l : List Act) → still_grows g (map veiled l) ≡ still_grows g l
  still_veiled [] = refl
  still_veiled (a ∷ l) =
      ap (λ h. grows_behind h (veiled a)) (still_veiled l) ∙ behind_veiled (still_grows g l) a

  allowed_one : (h : Bool) (a : Act) (n : ℕ) → Allowed h a n → Allowed h (veiled a) n
  unfolding veiled
  allowed_one h (mk j) n k = k
  allowed_one h (rm j) n k = k
  allowed_one h (put j c None) n k = k
  allowed_one h (put j c (Some v)) n k = go (hidden v.type)
    where
      go : (b : Bool)
          → Allowed h (cond b (put j 257 (Some (record { type = 0x3ff; bytes = v.bytes }))) (put j c (Some v))) n
      go true = k
      go false = k
  allowed_one h skip n k = k

  pub allowed_veiled : (l : List Act) → AllAllowed g l → AllAllowed g (map veiled l)
  allowed_veiled [] r = tt
  allowed_veiled (a ∷ l) r = (
    rw (still_veiled l, dir_veiled l) (allowed_one (still_grows g l) a (length (dir l)) r.0),
    allowed_veiled l r.1,
  )

  pub inside_veiled : (i : ℕ) (l : List Act) → Inside g i l → Inside g i (map veiled l)
  inside_veiled i l h = rw (still_veiled l, dir_veiled l) h

pub few_veiled : (l : List Act) → FewBack l → FewBack (map veiled l)
few_veiled [] h = tt
few_veiled (a ∷ l) h = (rw (dir_veiled l) h.0, few_veiled l h.1)

-- ---- where names are no removals, a veiled act is the act of a veiled tag
abbrev pub Kept : Act → Type 0
Kept (mk j) = Unit {0}
Kept (rm j) = Unit {0}
Kept (put j c None) = c ≢ 0
Kept (put j c (Some v)) = Unit {0}
Kept skip = Unit {0}

abbrev pub AllKept : List Act → Type 0
AllKept [] = Unit {0}
AllKept (a ∷ l) = Kept a × AllKept l

-- ---- the name that is seen
-- of a newest name
abbrev pub visible : Option Load → Option Load
visible None = None
visible (Some v) = cond (hidden v.type) None (Some v)

-- a newest name that is not hidden is seen, whatever stands under it
pub find_visible : (l : List Act) (i : ℕ) (v : Load) → find 0 i l ≡ Some v → hidden v.type ≡ false
    → find 0 i (map veiled l) ≡ Some v
unfolding find veiled
find_visible [] i v e h = e
find_visible (mk j ∷ l) i v e h = go (leb j i) (eqb j i) e (λ k q. find_visible l k v q h)
  where
    go : (b c : Bool) → cond b (cond {A = Option Load} c None (find 0 (i - 1) l)) (find 0 i l) ≡ Some v
        → ((k : ℕ) → find 0 k l ≡ Some v → find 0 k (map veiled l) ≡ Some v)
        → cond b (cond {A = Option Load} c None (find 0 (i - 1) (map veiled l))) (find 0 i (map veiled l)) ≡ Some v
    go true true q ih = q
    go true false q ih = ih (i - 1) q
    go false c q ih = ih i q
find_visible (rm j ∷ l) i v e h = go (leb j i) e (λ k q. find_visible l k v q h)
  where
    go : (b : Bool) → cond b (find 0 (i + 1) l) (find 0 i l) ≡ Some v
        → ((k : ℕ) → find 0 k l ≡ Some v → find 0 k (map veiled l) ≡ Some v)
        → cond b (find 0 (i + 1) (map veiled l)) (find 0 i (map veiled l)) ≡ Some v
    go true q ih = ih (i + 1) q
    go false q ih = ih i q
find_visible (put j c None ∷ l) i v e h = go (eqb j i && eqb 0 c) e (λ q. find_visible l i v q h)
  where
    go : (b : Bool) → cond b None (find 0 i l) ≡ Some v → (find 0 i l ≡ Some v → find 0 i (map veiled l) ≡ Some v)
        → cond b None (find 0 i (map veiled l)) ≡ Some v
    go true q ih = q
    go false q ih = ih q
find_visible (put j c (Some u) ∷ l) i v e h = go (hidden u.type) refl (λ q. find_visible l i v q h)
  where
    under : (b : Bool) → hidden u.type ≡ true → cond b (Some u) (find 0 i l) ≡ Some v → find 0 i l ≡ Some v
    under true eb q = absurd (
        let same : u ≡ v = cc in
        let z : true ≡ false = sym eb ∙ ap (λ (w : Load). hidden w.type) same ∙ h in
        let n : ◌≡◌ {A = ℕ} 0 1 = cc in
        omega arith
        )
    under false eb q = q

    there : (b : Bool) → cond b (Some u) (find 0 i l) ≡ Some v
        → (find 0 i l ≡ Some v → find 0 i (map veiled l) ≡ Some v)
        → cond b (Some u) (find 0 i (map veiled l)) ≡ Some v
    there true q ih = q
    there false q ih = ih q

    go : (b : Bool) → hidden u.type ≡ b → (find 0 i l ≡ Some v → find 0 i (map veiled l) ≡ Some v)
        → find 0 i (cond b (put j 257 (Some (record { type = 0x3ff; bytes = u.bytes }))) (put j c (Some u))
        ∷ map veiled l) ≡ Some v
    go true eb ih = rw (and_no (eqb j i)) (ih (under (eqb j i && eqb 0 c) eb e))
    go false eb ih = there (eqb j i && eqb 0 c) e ih
find_visible (skip ∷ l) i v e h = find_visible l i v e h

-- Where no hidden name covers another, the newest name is seen or none is.
covers : (o : Option Load) → named o ≡ false → visible o ≡ None
unfolding named
covers None h = refl
covers (Some w) h = go (hidden w.type) h
  where
    go : (b : Bool) → not b ≡ false → cond b None (Some w) ≡ None
    go true e = refl
    go false e = absurd (let n : ◌≡◌ {A = ℕ} 0 1 = cc in omega arith)

either_way : (a b : Bool) → not (a && b) ≡ true → a ≡ true → b ≡ false
either_way true true h e = absurd (let n : ◌≡◌ {A = ℕ} 0 1 = cc in omega arith)
either_way true false h e = refl
either_way false b h e = absurd (let n : ◌≡◌ {A = ℕ} 0 1 = cc in omega arith)

pub find_uncovered : (g : Bool) (l : List Act) (i : ℕ) → AllAllowed g l → Inside g i l → uncovered_in l ≡ true
    → find 0 i (map veiled l) ≡ visible (find 0 i l)
unfolding find veiled dir apply uncovered_in
find_uncovered g [] i r h u = refl
find_uncovered g (mk j ∷ l) i r h u = go (leb j i) refl (eqb j i) refl (λ k q. find_uncovered g l k r.1 (inl q) u)
  where
    D : List Slot
    D = dir l

    low : i < suc (length D)
    low = rw (length_ins D j empty r.0) at (inside_there h)

    go : (b : Bool) → leb j i ≡ b → (c : Bool) → eqb j i ≡ c
        → ((k : ℕ) → k < length D → find 0 k (map veiled l) ≡ visible (find 0 k l))
        → cond b (cond {A = Option Load} c None (find 0 (i - 1) (map veiled l))) (find 0 i (map veiled l))
        ≡ visible (cond b (cond {A = Option Load} c None (find 0 (i - 1) l)) (find 0 i l))
    go true eb true ec ih = refl
    go true eb false ec ih =
        let le : j ≤ i = leb-true j i eb in
        let ne : j ≢ i = eqb-false j i ec in
        ih (i - 1) (omega (arith, low))
    go false eb c ec ih = let lt : i < j = leb-false j i eb in ih i (omega (arith, r.0))
find_uncovered g (rm j ∷ l) i r h u = go (leb j i) refl (λ k q. find_uncovered g l k r.1 (inl q) u)
  where
    D : List Slot
    D = dir l

    low : i < length D - 1
    low = rw (length_del D j r.0) at (inside_there h)

    go : (b : Bool) → leb j i ≡ b → ((k : ℕ) → k < length D → find 0 k (map veiled l) ≡ visible (find 0 k l))
        → cond b (find 0 (i + 1) (map veiled l)) (find 0 i (map veiled l))
        ≡ visible (cond b (find 0 (i + 1) l) (find 0 i l))
    go true eb ih = ih (i + 1) (omega (arith, low))
    go false eb ih = ih i (omega (arith, low))
find_uncovered g (put j c None ∷ l) i r h u =
    go (eqb j i && eqb 0 c) (find_uncovered g l i r.1 (inside_put g l i j c None r.0 h) u)
  where
    go : (b : Bool) → find 0 i (map veiled l) ≡ visible (find 0 i l)
        → cond b None (find 0 i (map veiled l)) ≡ visible (cond b None (find 0 i l))
    go true ih = refl
    go false ih = ih
find_uncovered g (put j c (Some v) ∷ l) i r h u =
    go (hidden v.type) refl (eqb j i && eqb 0 c) refl
    (find_uncovered g l i r.1 inner parts.1)
  where
    parts : (not (hidden v.type && named (get_or (dir l) j empty 0)) ≡ true) × (uncovered_in l ≡ true)
    parts = both_true (not (hidden v.type && named (get_or (dir l) j empty 0))) (uncovered_in l) u

    inner : Inside g i l
    inner = inside_put g l i j c (Some v) r.0 h

    -- the name under a hidden one is none that is seen
    under : hidden v.type ≡ true → eqb j i && eqb 0 c ≡ true → find 0 i (map veiled l) ≡ visible (find 0 i l)
        → find 0 i (map veiled l) ≡ None
    under e q ih =
        let n : named (get_or (dir l) j empty 0) ≡ false
        = either_way (hidden v.type) (named (get_or (dir l) j empty 0)) parts.0 e in
        let is : j ≡ i = eqb-true j i (both_true (eqb j i) (eqb 0 c) q).0 in
        ih ∙ ap visible (find_dir g l 0 i r.1 inner)
        ∙ covers (get_or (dir l) i empty 0) (ap (λ k. named (get_or (dir l) k empty 0)) (sym is) ∙ n)

    go : (b : Bool) → hidden v.type ≡ b → (x : Bool) → eqb j i && eqb 0 c ≡ x
        → find 0 i (map veiled l) ≡ visible (find 0 i l)
        → find 0 i (cond b (put j 257 (Some (record { type = 0x3ff; bytes = v.bytes }))) (put j c (Some v))
        ∷ map veiled l) ≡ visible (cond x (Some v) (find 0 i l))
    go true eb true ex ih = rw (and_no (eqb j i), eb) (under eb ex ih)
    go true eb false ex ih = rw (and_no (eqb j i)) ih
    go false eb true ex ih = rw (ex, eb)
    go false eb false ex ih = rw ex ih
find_uncovered g (skip ∷ l) i r h u = find_uncovered g l i r.1 h u
