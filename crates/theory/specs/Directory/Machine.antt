-- The directory machine, "slots inserted, removed, attributes set", and the search back through what was done to it:
-- they agree. Assumes nothing.
use Rattle.format.specs.Directory.{Act, Load, Slot, apply, dir, empty, mk, put, reaching, rm, skip, upd}
use Rattle.format.proofs.Slots.{length_reaching, get_d_reaching}
use Rattle.std.specs.Prelude.{◌≡◌, refl, ◌≢◌, ◌⊎◌, Bool, true, false, cond, ◌&&◌, List, [], ◌∷◌, ◌++◌, ℕ, suc, ◌+◌, ◌-◌, ◌≤◌, ◌<◌, max, take, drop, set, get_or, length, eqb, leb, None, Option}
use Rattle.std.proofs.Common.{sym, ap, ◌∙◌, inl, inr, arith, length-append, length-drop, length-set, length-take-le, get_or-take, get_or-append-add, get_or-drop, get_or-set_same, get_or-set_other, leb-false, eqb-true, leb-true}
use Rattle.std.proofs.Math.ListN.{get_or-append}
use Rattle.std.proofs.lemmas.Bool.{eqb-false}

-- the rules leave a directory at most so many slots: "c at most 1,022" before a create
abbrev pub most_slots : ℕ
most_slots = 1_023

-- whether what is set may make slots behind an act: "as long as no create or delete has come"
abbrev pub grows_behind : Bool → Act → Bool
grows_behind g (mk j) = false
grows_behind g (rm j) = false
grows_behind g (put j c v) = g
grows_behind g skip = g

pub behind_never : (a : Act) → grows_behind false a ≡ false
behind_never (mk j) = refl
behind_never (rm j) = refl
behind_never (put j c v) = refl
behind_never skip = refl

-- and behind acts, newest first, if it might before them
abbrev pub still_grows : Bool → List Act → Bool
still_grows g [] = g
still_grows g (a ∷ l) = grows_behind (still_grows g l) a

-- what is allowed where there are n slots; g: slots may be made by what is set
abbrev pub Allowed : Bool → Act → ℕ → Type 0
Allowed g (mk j) n = j ≤ n
Allowed g (rm j) n = j < n
Allowed g (put j c v) n = (j < n) ⊎ (g ≡ true)
Allowed g skip n = Unit {0}

abbrev pub AllAllowed : Bool → List Act → Type 0
AllAllowed g [] = Unit {0}
AllAllowed g (a ∷ l) = Allowed (still_grows g l) a (length (dir l)) × AllAllowed g l

-- A slot that is there; or any, as long as no slot was inserted or removed: then what is older stands where it stood,
-- and a slot that is not there is as an empty one.
abbrev pub Inside : Bool → ℕ → List Act → Type 0
Inside g i l = (i < length (dir l)) ⊎ (still_grows g l ≡ true)

-- the search back, newest first: class c of slot i
unfoldable pub find : ℕ → ℕ → List Act → Option Load
find c i [] = None
find c i (mk j ∷ l) = cond (leb j i) (cond (eqb j i) None (find c (i - 1) l)) (find c i l)
find c i (rm j ∷ l) = cond (leb j i) (find c (i + 1) l) (find c i l)
find c i (put j k v ∷ l) = cond (eqb j i && eqb c k) v (find c i l)
find c i (skip ∷ l) = find c i l

-- ---- inserting and removing
module _ {A : Type 0} where
  pub ins_before : (D : List A) (j i : ℕ) (x d : A) → j ≤ length D → i < j
      → get_or (take j D ++ x ∷ drop j D) i d ≡ get_or D i d
  ins_before D j i x d h k =
      get_or-append (take j D) (x ∷ drop j D) d i (omega (arith, length-take-le j D h)) ∙ get_or-take j D i d k

  pub ins_at : (D : List A) (j : ℕ) (x d : A) → j ≤ length D → get_or (take j D ++ x ∷ drop j D) j d ≡ x
  ins_at D j x d h =
      let e : length (take j D) + 0 ≡ j = omega (arith, length-take-le j D h) in
      ap (λ n. get_or (take j D ++ x ∷ drop j D) n d) (sym e) ∙ get_or-append-add (take j D) (x ∷ drop j D) 0 d

  pub ins_after : (D : List A) (j i : ℕ) (x d : A) → j ≤ length D → j < i
      → get_or (take j D ++ x ∷ drop j D) i d ≡ get_or D (i - 1) d
  ins_after D j i x d h k =
      let e : length (take j D) + suc (i - 1 - j) ≡ i = omega (arith, length-take-le j D h) in
      let f : j + (i - 1 - j) ≡ i - 1 = omega arith in
      ap (λ n. get_or (take j D ++ x ∷ drop j D) n d) (sym e) ∙ get_or-append-add (take j D) (x ∷ drop j D)
      (suc (i - 1 - j)) d
      ∙ get_or-drop j D (i - 1 - j) d ∙ ap (λ n. get_or D n d) f

  pub del_before : (D : List A) (j i : ℕ) (d : A) → j < length D → i < j
      → get_or (take j D ++ drop (suc j) D) i d ≡ get_or D i d
  del_before D j i d h k =
      get_or-append (take j D) (drop (suc j) D) d i (omega (arith, length-take-le j D (omega arith)))
      ∙ get_or-take j D i d k

  pub del_after : (D : List A) (j i : ℕ) (d : A) → j < length D → j ≤ i
      → get_or (take j D ++ drop (suc j) D) i d ≡ get_or D (i + 1) d
  del_after D j i d h k =
      let e : length (take j D) + (i - j) ≡ i = omega (arith, length-take-le j D (omega arith)) in
      let f : suc j + (i - j) ≡ i + 1 = omega arith in
      ap (λ n. get_or (take j D ++ drop (suc j) D) n d) (sym e) ∙ get_or-append-add (take j D) (drop (suc j) D) (i - j) d
      ∙ get_or-drop (suc j) D (i - j) d ∙ ap (λ n. get_or D n d) f

  pub length_ins : (D : List A) (j : ℕ) (x : A) → j ≤ length D → length (take j D ++ x ∷ drop j D) ≡ suc (length D)
  length_ins D j x h = rw (length-append (take j D) (x ∷ drop j D))
      (omega (arith, length-take-le j D h, length-drop j D))

  pub length_del : (D : List A) (j : ℕ) → j < length D → length (take j D ++ drop (suc j) D) ≡ length D - 1
  length_del D j h = rw (length-append (take j D) (drop (suc j) D))
      (omega (arith, length-take-le j D (omega arith), length-drop (suc j) D))

-- what is set in a slot makes those up to it
pub length_put : (D : List Slot) (j c : ℕ) (v : Option Load) → length (apply D (put j c v)) ≡ max (length D) (suc j)
unfolding apply
length_put D j c v = length-set (reaching j D) j (upd (get_or D j empty) c v) ∙ length_reaching j D

-- so a slot is there before it is set, or may be any
pub inside_put : (g : Bool) (l : List Act) (i j c : ℕ) (v : Option Load)
    → Allowed (still_grows g l) (put j c v) (length (dir l)) → Inside g i (put j c v ∷ l) → Inside g i l
unfolding dir
inside_put g l i j c v (inr e) h = inr e
inside_put g l i j c v (inl k) (inr e) = inr e
inside_put g l i j c v (inl k) (inl h) = inl (omega (arith, length_put (dir l) j c v))

-- where slots are inserted or removed it is there
pub inside_there : {A : Type 0} → A ⊎ (false ≡ true) → A
inside_there (inl h) = h
inside_there (inr e) = absurd (let z : ◌≡◌ {A = ℕ} 0 1 = cc in omega arith)

-- the search answers what the machine holds
pub find_dir : (g : Bool) (l : List Act) (c i : ℕ) → AllAllowed g l → Inside g i l → find c i l ≡ get_or (dir l) i empty c
unfolding find dir apply empty upd
find_dir g [] c i r h = refl
find_dir g (mk j ∷ l) c i r h = go (leb j i) refl (eqb j i) refl (λ k q. find_dir g l c k r.1 (inl q))
  where
    D : List Slot
    D = dir l

    len : length (take j D ++ empty ∷ drop j D) ≡ suc (length D)
    len = length_ins D j empty r.0

    low : i < length (take j D ++ empty ∷ drop j D)
    low = inside_there h

    go : (b : Bool) → leb j i ≡ b → (e : Bool) → eqb j i ≡ e → ((k : ℕ) → k < length D → find c k l ≡ get_or D k empty c)
        → cond b (cond {A = Option Load} e None (find c (i - 1) l)) (find c i l)
        ≡ get_or (take j D ++ empty ∷ drop j D) i empty c
    go false b e q ih =
        let k : i < j = leb-false j i b in
        ih i (omega (arith, r.0)) ∙ sym (ap (λ s. s c) (ins_before D j i empty empty r.0 k))
    go true b true q ih =
        rw (← eqb-true j i q) (sym (ap (λ s. s c) (ins_at D j empty empty r.0)))
    go true b false q ih =
        let k : j ≤ i = leb-true j i b in
        let n : j ≢ i = eqb-false j i q in
        let lt : j < i = omega arith in
        ih (i - 1) (omega (arith, len, low)) ∙ sym (ap (λ s. s c) (ins_after D j i empty empty r.0 lt))
find_dir g (rm j ∷ l) c i r h = go (leb j i) refl (λ k q. find_dir g l c k r.1 (inl q))
  where
    D : List Slot
    D = dir l

    len : length (take j D ++ drop (suc j) D) ≡ length D - 1
    len = length_del D j r.0

    low : i < length (take j D ++ drop (suc j) D)
    low = inside_there h

    go : (b : Bool) → leb j i ≡ b → ((k : ℕ) → k < length D → find c k l ≡ get_or D k empty c)
        → cond b (find c (i + 1) l) (find c i l) ≡ get_or (take j D ++ drop (suc j) D) i empty c
    go false b ih = ih i (omega (arith, len, low))
        ∙ sym (ap (λ s. s c) (del_before D j i empty r.0 (leb-false j i b)))
    go true b ih = ih (i + 1) (omega (arith, len, low))
        ∙ sym (ap (λ s. s c) (del_after D j i empty r.0 (leb-true j i b)))
find_dir g (put j k v ∷ l) c i r h =
    go (eqb j i) refl (find_dir g l c i r.1 (inside_put g l i j k v r.0 h))
  where
    D : List Slot
    D = dir l

    here : j < length (reaching j D)
    here = omega (arith, length_reaching j D)

    go : (e : Bool) → eqb j i ≡ e → find c i l ≡ get_or D i empty c
        → cond (e && eqb c k) v (find c i l) ≡ get_or (set (reaching j D) j (upd (get_or D j empty) k v)) i empty c
    go true e ih = rw (
      ← eqb-true j i e,
      get_or-set_same (reaching j D) j (upd (get_or D j empty) k v) empty here,
    ) (fin (eqb c k))
      where
        fin : (b : Bool) → cond b v (find c j l) ≡ cond b v (get_or D j empty c)
        fin true = refl
        fin false = rw (eqb-true j i e) ih
    go false e ih =
        let n : i ≢ j = λ q. eqb-false j i e (sym q) in
        ih ∙ sym (ap (λ s. s c) (get_or-set_other (reaching j D) j i (upd (get_or D j empty) k v) empty
        n ∙ get_d_reaching j D i))
find_dir g (skip ∷ l) c i r h = find_dir g l c i r.1 h
