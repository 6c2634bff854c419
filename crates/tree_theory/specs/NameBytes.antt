-- All names of a directory together have no more bytes than the block that it was read from: each live name stands in
-- the log, in an entry of its own. Assumes nothing.
use Rattle.std.specs.Prelude.{◌≡◌, refl, Bool, true, false, cond, List, [], ◌∷◌, ◌++◌, ℕ, zero, suc, ◌+◌, ◌-◌, ◌≤◌, ◌<◌, length, take, drop, get_or, set, replicate, eqb, None, Option, Some}
use Rattle.std.proofs.Common.{ap, ◌∙◌, arith}
use Rattle.format.specs.Tag.{tag_type3, tag_chunk, tag_id, tag_delete, tag_length}
use Rattle.format.specs.Kind.{is_name, is_wide, type_create, type_delete}
use Rattle.format.specs.Walk.{Event, body_length, ent, chk, inv}
use Rattle.format.specs.Log.{log, event_length, span}
use Rattle.format.specs.Directory.{Load, Slot, Act, mk, rm, put, skip, empty, upd, reaching, apply, apply_all, is_struct}
use Rattle.format.specs.Directory.{is_attr, load_of, act, acts, dir, dir_of}
use Rattle.format.specs.Regular.{Regular}
use Rattle.format.specs.declared.Rules.TheVariants.{Littlefs}
use Rattle.format.proofs.Slots.{length_reaching, get_d_reaching}
use Rattle.theory.specs.Directory.Acts.{dir_rev}
use Rattle.theory.specs.Back.EventBytes.{Stands, log_stands}
use Rattle.theory.specs.Back.BackActs.{Eights}
use Rattle.theory.specs.Commit.Tested.{regular_log}
use Rattle.theory.specs.Lookup.SlotSearch.{log_inside}

abbrev pub load_size : Option Load → ℕ
load_size None = 0
load_size (Some v) = length v.bytes

-- the bytes of all names
unfoldable pub names_in : List Slot → ℕ
names_in [] = 0
names_in (s ∷ D) = load_size (s 0) + names_in D

-- what an act may add to them
abbrev act_size : Act → ℕ
act_size (mk j) = 0
act_size (rm j) = 0
act_size (put j c v) = load_size v
act_size skip = 0

unfoldable acts_size : List Act → ℕ
acts_size [] = 0
acts_size (a ∷ l) = act_size a + acts_size l

-- ---- a directory that is altered
names_app : (D E : List Slot) → names_in (D ++ E) ≡ names_in D + names_in E
unfolding names_in
names_app [] E = omega arith
names_app (s ∷ D) E = omega (arith, names_app D E)

names_parts : (j : ℕ) (D : List Slot) → names_in (take j D) + names_in (drop j D) ≡ names_in D
unfolding names_in
names_parts zero D = omega arith
names_parts (suc j) [] = refl
names_parts (suc j) (s ∷ D) = omega (arith, names_parts j D)

names_less : (j : ℕ) (D : List Slot) → names_in (drop (suc j) D) ≤ names_in (drop j D)
unfolding names_in
names_less zero [] = omega arith
names_less zero (s ∷ D) = omega arith
names_less (suc j) [] = omega arith
names_less (suc j) (s ∷ D) = names_less j D

names_set : (D : List Slot) (j : ℕ) (s : Slot) → j < length D
    → names_in (set D j s) + load_size (get_or D j empty 0) ≡ names_in D + load_size (s 0)
unfolding names_in
names_set [] j s h = absurd (omega arith)
names_set (x ∷ D) zero s h = omega arith
names_set (x ∷ D) (suc j) s h = omega (arith, names_set D j s (omega arith))

names_made : (n : ℕ) → names_in (replicate n empty) ≡ 0
unfolding names_in empty
names_made zero = refl
names_made (suc n) = omega (arith, names_made n)

names_reaching : (j : ℕ) (D : List Slot) → names_in (reaching j D) ≡ names_in D
unfolding reaching
names_reaching j D =
    names_app D (replicate (suc j - length D) empty) ∙ omega (arith, names_made (suc j - length D))

-- a name that is put takes the old one's place, and anything else leaves it
names_put : (D : List Slot) (j c : ℕ) (v : Option Load) → names_in (apply D (put j c v)) ≤ names_in D + load_size v
unfolding apply upd
names_put D j c v = go (eqb 0 c)
    (names_set (reaching j D) j (upd (get_or D j empty) c v) (omega (arith, length_reaching j D)))
  where
    old : get_or (reaching j D) j empty 0 ≡ get_or D j empty 0
    old = ap (λ (s : Slot). s 0) (get_d_reaching j D j)

    go : (b : Bool)
        → names_in (set (reaching j D) j (upd (get_or D j empty) c v)) + load_size (get_or (reaching j D) j empty 0)
        ≡ names_in (reaching j D) + load_size (cond b v (get_or D j empty 0))
        → names_in (set (reaching j D) j (upd (get_or D j empty) c v)) ≤ names_in D + load_size v
    go true e = omega (arith, e, names_reaching j D)
    go false e = omega (arith, rw old at e, names_reaching j D)

names_apply : (D : List Slot) (a : Act) → names_in (apply D a) ≤ names_in D + act_size a
unfolding apply names_in empty
names_apply D (mk j) = omega (arith, names_app (take j D) (empty ∷ drop j D), names_parts j D)
names_apply D (rm j) = omega (arith, names_app (take j D) (drop (suc j) D), names_parts j D, names_less j D)
names_apply D (put j c v) = names_put D j c v
names_apply D skip = omega arith

names_all : (l : List Act) (D : List Slot) → names_in (apply_all D l) ≤ names_in D + acts_size l
unfolding apply_all acts_size
names_all [] D = omega arith
names_all (a ∷ l) D = omega (arith, names_all l (apply D a), names_apply D a)

-- ---- what the entries of a log bring
load_size_lem : (t : ℕ) (d : List ℕ) → load_size (load_of t d) ≤ length d
load_size_lem t d = go (tag_delete t)
  where
    go : (b : Bool) → load_size (cond b None (Some (record { type = tag_type3 t; bytes = d }))) ≤ length d
    go true = omega arith
    go false = omega arith

act_size_lem : (t : ℕ) (d : List ℕ) → act_size (act t d) ≤ length d
unfolding act
act_size_lem t d =
    go (is_name t) (is_struct t) (is_attr t) (eqb (tag_type3 t) type_create) (eqb (tag_type3 t) type_delete) (load_size_lem t d)
  where
    go : (n s a c r : Bool) → load_size (load_of t d) ≤ length d
        → act_size (cond n (put (tag_id t) 0 (load_of t d)) (cond s (put (tag_id t) 1 (load_of t d))
        (cond a (put (tag_id t) (2 + tag_chunk t) (load_of t d)) (cond c (mk (tag_id t)) (cond r (rm (tag_id t)) skip)))))
        ≤ length d
    go true s a c r h = h
    go false true a c r h = h
    go false false true c r h = h
    go false false false true r h = omega arith
    go false false false false true h = omega arith
    go false false false false false h = omega arith

body_inside : (t : ℕ) → (is_wide t ≡ true → tag_length t ≡ 12) → body_length t ≤ tag_length t
unfolding body_length
body_inside t h = go (is_wide t) h
  where
    go : (b : Bool) → (b ≡ true → tag_length t ≡ 12) → cond b 8 (tag_length t - 4) ≤ tag_length t
    go true k = omega (arith, k refl)
    go false k = omega arith

acts_size_lem : (es : List Event) → Stands es → Eights es → acts_size (acts es) ≤ span es
unfolding acts acts_size span event_length
acts_size_lem [] s w = omega arith
acts_size_lem (ent t d ∷ es) s w =
    omega (arith, act_size_lem t d, s.0.1, body_inside t w.0, acts_size_lem es s.1 w.1)
acts_size_lem (chk t c ∷ es) s w = omega (arith, acts_size_lem es s.1 w)
acts_size_lem (inv ∷ es) s w = absurd s

pub names_inside : (b : List ℕ) → Regular Littlefs (log b) ≡ true → 4 ≤ length b
    → names_in (dir_of (log b)) ≤ length b
unfolding dir_of dir names_in
names_inside b regular four =
    let r = regular_log b (log b) refl regular in
    rw (dir_rev (acts (log b)) [])
    (omega (
      arith,
      names_all (acts (log b)) [],
      acts_size_lem (log b) (log_stands b) r.base.eight,
      log_inside b (log b) refl r.base.reg four,
    ))
