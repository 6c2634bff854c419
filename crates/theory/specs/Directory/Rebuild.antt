-- Compaction's acts, for each slot create and then what it holds, append the directory to what there was; so they
-- give it back (proofs/Directory/Rebuild.antt). Assumes nothing.
use Rattle.std.specs.Prelude.{◌≡◌, refl, ◌≢◌, Bool, true, false, cond, List, [], ◌∷◌, ◌++◌, ℕ, zero, suc, ◌≤◌, length, ltb, eqb, None, Option, Some}
use Rattle.std.proofs.Common.{sym, ap, ◌∙◌, append-nil, arith, drop_of_length-le, length-append, take_all, le-ltb, lt-ltb, eqb-true, ltb-true, ltb-false}
use Rattle.std.proofs.Math.Path.{fun_ext}
use Rattle.std.proofs.lemmas.List.{get_or_at, set_at}
use Rattle.std.proofs.Math.Seq.{append_snoc}
use Rattle.std.proofs.lemmas.Bool.{eqb-false}
use Rattle.format.specs.Directory.{Load, Act, put, Slot, classes, mk, empty, upd, dir, apply}
use Rattle.format.proofs.Slots.{reaching_there}

abbrev pub emit : ℕ → ℕ → Option Load → List Act → List Act
emit i n None l = l
emit i n (Some v) l = put i n (Some v) ∷ l

-- the entries of slot i, newest first, classes below n, before those of l
unfoldable pub puts : ℕ → ℕ → Slot → List Act → List Act
puts zero i s l = l
puts (suc n) i s l = emit i n (s n) (puts n i s l)

unfoldable pub rebuild : ℕ → List Slot → List Act → List Act
rebuild i [] l = l
rebuild i (s ∷ D) l = rebuild (suc i) D (puts classes i s (mk i ∷ l))

abbrev pub Held : Slot → Type 0
Held s = (c : ℕ) → classes ≤ c → s c ≡ None

abbrev pub AllHeld : List Slot → Type 0
AllHeld [] = Unit {0}
AllHeld (s ∷ D) = Held s × AllHeld D

pub up_to : ℕ → Slot → Slot
up_to n s c = cond (ltb c n) (s c) None

up_to_zero : (s : Slot) → empty ≡ up_to zero s
unfolding empty up_to
up_to_zero s = fun_ext (λ c. rw (le-ltb c 0 (omega arith)))

up_to_suc : (n : ℕ) (s : Slot) (v : Option Load) → s n ≡ v → upd (up_to n s) n v ≡ up_to (suc n) s
unfolding upd up_to
up_to_suc n s v h = fun_ext (λ c. go c (eqb c n) refl (ltb c n) refl)
  where
    go : (c : ℕ) (e : Bool) → eqb c n ≡ e → (b : Bool) → ltb c n ≡ b
        → cond e v (cond b (s c) None) ≡ cond (ltb c (suc n)) (s c) None
    go c true e b f = rw (lt-ltb c (suc n) (omega (arith, eqb-true c n e))) (sym h ∙ ap s (sym (eqb-true c n e)))
    go c false e true f = rw (lt-ltb c (suc n) (omega (arith, ltb-true c n f)))
    go c false e false f =
        let d : c ≢ n = eqb-false c n e in
        rw (le-ltb c (suc n) (omega (arith, ltb-false c n f)))

up_to_none : (n : ℕ) (s : Slot) → s n ≡ None → up_to n s ≡ up_to (suc n) s
unfolding up_to
up_to_none n s h = fun_ext (λ c. go c (eqb c n) refl (ltb c n) refl)
  where
    go : (c : ℕ) (e : Bool) → eqb c n ≡ e → (b : Bool) → ltb c n ≡ b
        → cond b (s c) None ≡ cond (ltb c (suc n)) (s c) None
    go c true e b f = rw (
      ← f,
      le-ltb c n (omega (arith, eqb-true c n e)),
      lt-ltb c (suc n) (omega (arith, eqb-true c n e)),
    ) (sym h ∙ ap s (sym (eqb-true c n e)))
    go c false e true f = rw (lt-ltb c (suc n) (omega (arith, ltb-true c n f)))
    go c false e false f =
        let d : c ≢ n = eqb-false c n e in
        rw (le-ltb c (suc n) (omega (arith, ltb-false c n f)))

pub up_to_all : (s : Slot) → Held s → up_to classes s ≡ s
unfolding up_to
up_to_all s h = fun_ext (λ c. go c (ltb c classes) refl)
  where
    go : (c : ℕ) (b : Bool) → ltb c classes ≡ b → cond b (s c) None ≡ s c
    go c true e = refl
    go c false e = sym (h c (ltb-false c classes e))

pub puts_dir : (n i : ℕ) (s : Slot) (l : List Act) → length (dir l) ≡ i
    → dir (puts n i s (mk i ∷ l)) ≡ dir l ++ (up_to n s ∷ [])
unfolding puts dir apply
puts_dir zero i s l h = rw (
  take_all i (dir l) (omega arith),
  drop_of_length-le (dir l) {i = i} (omega arith),
  up_to_zero s,
)
puts_dir (suc n) i s l h = go (s n) refl (puts_dir n i s l h)
  where
    go : (v : Option Load) → s n ≡ v → dir (puts n i s (mk i ∷ l)) ≡ dir l ++ (up_to n s ∷ [])
        → dir (emit i n v (puts n i s (mk i ∷ l))) ≡ dir l ++ (up_to (suc n) s ∷ [])
    go None e ih = ih ∙ ap (λ z. dir l ++ (z ∷ [])) (up_to_none n s e)
    go (Some v) e ih =
        rw (
          ih,
          get_or_at (dir l) (up_to n s) [] empty i h,
          reaching_there i (dir l ++ (up_to n s ∷ [])) (omega (arith, length-append (dir l) (up_to n s ∷ []))),
          set_at (dir l) (up_to n s) [] (upd (up_to n s) n (Some v)) i h,
          up_to_suc n s (Some v) e,
        )

pub rebuild_dir : (D : List Slot) (i : ℕ) (l : List Act) → AllHeld D → length (dir l) ≡ i
    → dir (rebuild i D l) ≡ dir l ++ D
unfolding rebuild
rebuild_dir [] i l a h = sym (append-nil (dir l))
rebuild_dir (s ∷ D) i l a h =
    let e : dir (puts classes i s (mk i ∷ l)) ≡ dir l ++ (s ∷ []) = puts_dir classes i s l h
    ∙ ap (λ z. dir l ++ (z ∷ [])) (up_to_all s a.0) in
    let n : length (dir (puts classes i s (mk i ∷ l))) ≡ suc i = rw e (length-append (dir l) (s ∷ []) ∙ omega arith) in
    rebuild_dir D (suc i) (puts classes i s (mk i ∷ l)) a.1 n ∙ rw e (append_snoc (dir l) s D)
