-- Laws of what is committed: a list of events up to its last check. Assumes nothing.
use Rattle.std.specs.Prelude.{◌≡◌, refl, List, [], ◌∷◌, ◌++◌, ℕ}
use Rattle.std.proofs.Common.{ap, ◌∙◌, arith}
use Rattle.format.specs.Walk.{Event, ent, chk, inv}
use Rattle.format.specs.Log.{kept_before, committed}
use Rattle.theory.specs.Walk.Erased.{NoCheck}

pub committed_none : (es : List Event) → NoCheck es → committed es ≡ []
unfolding committed
committed_none [] h = refl
committed_none (chk t c ∷ es) h = absurd h
committed_none (ent t d ∷ es) h = rw (committed_none es h)
committed_none (inv ∷ es) h = rw (committed_none es h)

kept_none : (e : Event) (l : List Event) → kept_before e l ≡ [] → l ≡ []
kept_none e [] h = refl
kept_none e (x ∷ l) h = cc

none_committed : (es : List Event) → committed es ≡ [] → NoCheck es
unfolding committed
none_committed [] h = tt
none_committed (chk t c ∷ es) h = absurd (let q : ◌≡◌ {A = ℕ} 0 1 = cc in omega arith)
none_committed (ent t d ∷ es) h = none_committed es (kept_none (ent t d) (committed es) h)
none_committed (inv ∷ es) h = none_committed es (kept_none inv (committed es) h)

pub kept_same : (e : Event) (l es : List Event) → kept_before e l ≡ e ∷ es → l ≡ es
kept_same e [] es h = cc
kept_same e (x ∷ l) es h = cc

kept_app : (e : Event) (l es more : List Event) → kept_before e l ≡ e ∷ es → kept_before e (es ++ more) ≡ e ∷ (es ++ more)
kept_app e [] es more h = cc
kept_app e (x ∷ l) [] more h = cc
kept_app e (x ∷ l) (y ∷ es) more h = refl

pub committed_app : (es more : List Event) → committed es ≡ es → committed (es ++ more) ≡ es ++ committed more
unfolding committed
committed_app [] more h = refl
committed_app (chk t c ∷ es) more h = ap (λ z. chk t c ∷ z) (committed_app es more (cc))
committed_app (ent t d ∷ es) more h =
    rw (committed_app es more (kept_same (ent t d) (committed es) es h))
    (kept_app (ent t d) (committed es) es (committed more) h)
committed_app (inv ∷ es) more h =
    rw (committed_app es more (kept_same inv (committed es) es h)) (kept_app inv (committed es) es (committed more) h)

-- a list is what is committed of it, and then nothing more is
abbrev Split : List Event → List Event → Type 0
Split es kept = (rest : List Event) × (es ≡ kept ++ rest) × NoCheck rest

kept_split : (e : Event) (es : List Event) → (NoCheck es → NoCheck (e ∷ es)) → Split es (committed es)
    → Split (e ∷ es) (kept_before e (committed es))
kept_split e es n r = go (committed es) refl
  where
    go : (l : List Event) → committed es ≡ l → Split (e ∷ es) (kept_before e (committed es))
    go [] q = (e ∷ es, rw q, n (none_committed es q))
    go (x ∷ l) q = (r.0, rw q (ap (λ z. e ∷ z) (rw q at r.1)), r.2)

pub committed_split : (es : List Event) → (rest : List Event) × (es ≡ committed es ++ rest) × NoCheck rest
unfolding committed
committed_split [] = ([], refl, tt)
committed_split (chk t c ∷ es) = let r = committed_split es in (r.0, ap (λ z. chk t c ∷ z) r.1, r.2)
committed_split (ent t d ∷ es) = kept_split (ent t d) es (λ n. n) (committed_split es)
committed_split (inv ∷ es) = kept_split inv es (λ n. n) (committed_split es)

-- what is committed ends in a check, or is empty
kept_twice : (e : Event) (l : List Event) → committed (e ∷ l) ≡ kept_before e (committed l) → committed l ≡ l
    → committed (kept_before e l) ≡ kept_before e l
unfolding committed
kept_twice e [] h k = refl
kept_twice e (x ∷ l) h k = h ∙ rw k

pub committed_twice : (es : List Event) → committed (committed es) ≡ committed es
unfolding committed
committed_twice [] = refl
committed_twice (chk t c ∷ es) = ap (λ z. chk t c ∷ z) (committed_twice es)
committed_twice (ent t d ∷ es) = kept_twice (ent t d) (committed es) refl (committed_twice es)
committed_twice (inv ∷ es) = kept_twice inv (committed es) refl (committed_twice es)

pub kept_more : (e : Event) (l es : List Event) → kept_before e l ≡ e ∷ es → es ≡ [] → ⊥
kept_more e [] es h k = let q : ◌≡◌ {A = ℕ} 0 1 = cc in omega arith
kept_more e (x ∷ l) es h k = let q : ◌≡◌ {A = ℕ} 0 1 = cc in omega arith
