-- A table of half as many words as the block has bytes is never too small: an entry takes four bytes of the log or
-- more, and brings one place more at most. Assumes nothing.
use Rattle.std.specs.Prelude.{◌≡◌, ◌≢◌, Bool, true, false, cond, List, [], ◌∷◌, ◌++◌, ℕ, zero, suc, ◌+◌, ◌-◌, ◌*◌, ◌/◌, ◌≤◌, length, take, drop, get_or, eqb, ltb, None, Some}
use Rattle.std.proofs.Common.{sym, ◌∙◌, arith, length-append, length-take, length-drop, le-leb}
use Rattle.format.specs.Tag.{tag_length, tag_of}
use Rattle.format.specs.Walk.{Event, ent, chk, inv}
use Rattle.format.specs.Log.{log, event_length, span}
use Rattle.format.specs.Regular.{Regular}
use Rattle.format.specs.declared.Rules.TheVariants.{Littlefs}
use Rattle.format.specs.Directory.{Act, mk, rm, put, skip}
use Rattle.format.specs.Index.{placed_from, built, rank_at, rank_of, tag_in, halving, seek, seek_from, is_at, shifted, one_up}
use Rattle.format.specs.Index.{one_down, places_after, ran_on}
use Rattle.format.proofs.Words.{tag_length_ge}
use Rattle.format.proofs.Places.{shifted_length}
use Rattle.index_theory.specs.Ran.{built_is}

-- halving goes forward
halving_from : (k r : ℕ) (P : List ℕ) (at n : ℕ) → at ≤ halving k r P at n
unfolding halving
halving_from zero r P at n = omega arith
halving_from (suc k) r P at n =
    go (eqb n 0) (ltb (rank_of (tag_in P (at + n / 2))) r) (halving_from k r P (at + n / 2 + 1) (n - n / 2 - 1))
    (halving_from k r P at (n / 2))
  where
    go : (z l : Bool) → at + n / 2 + 1 ≤ halving k r P (at + n / 2 + 1) (n - n / 2 - 1) → at ≤ halving k r P at (n / 2)
        → at ≤ cond z at (cond l (halving k r P (at + n / 2 + 1) (n - n / 2 - 1)) (halving k r P at (n / 2)))
    go true l up down = omega arith
    go false true up down = omega arith
    go false false up down = down

-- the words before m, and as many as stand from k on with a place before them
parts : (m k : ℕ) (P Q : List ℕ) → m ≤ k → length Q ≤ length P - k + 2 → length (take m P ++ Q) ≤ length P + 2
parts m k P Q h e = omega (arith, length-append (take m P) Q, length-take m P)

behind : (x : Bool) (p : ℕ) → 2 * p ≤ cond x (2 * p + 2) (2 * p)
behind true p = omega arith
behind false p = omega arith

-- an entry brings one place more at most
place_more : (P : List ℕ) (a : Act) → length (places_after P a) ≤ length P + 2
unfolding places_after
place_more P (mk j) =
    let m : ℕ = 2 * seek (rank_at j 0) P in
    parts m m P (shifted one_up (drop m P)) (omega arith)
    (omega (arith, shifted_length one_up (drop m P), length-drop m P))
place_more P (rm j) =
    let p : ℕ = seek (rank_at j 0) P in
    let k : ℕ = 2 * seek_from (rank_at (suc j) 0) P p in
    parts (2 * p) k P (shifted one_down (drop k P))
    (omega (arith, halving_from (length P / 2 - p) (rank_at (suc j) 0) P p (length P / 2 - p)))
    (omega (arith, shifted_length one_down (drop k P), length-drop k P))
place_more P (put j c None) =
    let p : ℕ = seek (rank_at j c) P in
    let x : Bool = is_at (rank_at j c) P p in
    let k : ℕ = cond x (2 * p + 2) (2 * p) in
    parts (2 * p) k P (drop k P) (behind x p) (omega (arith, length-drop k P))
place_more P (put j c (Some v)) =
    let p : ℕ = seek (rank_at j c) P in
    let x : Bool = is_at (rank_at j c) P p in
    let k : ℕ = cond x (2 * p + 2) (2 * p) in
    parts (2 * p) k P (tag_of v.type j (get_or v.bytes 0 0) ∷ get_or v.bytes 1 0 ∷ drop k P) (behind x p)
    (omega (arith, length-drop k P))
place_more P skip = omega arith

-- so a run with room for one place an entry does not stop
ran_enough : (n : ℕ) (l : List Act) (P : List ℕ) → length P + 2 * length l ≤ n → ran_on n P l ≢ None
unfolding ran_on
ran_enough n [] P h = λ e. absurd (let z : ◌≡◌ {A = ℕ} 0 1 = cc in omega arith)
ran_enough n (a ∷ l) P h = rw (le-leb (length (places_after P a)) n (omega (arith, place_more P a)))
    (ran_enough n l (places_after P a) (omega (arith, place_more P a)))

-- four bytes or more for each
acts_span : (es : List Event) (off : ℕ) → 4 * length (placed_from off es) ≤ span es
unfolding placed_from span event_length
acts_span [] off = omega arith
acts_span (ent t d ∷ es) off = omega (arith, tag_length_ge t, acts_span es (off + tag_length t))
acts_span (chk t c ∷ es) off = omega (arith, tag_length_ge t, acts_span es (off + tag_length t))
acts_span (inv ∷ es) off = omega (arith, acts_span es off)

pub built_enough : (n : ℕ) (b : List ℕ) → Regular Littlefs (log b) ≡ true → span (log b) ≤ 2 * n
    → built n (log b) ≢ None
built_enough n b regular h e = ran_enough n (placed_from 4 (log b)) [] (omega (arith, acts_span (log b) 4))
    (sym (built_is n b regular) ∙ e)
