-- The loop's two records over a list of events leave format's folds over what is committed; and the end of a log lies
-- in its block. Assumes nothing.
use mathlib.Core.Path.{◌≡◌, refl, sym, ap, ◌∙◌}
use mathlib.Core.Bool.{Bool, true, false}
use mathlib.Core.List.{List, [], ◌∷◌}
use Prim.Native.Nat.{ℕ, zero, suc, ◌+◌, ◌≤◌}
use native.Mathlib.Nat.{add-zero, add_assoc, zero-add}
use native.Mathlib.Omega.{arith}
use lib.Dec.{eqb}
use lib.ListN.{length, take, drop, length-drop}
use Rattle.format.specs.Word.{be32, le32, xor, all_ones}
use Rattle.format.specs.Tag.{tag_length, tag_flipped}
use Rattle.format.specs.Crc.{crc}
use Rattle.format.specs.Walk.{Event, ent, chk, inv, Class, past, invalid, check, entry, class_of, checked, step_of}
use Rattle.format.specs.Walk.{walk_in, walk_from, walk}
use Rattle.format.specs.Log.{kept_before, committed, log, event_length, span, tag_after}
use Rattle.format.specs.Record.{count_of, tail_of, split_of, forward_of, seed_of}
use Rattle.format.proofs.Classes.{check_says, entry_says}
use Rattle.fetch_walk.specs.Block.{taken_of, taken_from, walk_again}
use Rattle.fetch_walk.specs.Dir.{empty_dir, entered}
use Rattle.fetch_walk.specs.State.{taken_none, step, settles}
use Rattle.fetch_walk.specs.declared.Taken.{Taken}

-- ---- one record over a list of events, and what is taken at last
unfoldable pub steps : Taken → List Event → Taken
steps k [] = k
steps k (e ∷ es) = steps (step e k) es

after : Taken → Taken → List Event → Taken
after h k [] = k
after h k (e ∷ es) = steps h (e ∷ es)

after_kept : (h k : Taken) (e : Event) (es : List Event) → after (step e h) k es ≡ after h k (kept_before e es)
unfolding after steps
after_kept h k e [] = refl
after_kept h k e (x ∷ es) = refl

after_check_lem : (h k : Taken) (t x : ℕ) (es : List Event)
    → after (step (chk t x) h) (step (chk t x) h) es ≡ after h k (chk t x ∷ es)
unfolding after steps
after_check_lem h k t x [] = refl
after_check_lem h k t x (e ∷ es) = refl

settles_after : (h k : Taken) (es : List Event) → settles h k es ≡ after h k (committed es)
unfolding settles after committed
settles_after h k [] = refl
settles_after h k (ent t x ∷ es) = settles_after (step (ent t x) h) k es ∙ after_kept h k (ent t x) (committed es)
settles_after h k (chk t x ∷ es) = settles_after (step (chk t x) h) (step (chk t x) h) es
    ∙ after_check_lem h k t x (committed es)
settles_after h k (inv ∷ es) = settles_after h k es ∙ after_kept h k inv (committed es)

same_start : (s : Taken) (es : List Event) → after s s es ≡ steps s es
unfolding after steps
same_start s [] = refl
same_start s (e ∷ es) = refl

settles_steps : (s : Taken) (es : List Event) → settles s s es ≡ steps s (committed es)
settles_steps s es = settles_after s s es ∙ same_start s (committed es)

-- ---- THE FOLDS: each part of the record goes its own way
moved : (k : Taken) (es : List Event) (n : ℕ) → n ≡ k.off + span es
    → record { dir = (taken_from k es).dir; off = n; etag = (taken_from k es).etag; seed = (taken_from k es).seed }
    ≡ taken_from k es
moved k es n e = λ i. record {
  dir = (taken_from k es).dir;
  off = e i;
  etag = (taken_from k es).etag;
  seed = (taken_from k es).seed;
}

steps_folds : (k : Taken) (es : List Event) → steps k es ≡ taken_from k es
unfolding steps count_of tail_of split_of forward_of seed_of span event_length tag_after entered
steps_folds k [] = moved k [] k.off (sym (add-zero k.off))
steps_folds k (ent t x ∷ es) =
    steps_folds (step (ent t x) k) es ∙ moved k (ent t x ∷ es) (k.off + tag_length t + span es)
    (add_assoc k.off (tag_length t) (span es))
steps_folds k (chk t x ∷ es) =
    steps_folds (step (chk t x) k) es ∙ moved k (chk t x ∷ es) (k.off + tag_length t + span es)
    (add_assoc k.off (tag_length t) (span es))
steps_folds k (inv ∷ es) =
    steps_folds k es ∙ moved k (inv ∷ es) (k.off + span es) (ap (λ (n : ℕ). k.off + n) (sym (zero-add (span es))))

-- the code's record over a log, from the start, is what format's folds say of the log
pub steps_taken : (seed : ℕ) (es : List Event) → steps (taken_none seed) es ≡ taken_of seed es
unfolding taken_none empty_dir
steps_taken seed es = steps_folds (taken_none seed) es

-- and what the loop leaves of a walk is what they say of what it committed
pub settles_taken : (seed : ℕ) (es : List Event) → settles (taken_none seed) (taken_none seed) es
    ≡ taken_of seed (committed es)
settles_taken seed es = settles_steps (taken_none seed) es ∙ steps_taken seed (committed es)

pub settles_again : (k : Taken) (es : List Event) → settles k k es ≡ taken_from k (committed es)
settles_again k es = settles_steps k es ∙ steps_folds k (committed es)

-- ---- the end of a log lies in its block
span_kept : (e : Event) (es : List Event) → span (kept_before e es) ≤ event_length e + span es
unfolding span
span_kept e [] = omega arith
span_kept e (x ∷ es) = omega arith

span_committed : (es : List Event) → span (committed es) ≤ span es
unfolding committed span event_length
span_committed [] = omega arith
span_committed (chk t x ∷ es) = omega (arith, span_committed es)
span_committed (ent t x ∷ es) = omega (arith, span_committed es, span_kept (ent t x) (committed es))
span_committed (inv ∷ es) = omega (arith, span_committed es, span_kept inv (committed es))

span_walk : (n sum prev : ℕ) (rest : List ℕ) → span (walk_in n sum prev rest) ≤ length rest
unfolding walk_in span event_length
span_walk zero sum prev rest = omega arith
span_walk (suc n) sum prev rest = go (λ s p. span_walk n s p (drop (tag_length t) rest)) (class_of t (length rest)) refl
  where
    t : ℕ
    t = xor (be32 rest) prev

    behind : (s p : ℕ) → span (walk_in n s p (drop (tag_length t) rest)) ≤ length (drop (tag_length t) rest)
        → tag_length t ≤ length rest
        → tag_length t + span (walk_in n s p (drop (tag_length t) rest)) ≤ length rest
    behind s p ih h = omega (arith, length-drop (tag_length t) rest)

    go : ((s p : ℕ) → span (walk_in n s p (drop (tag_length t) rest)) ≤ length (drop (tag_length t) rest))
        → (k : Class) → class_of t (length rest) ≡ k → span (step_of (walk_in n) k t sum rest) ≤ length rest
    go ih past k = omega arith
    go ih invalid k = omega arith
    go ih entry k = let s = crc sum (take (tag_length t) rest) in behind s t (ih s t)
        (entry_says t (length rest) k).0.fits
    go ih check k = fit (eqb (crc sum (take 4 rest)) (le32 (drop 4 rest)))
      where
        fit : (q : Bool) → span (checked (walk_in n) q t rest) ≤ length rest
        fit true = behind all_ones (tag_flipped t) (ih all_ones (tag_flipped t)) (check_says t (length rest) k).0.fits
        fit false = omega arith

pub log_within : (b : List ℕ) → 4 ≤ length b → 4 + span (log b) ≤ length b
unfolding log walk walk_from
log_within b h =
    let s = crc all_ones (take 4 b) in
    omega (
      arith,
      span_committed (walk_in (suc (length (drop 4 b))) s all_ones (drop 4 b)),
      span_walk (suc (length (drop 4 b))) s all_ones (drop 4 b),
      length-drop 4 b,
    )

-- and so does the end of what a walk adds to it
pub again_within : (b : List ℕ) (k : Taken) → k.off ≤ length b
    → k.off + span (committed (walk_again b k)) ≤ length b
unfolding walk_from
again_within b k h =
    omega (
      arith,
      span_committed (walk_in (suc (length (drop k.off b))) all_ones k.etag (drop k.off b)),
      span_walk (suc (length (drop k.off b))) all_ones k.etag (drop k.off b),
      length-drop k.off b,
    )
