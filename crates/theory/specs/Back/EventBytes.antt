-- What a block's events say of its bytes: each tag stands where the one before it ends, chained to it, and an entry's
-- bytes behind it. And what a committed log is made of: valid tags, checks, entries with all their bytes, and no
-- invalid tag. Assumes nothing.
use Rattle.std.specs.Prelude.{◌≡◌, refl, Bool, true, false, cond, List, [], ◌∷◌, ◌++◌, ℕ, ◌+◌, ◌-◌, ◌^◌, ◌≤◌, ◌<◌, take, drop, length}
use Rattle.std.proofs.Common.{sym, arith, length-drop, drop-drop}
use Rattle.format.specs.Word.{all_ones}
use Rattle.format.specs.Tag.{tag_length, tag_flipped}
use Rattle.format.specs.Kind.{is_check, is_wide}
use Rattle.format.specs.Crc.{crc}
use Rattle.format.specs.Walk.{Event, body_length, walk_from, walk, ent, chk, inv}
use Rattle.format.specs.Log.{kept_before, committed, log, event_length, span}
use Rattle.theory.specs.Walk.Step.{meets_entry, meets_check, entry_length, meets_invalid}
use Rattle.theory.specs.Walk.Locality.{AllContained}
use Rattle.theory.specs.Back.WalkBack.{Chain}

body_is : (t : ℕ) → (is_wide t ≡ true → tag_length t ≡ 12) → tag_length t - 4 ≡ body_length t
unfolding body_length
body_is t w = go (is_wide t) w
  where
    go : (x : Bool) → (x ≡ true → tag_length t ≡ 12) → tag_length t - 4 ≡ cond x 8 (tag_length t - 4)
    go true k = omega (arith, k refl)
    go false k = refl

-- what each event says, with the bytes
abbrev pub Told : List ℕ → ℕ → List Event → Type 0
Told b off [] = Unit {0}
Told b off (ent t d ∷ es) = ((is_wide t ≡ true → tag_length t ≡ 12) → d ≡ take (tag_length t - 4) (drop 4 (drop off b)))
    × Told b (off + tag_length t) es
Told b off (chk t c ∷ es) = (is_check t ≡ true) × Told b (off + tag_length t) es
Told b off (inv ∷ es) = ⊥

pub chains : (es more : List Event) (sum p : ℕ) (b : List ℕ) (off : ℕ) → walk_from sum p (drop off b) ≡ es ++ more
    → AllContained es
    → Chain b off p es × (span es ≤ length (drop off b)) × Told b off es
unfolding span event_length
chains [] more sum p b off e reg = (tt, omega arith, tt)
chains (ent t d ∷ es) more sum p b off e reg =
    let m = meets_entry sum p (drop off b) t d (es ++ more) e in
    let r = chains es more (crc sum (take (tag_length t) (drop off b))) t b (off + tag_length t)
    (rw (← drop-drop (tag_length t) off b) (sym m.next)) reg.1 in (
      ((m.raw, m.whole.small), r.0),
      omega (arith, r.1, m.whole.fits, length-drop off b, length-drop (off + tag_length t) b),
      (λ w. rw (body_is t w) m.bytes, r.2),
    )
chains (chk t c ∷ es) more sum p b off e reg =
    let m = meets_check sum p (drop off b) t c (es ++ more) e in
    let r = chains es more all_ones (tag_flipped t) b (off + tag_length t)
    (rw (← drop-drop (tag_length t) off b) (sym m.next)) reg.1 in (
      ((m.raw, m.whole.small), r.0),
      omega (arith, r.1, m.whole.fits, length-drop off b, length-drop (off + tag_length t) b),
      (m.is, r.2),
    )
chains (inv ∷ es) more sum p b off e reg = absurd reg.0

-- ---- the events of a committed log
abbrev pub Stands : List Event → Type 0
Stands [] = Unit {0}
Stands (ent t d ∷ es) = ((t < 2 ^ 31) × (length d ≡ body_length t)) × Stands es
Stands (chk t c ∷ es) = ((t < 2 ^ 31) × (is_check t ≡ true)) × Stands es
Stands (inv ∷ es) = ⊥

committed_stands : (es : List Event) (sum p : ℕ) (rest : List ℕ) → walk_from sum p rest ≡ es → Stands (committed es)
unfolding committed
committed_stands [] sum p rest e = tt
committed_stands (ent t d ∷ es) sum p rest e =
    let m = meets_entry sum p rest t d es e in
    go (committed es) m.whole.small (entry_length m)
    (committed_stands es (crc sum (take (tag_length t) rest)) t (drop (tag_length t) rest) (sym m.next))
  where
    go : (l : List Event) → t < 2 ^ 31 → length d ≡ body_length t → Stands l → Stands (kept_before (ent t d) l)
    go [] s n h = tt
    go (x ∷ l) s n h = ((s, n), h)
committed_stands (chk t c ∷ es) sum p rest e =
    let m = meets_check sum p rest t c es e in
    ((m.whole.small, m.is), committed_stands es all_ones (tag_flipped t) (drop (tag_length t) rest) (sym m.next))
committed_stands (inv ∷ es) sum p rest e = rw (meets_invalid sum p rest es e) tt

pub log_stands : (b : List ℕ) → Stands (log b)
unfolding log walk
log_stands b = committed_stands (walk_from (crc all_ones (take 4 b)) all_ones (drop 4 b)) (crc all_ones (take 4 b)) all_ones
    (drop 4 b) refl
