-- A log goes on where it ended: whatever stands behind what was read of it, a walk meets its events again and goes on
-- at its end, the checksum restarted. What is read reaches to the end, and to the last check's four bytes, which pass
-- an end that is less than eight bytes behind the check's tag. Assumes nothing.
use Rattle.std.specs.Prelude.{◌≡◌, refl, ◌≢◌, Bool, true, false, ℕ, ◌+◌, ◌-◌, ◌≤◌, take, drop}
use Rattle.std.proofs.Common.{sym, ◌∙◌, drop-drop}
use Rattle.std.proofs.Math.Path.{ap}
use mathlib.Core.List.{List, [], ◌∷◌, ◌++◌}
use native.Mathlib.Omega.{arith}
use Rattle.std.proofs.Math.ListN.{length, length-drop}
use Rattle.std.proofs.Math.Seq.{drop-append-le}
use Rattle.std.proofs.lemmas.List.{take-append-le}
use Rattle.format.specs.Word.{all_ones}
use Rattle.format.specs.Tag.{tag_length, tag_flipped}
use Rattle.format.specs.Kind.{is_check}
use Rattle.format.specs.Crc.{crc}
use Rattle.format.specs.Walk.{Event, ent, chk, inv, walk_from, walk}
use Rattle.format.specs.Log.{committed, log, event_length, span, tag_after, log_end, log_end_tag, stopped_straight}
use Rattle.format.proofs.Words.{tag_length_ge}
use Rattle.format.proofs.Tags.{flipped_check, flipped_length}
use Rattle.format.proofs.Classes.{behind_check}
use Rattle.theory.specs.Walk.Step.{meets_entry, meets_check, meets_invalid}
use Rattle.theory.specs.Walk.Locality.{head_ent, head_chk, AllContained}
use Rattle.theory.specs.Log.Committed.{kept_same, kept_more, committed_app, committed_split}
use Rattle.theory.specs.Log.Committed.{committed_twice}

-- how far a log is read, from the previous tag p
abbrev pub read_to : ℕ → List Event → ℕ
read_to p es = span es + (8 - tag_length (tag_after p es))

-- a log that is not empty ends in a check, whose tag and checksum are eight bytes
reads_eight : (es : List Event) (p : ℕ) → committed es ≡ es → es ≢ [] → 8 ≤ read_to p es
unfolding committed span event_length tag_after
reads_eight [] p h n = absurd (n refl)
reads_eight (ent t d ∷ es) p h n =
    omega (arith, reads_eight es t (kept_same (ent t d) (committed es) es h) (kept_more (ent t d) (committed es) es h))
reads_eight (chk t c ∷ []) p h n = omega (arith, flipped_length t)
reads_eight (chk t c ∷ e ∷ es) p h n =
    omega (arith, reads_eight (e ∷ es) (tag_flipped t) (cc) (λ q. let z : ◌≡◌ {A = ℕ} 0 1 = cc in omega arith))
reads_eight (inv ∷ es) p h n =
    omega (arith, reads_eight es p (kept_same inv (committed es) es h) (kept_more inv (committed es) es h))

pub some_long : (es : List Event) → committed es ≡ es → es ≢ [] → 4 ≤ span es
unfolding committed span event_length
some_long [] h n = absurd (n refl)
some_long (ent t d ∷ es) h n = omega (arith, tag_length_ge t)
some_long (chk t c ∷ es) h n = omega (arith, tag_length_ge t)
some_long (inv ∷ es) h n =
    omega (arith, some_long es (kept_same inv (committed es) es h) (kept_more inv (committed es) es h))

front_none : (es more : List Event) → es ++ more ≡ [] → es ≡ []
front_none [] more h = refl
front_none (e ∷ es) more h = cc

behind : (a y : List ℕ) (n k : ℕ) → n ≤ length a → drop k (drop n a ++ y) ≡ drop (n + k) (a ++ y)
behind a y n k h = rw (← drop-append-le n a y h) (drop-drop k n (a ++ y))

-- the log es of a walk over a ++ x, of which a holds all that is read; y in the place of x
pub continues : (es more : List Event) (sum p : ℕ) (a x y : List ℕ) → walk_from sum p (a ++ x) ≡ es ++ more
    → committed es ≡ es → (es ≡ [] → sum ≡ all_ones) → read_to p es ≤ length a
    → walk_from sum p (a ++ y) ≡ es ++ walk_from all_ones (tag_after p es) (drop (span es) (a ++ y))
unfolding committed span event_length tag_after
continues [] more sum p a x y e h n r = rw (n refl)
continues (ent t d ∷ es) more sum p a x y e h n r =
    let some = kept_more (ent t d) (committed es) es h in
    let whole = kept_same (ent t d) (committed es) es h in
    let eight = reads_eight es t whole some in
    let fits : tag_length t ≤ length a = omega arith in
    let front = head_ent sum p t d (es ++ more) a x y e (λ w. omega (arith, tag_length_ge t)) fits in
    let on = continues es more (crc sum (take (tag_length t) a)) t (drop (tag_length t) a) x y (sym front.0) whole
    (λ q. absurd (some q)) (omega (arith, length-drop (tag_length t) a)) in
    front.1 ∙ ap (λ (l : List Event). ent t d ∷ l) (on ∙ ap (λ (l : List ℕ). es ++ walk_from all_ones (tag_after t es) l)
    (behind a y (tag_length t) (span es) fits))
continues (chk t c ∷ []) more sum p a x y e h n r =
    (head_chk sum p t c more a x y e (omega (arith, flipped_length t)) (omega arith)).1
    ∙ ap (λ (l : List ℕ). chk t c ∷ walk_from all_ones (tag_flipped t) l) (behind a y (tag_length t) 0 (omega arith))
continues (chk t c ∷ e' ∷ es) more sum p a x y e h n r =
    let whole : committed (e' ∷ es) ≡ e' ∷ es = cc in
    let eight = reads_eight (e' ∷ es) (tag_flipped t) whole (λ q. let z : ◌≡◌ {A = ℕ} 0 1 = cc in omega arith) in
    let fits : tag_length t ≤ length a = omega arith in
    let front = head_chk sum p t c (e' ∷ es ++ more) a x y e (omega arith) fits in
    let on = continues (e' ∷ es) more all_ones (tag_flipped t) (drop (tag_length t) a) x y (sym front.0) whole
    (λ q. refl) (omega (arith, length-drop (tag_length t) a)) in
    front.1 ∙ ap (λ (l : List Event). chk t c ∷ l) (on
    ∙ ap (λ (l : List ℕ). e' ∷ es ++ walk_from all_ones (tag_after (tag_flipped t) (e' ∷ es)) l)
    (behind a y (tag_length t) (span (e' ∷ es)) fits))
continues (inv ∷ es) more sum p a x y e h n r = absurd (kept_more inv (committed es) es h
    (front_none es more (meets_invalid sum p (a ++ x) (es ++ more) e)))

-- all that is read lies in what was walked
pub read_within : (es more : List Event) (sum p : ℕ) (rest : List ℕ) → walk_from sum p rest ≡ es ++ more
    → committed es ≡ es → es ≢ [] → read_to p es ≤ length rest
unfolding committed span event_length tag_after
read_within [] more sum p rest e h n = absurd (n refl)
read_within (ent t d ∷ es) more sum p rest e h n =
    let m = meets_entry sum p rest t d (es ++ more) e in
    let on = read_within es more (crc sum (take (tag_length t) rest)) t (drop (tag_length t) rest) (sym m.next)
    (kept_same (ent t d) (committed es) es h) (kept_more (ent t d) (committed es) es h) in
    omega (arith, m.whole.fits, length-drop (tag_length t) rest)
read_within (chk t c ∷ []) more sum p rest e h n =
    let m = meets_check sum p rest t c more e in
    omega (arith, m.whole.fits, m.whole.reach, behind_check t m.is, flipped_length t)
read_within (chk t c ∷ e' ∷ es) more sum p rest e h n =
    let m = meets_check sum p rest t c (e' ∷ es ++ more) e in
    let on = read_within (e' ∷ es) more all_ones (tag_flipped t) (drop (tag_length t) rest) (sym m.next) (cc)
    (λ q. let z : ◌≡◌ {A = ℕ} 0 1 = cc in omega arith) in
    omega (arith, m.whole.fits, length-drop (tag_length t) rest)
read_within (inv ∷ es) more sum p rest e h n = absurd (kept_more inv (committed es) es h
    (front_none es more (meets_invalid sum p rest (es ++ more) e)))

-- the end tag is a check's: behind a log the walk is straight after a commit
pub straight_behind : (es more : List Event) (sum p : ℕ) (rest : List ℕ) → walk_from sum p rest ≡ es ++ more
    → committed es ≡ es → (a : Bool) → (es ≡ [] → a ≡ is_check p) → (on : List Event)
    → stopped_straight a (es ++ on) ≡ stopped_straight (is_check (tag_after p es)) on
unfolding committed tag_after stopped_straight
straight_behind [] more sum p rest e h a n on = rw (n refl)
straight_behind (ent t d ∷ es) more sum p rest e h a n on =
    let m = meets_entry sum p rest t d (es ++ more) e in
    straight_behind es more (crc sum (take (tag_length t) rest)) t (drop (tag_length t) rest) (sym m.next)
    (kept_same (ent t d) (committed es) es h) false (λ q. absurd (kept_more (ent t d) (committed es) es h q)) on
straight_behind (chk t c ∷ es) more sum p rest e h a n on =
    let m = meets_check sum p rest t c (es ++ more) e in
    straight_behind es more all_ones (tag_flipped t) (drop (tag_length t) rest) (sym m.next) (cc) true
    (λ q. sym (flipped_check t ∙ m.is)) on
straight_behind (inv ∷ es) more sum p rest e h a n on = absurd (kept_more inv (committed es) es h
    (front_none es more (meets_invalid sum p rest (es ++ more) e)))

-- ---- of a block
-- how far its log is read
abbrev pub log_read : List Event → ℕ
log_read es = log_end es + (8 - tag_length (log_end_tag es))

pub log_whole : (b : List ℕ) → committed (log b) ≡ log b
unfolding log
log_whole b = committed_twice (walk b)

pub log_read_within : (b : List ℕ) → 4 ≤ length b → log b ≢ [] → log_read (log b) ≤ length b
unfolding log walk
log_read_within b four n =
    let r = committed_split (walk b) in
    omega (
      arith,
      read_within (log b) r.0 (crc all_ones (take 4 b)) all_ones (drop 4 b) r.1 (log_whole b) n,
      length-drop 4 b,
    )

pub log_straight : (b : List ℕ) (on : List Event)
    → stopped_straight false (log b ++ on) ≡ stopped_straight (is_check (log_end_tag (log b))) on
unfolding log walk
log_straight b on =
    let r = committed_split (walk b) in
    straight_behind (log b) r.0 (crc all_ones (take 4 b)) all_ones (drop 4 b) r.1 (log_whole b) false (λ q. refl) on

-- `pre` holds all that is read of the log es of pre ++ x; whatever stands behind it
module _ (pre x : List ℕ) (es : List Event) (is : log (pre ++ x) ≡ es) (some : es ≢ [])
    (known : log_read es ≤ length pre) (y : List ℕ) where
  whole : committed es ≡ es
  whole = rw is at (log_whole (pre ++ x))

  pub walk_continues : walk (pre ++ y) ≡ es ++ walk_from all_ones (log_end_tag es) (drop (log_end es) (pre ++ y))
  unfolding log walk
  walk_continues =
      let four : 4 ≤ length pre = omega arith in
      let there : committed (walk_from (crc all_ones (take 4 pre)) all_ones (drop 4 pre ++ x)) ≡ es =
      rw (take-append-le 4 pre x four, drop-append-le 4 pre x four) at is in
      let r = committed_split (walk_from (crc all_ones (take 4 pre)) all_ones (drop 4 pre ++ x)) in
      rw (take-append-le 4 pre y four, drop-append-le 4 pre y four)
      (continues es r.0 (crc all_ones (take 4 pre)) all_ones (drop 4 pre) x y (rw there at r.1) whole (λ q. absurd
      (some q))
      (omega (arith, length-drop 4 pre))
      ∙ ap (λ (l : List ℕ). es ++ walk_from all_ones (log_end_tag es) l) (behind pre y 4 (span es) four))

  pub log_continues : log (pre ++ y)
      ≡ es ++ committed (walk_from all_ones (log_end_tag es) (drop (log_end es) (pre ++ y)))
  unfolding log
  log_continues = rw walk_continues
      (committed_app es (walk_from all_ones (log_end_tag es) (drop (log_end es) (pre ++ y))) whole)

-- ---- a log whose checks hold their four bytes is read to its end
pub contained_end : (es : List Event) (p : ℕ) → committed es ≡ es → es ≢ [] → AllContained es
    → 8 ≤ tag_length (tag_after p es)
unfolding committed tag_after
contained_end [] p h n c = absurd (n refl)
contained_end (ent t d ∷ es) p h n c = contained_end es t (kept_same (ent t d) (committed es) es h)
    (kept_more (ent t d) (committed es) es h) c.1
contained_end (chk t x ∷ []) p h n c = omega (arith, flipped_length t, c.0)
contained_end (chk t x ∷ e ∷ es) p h n c = contained_end (e ∷ es) (tag_flipped t) (cc)
    (λ q. let z : ◌≡◌ {A = ℕ} 0 1 = cc in omega arith) c.1
contained_end (inv ∷ es) p h n c = absurd c.0
