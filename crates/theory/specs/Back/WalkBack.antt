-- The walk back over a block's bytes meets the log's tags, newest first. Assumes nothing.
use Rattle.std.specs.Prelude.{◌≡◌, refl, ℕ, ◌+◌, ◌-◌, ◌%◌, ◌^◌, ◌≤◌, ◌<◌, drop}
use mathlib.Core.List.{List, [], ◌∷◌, reverse, reverse_aux}
use Rattle.std.proofs.Common.{add-zero, add_assoc, arith, le-leb}
use Rattle.format.specs.Word.{be32, xor, all_ones}
use Rattle.format.specs.Tag.{tag_length, tag_flipped}
use Rattle.format.specs.Walk.{Event, ent, chk, inv}
use Rattle.format.specs.Log.{event_length, span, tag_after, log_end, log_end_tag}
use Rattle.format.specs.Back.{Met, backs, back, places}
use Rattle.format.proofs.Tags.{xor_back, flipped_low}
use Rattle.format.proofs.Back.{back_step}

-- each tag of a log is the raw one against the one before
abbrev pub Link : List ℕ → ℕ → ℕ → ℕ → Type 0
Link b off p t = (xor (be32 (drop off b)) p ≡ t) × (t < 2 ^ 31)

abbrev pub Chain : List ℕ → ℕ → ℕ → List Event → Type 0
Chain b off p [] = Unit {0}
Chain b off p (ent t d ∷ es) = Link b off p t × Chain b (off + tag_length t) t es
Chain b off p (chk t c ∷ es) = Link b off p t × Chain b (off + tag_length t) (tag_flipped t) es
Chain b off p (inv ∷ es) = ⊥

-- one tag back
back_one : (b : List ℕ) (off p t : ℕ) (R : List Met) → Link b off p t → 4 ≤ off → back b off (p % 2 ^ 31) ≡ R
    → back b (off + tag_length t) t ≡ record { tag = t; off = off } ∷ R
back_one b off p t R h four r =
    let e : off + tag_length t - tag_length t ≡ off = omega arith in
    rw (
      back_step b (off + tag_length t) t,
      le-leb (4 + tag_length t) (off + tag_length t) (omega arith),
      e,
      xor_back (be32 (drop off b)) p t h.0,
      r,
    )

-- all of a log
pub back_all : (es : List Event) (b : List ℕ) (off p : ℕ) (R : List Met) → Chain b off p es → 4 ≤ off
    → back b off (p % 2 ^ 31) ≡ R
    → back b (off + span es) (tag_after p es % 2 ^ 31) ≡ reverse_aux (places off es) R
unfolding span event_length tag_after places
back_all [] b off p R ch four r = rw (add-zero off) r
back_all (ent t d ∷ es) b off p R ch four r =
    let e : back b (off + tag_length t) t ≡ record { tag = t; off = off } ∷ R = back_one b off p t R ch.0 four r in
    let m : t % 2 ^ 31 ≡ t = omega (arith, ch.0.1) in
    rw (← add_assoc off (tag_length t) (span es)) (back_all es b (off + tag_length t) t
    (record { tag = t; off = off } ∷ R) ch.1 (omega arith) (rw m e))
back_all (chk t c ∷ es) b off p R ch four r =
    let e : back b (off + tag_length t) t ≡ record { tag = t; off = off } ∷ R = back_one b off p t R ch.0 four r in
    rw (← add_assoc off (tag_length t) (span es)) (back_all es b (off + tag_length t) (tag_flipped t)
    (record { tag = t; off = off } ∷ R) ch.1 (omega arith) (rw (flipped_low t ch.0.1) e))
back_all (inv ∷ es) b off p R ch four r = absurd ch

-- at a block's start nothing stands before
back_start : (b : List ℕ) → back b 4 (all_ones % 2 ^ 31) ≡ []
unfolding back backs tag_length
back_start b = refl

pub back_log : (es : List Event) (b : List ℕ) → Chain b 4 all_ones es
    → back b (log_end es) (log_end_tag es % 2 ^ 31) ≡ reverse (places 4 es)
back_log es b ch = back_all es b 4 all_ones [] ch (omega arith) (back_start b)
