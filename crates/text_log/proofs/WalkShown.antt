-- A turn of the loop over a walk: what is left to show, from where the text stands; and the data behind a tag, as the
-- code cuts them. Assumes nothing.
use mathlib.Core.Path.{◌≡◌, sym, ap, ◌∙◌}
use mathlib.Core.Bool.{Bool}
use mathlib.Core.List.{List, ◌∷◌, ◌++◌}
use Prim.Native.Nat.{ℕ, ◌+◌, ◌-◌, ◌^◌, ◌≤◌}
use native.Mathlib.Omega.{arith}
use lib.Bits.{bit_xor}
use lib.ListN.{length, take, drop, length-drop, length-take}
use lib.Seq.{drop-drop}
use Rattle.format.specs.Word.{be32, xor, all_ones}
use Rattle.format.specs.Tag.{tag_length}
use Rattle.format.specs.Crc.{crc}
use Rattle.format.specs.Walk.{ent, chk, body_of, walk}
use Rattle.format.specs.RawLog.{data_of, entry_text, check_text, stop_behind, event_texts}
use Rattle.format.proofs.Words.{tag_length_ge}
use Rattle.fetch_walk.specs.Next.{next_of, start_of, tag_at}
use Rattle.fetch_walk.specs.State.{from}
use Rattle.fetch_walk.specs.declared.cursor.Cursor.{Cursor}
use Rattle.std.proofs.Common.{◌⊎◌, inl, inr}
use Rattle.fetch_walk.specs.declared.cursor.Seen.{Seen}
use Rattle.fetch_walk.specs.declared.cursor.Seen.TheVariants.{Entry, Check, Invalid, Past}
use Rattle.fetch_walk.proofs.Seen.{length_most, follow, from_next, entry_seen, check_seen_lem}
use Rattle.text.specs.declared.Text.{Text}
use Rattle.text.specs.Put.{Puts}
use Rattle.text.proofs.Joined.{puts_both}
use Rattle.text_log.specs.Part.{Placed}
use Rattle.text_log.specs.Events.{texts_from}

-- ---- the data behind a tag; n is what `lfs_tag_dsize` answers
pub data_cut : (b : List ℕ) (place t n : ℕ) → n ≡ tag_length t
    → take (place + n - (place + 4)) (drop (place + 4) b) ≡ data_of t (drop place b)
data_cut b place t n en =
    let e : place + n - (place + 4) ≡ tag_length t - 4 = omega (arith, en) in
    ap (λ (k : ℕ). take k (drop (place + 4) b)) e ∙ ap (take (tag_length t - 4)) (sym (drop-drop 4 place b))

pub data_short : (t : ℕ) (l : List ℕ) → length (data_of t l) ≤ 1_022
data_short t l = omega (arith, length-take (tag_length t - 4) (drop 4 l), length_most t)

-- ---- the start
pub texts_start : (full : Bool) (b : List ℕ) (c : Cursor) → c ≡ start_of b
    → texts_from full b c ≡ event_texts full 4 all_ones (crc all_ones (take 4 b)) (drop 4 b) (walk b)
unfolding texts_from start_of from walk
texts_start full b c e = rw e

-- ---- a turn: a is where the whole text of the walk ends
module _ (full : Bool) (b : List ℕ) (c : Cursor) where
  entry_step : {t : ℕ} {d : Cursor} → next_of b c ≡ Entry t d → texts_from full b c
      ≡ entry_text full c.at t (drop c.at b) ++ texts_from full b d
  unfolding texts_from event_texts
  entry_step {t} {d} e =
      let s = entry_seen b c e in
      let f : from b c ≡ ent t (body_of t (drop c.at b)) ∷ from b d = from_next b c ∙ ap (follow b c) e in
      let g : drop (tag_length t) (drop c.at b) ≡ drop d.at b = drop-drop (tag_length t) c.at b
      ∙ ap (λ (n : ℕ). drop n b) (sym s.end) in
      rw f (λ i. entry_text full c.at t (drop c.at b) ++ event_texts full (sym s.end i) (sym s.prev i)
      (sym s.sum i) (g i) (from b d))

  check_step : {x : ℕ} {d : Cursor} → next_of b c ≡ Check x d → texts_from full b c
      ≡ check_text full c.at (tag_at b c) x (drop c.at b) ++ texts_from full b d
  unfolding texts_from event_texts
  check_step {x} {d} e =
      let s = check_seen_lem b c e in
      let f : from b c ≡ chk (tag_at b c) x ∷ from b d = from_next b c ∙ ap (follow b c) e in
      let g : drop (tag_length (tag_at b c)) (drop c.at b) ≡ drop d.at b =
      drop-drop (tag_length (tag_at b c)) c.at b ∙ ap (λ (n : ℕ). drop n b) (sym s.end) in
      rw f (λ i. check_text full c.at (tag_at b c) x (drop c.at b) ++ event_texts full (sym s.end i)
      (sym s.prev i) (sym s.sum i) (g i) (from b d))

  -- s is where the text stands, r behind what is shown of the turn, u at the end of all
  module _ (s r u : Text) where
    pub turn_entry : {t : ℕ} {d : Cursor} → next_of b c ≡ Entry t d → Puts s r (entry_text full c.at t (drop c.at b))
        → Puts r u (texts_from full b d) → Puts s u (texts_from full b c)
    turn_entry {t} {d} e p q =
        rw (entry_step e) (puts_both s r u (entry_text full c.at t (drop c.at b)) (texts_from full b d) p q)

    -- w is what `be32` answers
    pub turn_check : {x : ℕ} {d : Cursor} (w : ℕ) → next_of b c ≡ Check x d → w ≡ be32 (drop c.at b)
        → Puts s r (check_text full c.at (bit_xor w c.prev) x (drop c.at b)) → Puts r u (texts_from full b d)
        → Puts s u (texts_from full b c)
    unfolding xor
    turn_check {x} {d} w e ew p q =
        let t : bit_xor w c.prev ≡ tag_at b c = ap (λ (y : ℕ). xor y c.prev) ew in
        rw (check_step e, ← t)
        (puts_both s r u (check_text full c.at (bit_xor w c.prev) x (drop c.at b)) (texts_from full b d) p q)

  -- x is what `next` answers
  pub turn_stops : (x : Seen) → x ≡ next_of b c → (x ≡ Invalid) ⊎ (x ≡ Past)
      → stop_behind c.at c.prev c.sum (drop c.at b) ≡ texts_from full b c
  unfolding texts_from event_texts
  turn_stops x ex (inl e) = rw (from_next b c ∙ ap (follow b c) (sym ex ∙ e))
  turn_stops x ex (inr e) = rw (from_next b c ∙ ap (follow b c) (sym ex ∙ e))

-- ---- what the loop's needs want of what was seen
module _ (b : List ℕ) (c : Cursor) where
  pub entry_placed : {t : ℕ} {d : Cursor} → length b ≤ 2 ^ 16 → next_of b c ≡ Entry t d → Placed b c.at t
  entry_placed {t} {d} m e =
      let s = entry_seen b c e in
      record { most = m; whole = omega (arith, length-drop c.at b, s.whole.fits, tag_length_ge t) }

  pub check_placed : {x : ℕ} {d : Cursor} (w : ℕ) → w ≡ be32 (drop c.at b) → length b ≤ 2 ^ 16 → next_of b c ≡ Check
      x d
      → Placed b c.at (bit_xor w c.prev)
  unfolding xor
  check_placed {x} {d} w ew m e =
      let s = check_seen_lem b c e in
      let t : tag_at b c ≡ bit_xor w c.prev = sym (ap (λ (y : ℕ). xor y c.prev) ew) in
      let whole : c.at + tag_length (tag_at b c) ≤ length b =
      omega (arith, length-drop c.at b, s.whole.fits, tag_length_ge (tag_at b c)) in
      record { most = m; whole = omega (arith, ap tag_length t) }
