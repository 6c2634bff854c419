-- A turn of the loop: what the walk from here leaves on the state now is what it leaves from the cursor before on the
-- state before. Assumes nothing.
use mathlib.Core.Path.{◌≡◌, sym, ap, ◌∙◌}
use mathlib.Core.Bool.{Bool, true, false}
use mathlib.Core.List.{List, ◌∷◌}
use Prim.Native.Nat.{ℕ, ◌+◌, ◌≤◌}
use native.Mathlib.Omega.{arith}
use lib.ListN.{length, drop, length-drop}
use lib.Seq.{drop-drop}
use Rattle.format.specs.Word.{to_le32, all_ones}
use Rattle.format.specs.Tag.{tag_length, tag_flipped}
use Rattle.format.specs.Kind.{is_check}
use Rattle.format.specs.Crc.{crc}
use Rattle.format.specs.Walk.{ent, chk, read_behind, body_of, walk}
use Rattle.format.specs.Log.{log, stopped_straight}
use Rattle.format.proofs.Words.{tag_length_ge}
use Rattle.format.proofs.Tags.{flipped_check}
use Rattle.fetch_walk.specs.Block.{walked_of, walk_again, walked_again}
use Rattle.fetch_walk.specs.Next.{next_of, start_of, tag_at}
use Rattle.fetch_walk.specs.Dir.{entered}
use Rattle.fetch_walk.specs.State.{taken_none, begun, holding, taking, from, working, step, settles, leaves}
use Rattle.fetch_walk.specs.declared.cursor.Cursor.{Cursor}
use Rattle.fetch_walk.specs.declared.cursor.Seen.TheVariants.{Entry, Check, Invalid, Past}
use Rattle.fetch_walk.specs.declared.Taken.{Taken}
use Rattle.fetch_walk.specs.declared.WalkState.{WalkState}
use Rattle.fetch_walk.specs.declared.Walked.{Walked}
use Rattle.fetch_walk.proofs.Seen.{follow, from_next, entry_seen, check_seen_lem}
use Rattle.fetch_walk.proofs.Steps.{entered_body}
use Rattle.fetch_walk.proofs.Folds.{settles_taken, settles_again}

-- c and w are what `start` and `begin` answer
pub begun_leaves : (b : List ℕ) (seed : ℕ) (c : Cursor) (w : WalkState) → c ≡ start_of b → w ≡ begun seed
    → leaves b w c ≡ walked_of b seed
unfolding leaves walked_of begun start_of from working taken_none log walk
begun_leaves b seed c w ec ew = rw (ec, ew, settles_taken seed (walk b))

-- c and w are what `walk_again` makes of what is known
pub known_leaves : (b : List ℕ) (k : Taken) (c : Cursor) (w : WalkState)
    → c ≡ record { at = k.off; prev = k.etag; sum = all_ones } → w ≡ record { dir = k.dir; taken = k }
    → leaves b w c ≡ walked_again b k
unfolding leaves walked_again from working
known_leaves b k c w ec ew = rw (ec, ew, settles_again k (walk_again b k))

-- ---- a turn
left : List ℕ → Taken → Taken → Bool → Cursor → Walked
left b h k q d = record { taken = settles h k (from b d); straight = stopped_straight q (from b d) }

module _ (b : List ℕ) (c : Cursor) (w : WalkState) (u : Walked) (so_far : u ≡ leaves b w c) where
  -- x is what `entry` answers
  pub turn_entry : {t : ℕ} {d : Cursor} (x : WalkState) → next_of b c ≡ Entry t d → x ≡ holding b t (c.at + 4) w
      → u ≡ leaves b x d
  unfolding leaves settles stopped_straight working holding left
  turn_entry {t} {d} x e ex =
      let s = entry_seen b c e in
      let f : from b c ≡ ent t (body_of t (drop c.at b)) ∷ from b d = from_next b c ∙ ap (follow b c) e in
      let h : entered t (body_of t (drop c.at b)) w.dir ≡ entered t (drop (c.at + 4) b) w.dir =
      entered_body t (drop c.at b) w.dir ∙ ap (λ (l : List ℕ). entered t l w.dir)
      (drop-drop 4 c.at b) in
      let xh : x.dir ≡ entered t (drop (c.at + 4) b) w.dir = ap (λ (y : WalkState). y.dir) ex in
      let xt : x.taken ≡ w.taken = ap (λ (y : WalkState). y.taken) ex in
      let k : step (ent t (body_of t (drop c.at b))) (working w c) ≡ working x d =
      worked t x d (h ∙ sym xh) (sym s.end) (sym s.prev) (ap (λ (y : Taken). y.seed) (sym xt)) in
      let q : false ≡ is_check d.prev = sym (ap is_check s.prev ∙ s.plain) in
      let y : w.taken ≡ x.taken = sym xt in
      so_far ∙ rw f (λ i. left b (k i) (y i) (q i) d)
    where
      worked : (t : ℕ) (x : WalkState) (d : Cursor) → entered t (body_of t (drop c.at b)) w.dir ≡ x.dir
          → c.at + tag_length t ≡ d.at → t ≡ d.prev → w.taken.seed ≡ x.taken.seed
          → step (ent t (body_of t (drop c.at b))) (working w c) ≡ working x d
      worked t x d e1 e2 e3 e4 = λ i. record { dir = e1 i; off = e2 i; etag = e3 i; seed = e4 i }

  -- v is what `commit` answers
  pub turn_check : {x : ℕ} {d : Cursor} (v : WalkState) → next_of b c ≡ Check x d → v ≡ taking x d w → u ≡ leaves b v d
  unfolding leaves settles stopped_straight working taking left
  turn_check {x} {d} v e ev =
      let s = check_seen_lem b c e in
      let f : from b c ≡ chk (tag_at b c) x ∷ from b d = from_next b c ∙ ap (follow b c) e in
      let k : step (chk (tag_at b c) x) (working w c) ≡ working (taking x d w) d =
      worked x d (sym s.end) (sym s.prev) in
      let q : true ≡ is_check d.prev = sym (ap is_check s.prev ∙ flipped_check (tag_at b c) ∙ s.is) in
      so_far ∙ rw f (λ i. left b (k i) (k i) (q i) d) ∙ ap (λ (y : WalkState). leaves b y d) (sym ev)
    where
      worked : (x : ℕ) (d : Cursor) → c.at + tag_length (tag_at b c) ≡ d.at → tag_flipped (tag_at b c) ≡ d.prev
          → step (chk (tag_at b c) x) (working w c) ≡ working (taking x d w) d
      worked x d e2 e3 = λ i. record { dir = w.dir; off = e2 i; etag = e3 i; seed = crc w.taken.seed (to_le32 x) }

  -- q is what `is_check` answers
  pub turn_invalid : (q : Bool) → next_of b c ≡ Invalid → q ≡ is_check c.prev
      → record { taken = w.taken; straight = q } ≡ u
  unfolding leaves settles stopped_straight
  turn_invalid q e eq = sym (so_far ∙ rw (from_next b c ∙ ap (follow b c) e, eq))

  pub turn_past : next_of b c ≡ Past → record { taken = w.taken; straight = false } ≡ u
  unfolding leaves settles stopped_straight
  turn_past e = sym (so_far ∙ rw (from_next b c ∙ ap (follow b c) e))

-- ---- what the loop's needs want of what was seen
module _ (b : List ℕ) (c : Cursor) where
  pub record Moved (d : Cursor) : Type 0 where
    pub low : c.at + 4 ≤ d.at
    pub high : d.at ≤ length b

  pub entry_moved : {t : ℕ} {d : Cursor} → next_of b c ≡ Entry t d → Moved d
  entry_moved {t} {d} e =
      let s = entry_seen b c e in
      record {
        low = omega (arith, tag_length_ge t, s.end);
        high = omega (arith, length-drop c.at b, s.end, s.whole.fits, tag_length_ge t);
      }

  pub entry_room : {t : ℕ} {d : Cursor} → next_of b c ≡ Entry t d → c.at + 4 + read_behind t ≤ length b
  entry_room {t} {d} e = let s = entry_seen b c e in omega (arith, length-drop c.at b, s.whole.reach)

  pub check_moved : {x : ℕ} {d : Cursor} → next_of b c ≡ Check x d → Moved d
  check_moved {x} {d} e =
      let s = check_seen_lem b c e in
      record {
        low = omega (arith, tag_length_ge (tag_at b c), s.end);
        high = omega (arith, length-drop c.at b, s.end, s.whole.fits, tag_length_ge (tag_at b c));
      }
