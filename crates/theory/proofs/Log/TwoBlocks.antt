-- Demand 3 of two blocks: an append or a compaction stopped after any store, and the view behind a finished one.
-- Assumes nothing.
use Rattle.std.specs.Prelude.{◌≡◌, ◌≢◌, ◌⊎◌, Bool, not, List, [], ◌++◌, ℕ, zero, suc, ◌^◌, ◌<◌}
use Rattle.std.proofs.Common.{sym, ap, ◌∙◌, inl, inr, append_assoc, arith}
use Rattle.format.specs.Word.{le32, to_le32, all_ones, plus32}
use Rattle.format.specs.Crc.{crc}
use Rattle.format.specs.Walk.{Event, chk}
use Rattle.format.specs.Log.{log, log_end_tag}
use Rattle.format.specs.View.{at}
use Rattle.format.specs.Commit.{Item, commit_bytes, commit_sum}
use Rattle.format.specs.Erased.{erased}
use Rattle.format.specs.Stores.{fill, compact_bytes, compacted, compacting}
use Rattle.format.proofs.Words.{le32_to_le32}
use Rattle.theory.specs.Walk.Locality.{le32_front}
use Rattle.theory.specs.Log.Stores.{Appends, room, filled, commit_events, CommitFits}
use Rattle.theory.proofs.Log.Stores.{append_cut, append_done}
use Rattle.theory.proofs.Log.Stores.{compact_cut, compact_done}
use Rattle.theory.specs.Log.TwoBlocks.{app_some, view_alone, view_at, view_grow, view_next, view_same, written_some}

-- DEMAND 3, append: after any number k of stores
pub crash_append : (e : ℕ) (w : Bool) (o pre : List ℕ) (M : ℕ) (v : ℕ) (es : List Event) (is : List Item) (ct m k : ℕ)
    → view_at w (pre ++ erased e M) o ≡ at w v es → Appends e pre M es is ct m
    → (pre ++ room e all_ones (log_end_tag es) is ct m k ≡ pre ++ filled e all_ones (log_end_tag es) is ct m)
    ⊎ (view_at w (pre ++ room e all_ones (log_end_tag es) is ct m k) o ≡ at w v es)
crash_append e w o pre M v es is ct m k h a = go (append_cut e pre M es is ct m k a)
  where
    X : List ℕ
    X = room e all_ones (log_end_tag es) is ct m k

    go : (X ≡ filled e all_ones (log_end_tag es) is ct m) ⊎ (log (pre ++ X) ≡ es)
        → (pre ++ X ≡ pre ++ filled e all_ones (log_end_tag es) is ct m) ⊎ (view_at w (pre ++ X) o ≡ at w v es)
    go (inl q) = inl (ap (λ z. pre ++ z) q)
    go (inr q) = inr (view_same w (pre ++ X) (pre ++ erased e M) o
        (le32_front pre X (erased e M) (omega (arith, a.end)))
        (q ∙ sym a.old) ∙ h)

pub done_append : (e : ℕ) (w : Bool) (o pre : List ℕ) (M : ℕ) (v : ℕ) (es : List Event) (is : List Item) (ct m : ℕ)
    → view_at w (pre ++ erased e M) o ≡ at w v es → Appends e pre M es is ct m
    → view_at w (pre ++ filled e all_ones (log_end_tag es) is ct m) o ≡ at w v
    (es ++ commit_events all_ones (log_end_tag es) is ct)
done_append e w o pre M v es is ct m h a =
    let Y : List ℕ = filled e all_ones (log_end_tag es) is ct m in
    let d : log (pre ++ Y) ≡ es ++ commit_events all_ones (log_end_tag es) is ct = append_done e pre M es is ct m a in
    let n : log (pre ++ Y) ≢ [] = rw d (app_some es (commit_events all_ones (log_end_tag es) is ct) a.nonempty) in
    view_grow w (pre ++ erased e M) (pre ++ Y) o v es h (le32_front pre (erased e M) Y (omega (arith, a.end))) n
    ∙ ap (λ z. at w v z) d

-- DEMAND 3, compaction: the other block after n stores; the first is the erase
pub crash_compact : (e : ℕ) (w : Bool) (x o : List ℕ) (v : ℕ) (es : List Event) (is : List Item) (ct m n : ℕ)
    → view_at w x o ≡ at w v es → CommitFits e (crc all_ones (to_le32 (plus32 v 1))) all_ones is ct m
    → (compacting e o (plus32 v 1) is ct m n ≡ compacted e (plus32 v 1) is ct m)
    ⊎ (view_at w x (compacting e o (plus32 v 1) is ct m n) ≡ at w v es)
unfolding compacting
crash_compact e w x o v es is ct m zero h f = inr h
crash_compact e w x o v es is ct m (suc k) h f = go (compact_cut e (plus32 v 1) is ct m k f)
  where
    X : List ℕ
    X = fill e k (compact_bytes (plus32 v 1) is ct) ++ erased e m

    go : (X ≡ compacted e (plus32 v 1) is ct m) ⊎ (log X ≡ [])
        → (X ≡ compacted e (plus32 v 1) is ct m) ⊎ (view_at w x X ≡ at w v es)
    go (inl q) = inl q
    go (inr q) = inr (view_alone w x o X v es h q)

compacted_rev : (e rev : ℕ) (is : List Item) (ct m : ℕ) → le32 (compacted e rev is ct m) ≡ rev
unfolding compacted compact_bytes
compacted_rev e rev is ct m =
    let N : List ℕ = commit_bytes (crc all_ones (to_le32 rev)) all_ones is ct in
    rw (append_assoc (to_le32 rev) N (erased e m)) (le32_to_le32 rev (N ++ erased e m))

pub done_compact : (e : ℕ) (w : Bool) (x o : List ℕ) (v : ℕ) (es : List Event) (is : List Item) (ct m : ℕ)
    → view_at w x o ≡ at w v es → v < 2 ^ 32 → CommitFits e (crc all_ones (to_le32 (plus32 v 1))) all_ones is ct m
    → view_at w x (compacted e (plus32 v 1) is ct m) ≡ at (not w) (plus32 v 1)
    (commit_events (crc all_ones (to_le32 (plus32 v 1))) all_ones is ct)
unfolding commit_events
done_compact e w x o v es is ct m h small f =
    let r : ℕ = plus32 v 1 in
    let S : ℕ = crc all_ones (to_le32 r) in
    let d : log (compacted e r is ct m) ≡ commit_events S all_ones is ct = compact_done e r is ct m f in
    let n : log (compacted e r is ct m) ≢ [] = rw d (written_some is (chk ct (commit_sum S all_ones is ct))) in
    view_next w x o (compacted e r is ct m) v es h small (compacted_rev e r is ct m) n ∙ ap (λ z. at (not w) r z) d
