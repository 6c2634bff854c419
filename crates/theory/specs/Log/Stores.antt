-- One block under stores: what is asked of a commit and of an append, and what the walk reads behind the old end. What
-- stores that are stopped leave is in proofs/Log/Stores.antt. Assumes nothing.
use Rattle.std.specs.Prelude.{◌≡◌, refl, ◌≢◌, true, List, [], ◌∷◌, ◌++◌, ℕ, ◌+◌, ◌≤◌, drop, length}
use Rattle.std.proofs.Common.{ap, ◌∙◌, append_assoc, arith, take_at, drop_at}
use Rattle.format.specs.Word.{to_le32, all_ones}
use Rattle.format.specs.Tag.{tag_length, tag_flipped}
use Rattle.format.specs.Crc.{crc}
use Rattle.format.specs.Walk.{Event, walk_from, walk, chk}
use Rattle.format.specs.Log.{committed, log, log_end, tag_after, log_end_tag}
use Rattle.format.specs.Commit.{Item, commit_bytes, commit_sum, written}
use Rattle.format.specs.Erased.{erased, validity_fits}
use Rattle.format.specs.Stores.{fill, compact_bytes, compacted}
use Rattle.format.proofs.Words.{length_to_le32}
use Rattle.format.proofs.Erased.{Erases}
use Rattle.theory.specs.Walk.Locality.{AllContained}
use Rattle.theory.specs.Walk.ReadBack.{AllGood, GoodCheck}
use Rattle.theory.specs.Walk.Erased.{Quiet}
use Rattle.theory.specs.Walk.Cut.{NoCoincidence}
use Rattle.theory.specs.Log.Folds.{tag_app}
use Rattle.theory.specs.Log.Continued.{log_read, log_whole, walk_continues, log_continues, contained_end}

-- what is asked of a commit's bytes behind the checksum `sum` and the previous tag p, with m erased bytes e behind them
pub record CommitFits (e sum p : ℕ) (is : List Item) (ct m : ℕ) : Type 0 where
  pub byte : Erases e
  pub items : AllGood is
  pub check : GoodCheck ct
  pub flips : validity_fits e (tag_flipped ct) ≡ true
  pub room : tag_length ct ≤ 8 + m
  pub start : Quiet e p
  pub lucky : NoCoincidence e sum p is ct

-- the commit as it reads back
unfoldable pub commit_events : ℕ → ℕ → List Item → ℕ → List Event
commit_events sum p is ct = written is (chk ct (commit_sum sum p is ct) ∷ [])

end_written : (is : List Item) (q t c : ℕ) → tag_after q (written is (chk t c ∷ [])) ≡ tag_flipped t
unfolding tag_after written
end_written [] q t c = refl
end_written (i ∷ is) q t c = end_written is i.tag t c

-- the end tag behind it
pub events_end : (es : List Event) (sum p : ℕ) (is : List Item) (ct : ℕ)
    → log_end_tag (es ++ commit_events sum p is ct) ≡ tag_flipped ct
unfolding commit_events
events_end es sum p is ct =
    tag_app es (written is (chk ct (commit_sum sum p is ct) ∷ [])) all_ones
    ∙ end_written is (tag_after all_ones es) ct (commit_sum sum p is ct)

-- ---- append: `pre` is the block up to the old end, M erased bytes follow
module _ (e : ℕ) (pre : List ℕ) (M : ℕ) (es : List Event) (h : log (pre ++ erased e M) ≡ es) (nonempty : es ≢ [])
    (reg : AllContained es) (end : length pre ≡ log_end es) (y : List ℕ) where
  known : log_read es ≤ length pre
  known = omega (
    arith,
    contained_end es all_ones (rw h at (log_whole (pre ++ erased e M))) nonempty reg,
  )

  -- whatever stands behind the old end, the walk comes to it as it did
  pub reach_walk : walk (pre ++ y) ≡ es ++ walk_from all_ones (log_end_tag es) y
  reach_walk = walk_continues pre (erased e M) es h nonempty known y
      ∙ ap (λ (l : List ℕ). es ++ walk_from all_ones (log_end_tag es) l) (drop_at pre y (log_end es) end)

  pub reach : log (pre ++ y) ≡ es ++ committed (walk_from all_ones (log_end_tag es) y)
  reach = log_continues pre (erased e M) es h nonempty known y
      ∙ ap (λ (l : List ℕ). es ++ committed (walk_from all_ones (log_end_tag es) l)) (drop_at pre y (log_end es) end)

-- what is asked of an append: `pre` is the old block up to its end, M erased bytes follow; the new bytes and m erased
-- ones fit there
pub record Appends (e : ℕ) (pre : List ℕ) (M : ℕ) (es : List Event) (is : List Item) (ct m : ℕ) : Type 0 where
  pub old : log (pre ++ erased e M) ≡ es
  pub nonempty : es ≢ []
  pub reg : AllContained es
  pub end : length pre ≡ log_end es
  pub fits : CommitFits e all_ones (log_end_tag es) is ct m
  pub all : length (commit_bytes all_ones (log_end_tag es) is ct) + m ≡ M

-- the room of an append after k of its stores
unfoldable pub room : ℕ → ℕ → ℕ → List Item → ℕ → ℕ → ℕ → List ℕ
room e sum p is ct m k = fill e k (commit_bytes sum p is ct) ++ erased e m

unfoldable pub filled : ℕ → ℕ → ℕ → List Item → ℕ → ℕ → List ℕ
filled e sum p is ct m = commit_bytes sum p is ct ++ erased e m

-- the walk of a compacted block
pub compact_walk : (e rev : ℕ) (is : List Item) (ct m : ℕ)
    → (drop 4 (compacted e rev is ct m) ≡ commit_bytes (crc all_ones (to_le32 rev)) all_ones is ct ++ erased e m)
    × (walk (compacted e rev is ct m) ≡ walk_from (crc all_ones (to_le32 rev)) all_ones
    (commit_bytes (crc all_ones (to_le32 rev)) all_ones is ct ++ erased e m))
unfolding walk compact_bytes compacted
compact_walk e rev is ct m =
    let R : List ℕ = to_le32 rev in
    let N : List ℕ = commit_bytes (crc all_ones R) all_ones is ct in
    rw (
      append_assoc R N (erased e m),
      take_at R (N ++ erased e m) 4 (length_to_le32 rev),
      drop_at R (N ++ erased e m) 4 (length_to_le32 rev),
    ) (refl, refl)
