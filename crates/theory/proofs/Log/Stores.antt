-- One block under stores: an append or a compaction that is stopped anywhere leaves the finished bytes, or the log as
-- it was. Assumes nothing.
use Rattle.std.specs.Prelude.{◌≡◌, refl, ◌⊎◌, Bool, true, false, List, [], ◌∷◌, ◌++◌, ℕ, ◌+◌, ◌-◌, drop, length, take, leb}
use Rattle.std.proofs.Common.{ap, ◌∙◌, inl, inr, append_assoc, append-nil, arith, take_at, drop_at, leb-true, leb-false}
use Rattle.format.specs.Word.{to_le32, all_ones}
use Rattle.format.specs.Tag.{tag_length, tag_flipped}
use Rattle.format.specs.Crc.{crc}
use Rattle.format.specs.Walk.{Event, walk_from, walk, chk}
use Rattle.format.specs.Log.{committed, log, log_end_tag}
use Rattle.format.specs.Commit.{Item, commit_bytes, commit_sum, written}
use Rattle.format.specs.Erased.{erased}
use Rattle.format.specs.Stores.{fill, compact_bytes, compacted}
use Rattle.format.proofs.Words.{length_to_le32}
use Rattle.format.proofs.Checksum.{crc_word}
use Rattle.format.proofs.Erased.{Erases}
use Rattle.theory.specs.Walk.ReadBack.{decode}
use Rattle.theory.specs.Walk.Erased.{NoCheck, quiet_walk, quiet_end, quiet_start, drop_erased}
use Rattle.theory.specs.Walk.Erased.{length_erased, length_fill, fill_front, erased_append, fill_back}
use Rattle.theory.specs.Walk.Cut.{cut, Cut}
use Rattle.theory.specs.Log.Committed.{committed_none}
use Rattle.theory.specs.Log.Stores.{Appends, CommitFits, commit_events, compact_walk, filled, reach, room}

committed_written : (is : List Item) (t c : ℕ) (more : List Event) → NoCheck more
    → committed (written is (chk t c ∷ more)) ≡ written is (chk t c ∷ [])
unfolding committed written
committed_written [] t c more h = rw (committed_none more h)
committed_written (i ∷ []) t c more h = rw (committed_none more h)
committed_written (i ∷ j ∷ is) t c more h = rw (committed_written (j ∷ is) t c more h)

pub committed_done : (e sum p : ℕ) (is : List Item) (ct m : ℕ) → CommitFits e sum p is ct m
    → committed (walk_from sum p (commit_bytes sum p is ct ++ erased e m)) ≡ commit_events sum p is ct
unfolding commit_events
committed_done e sum p is ct m f =
    let r = drop_erased e (tag_length ct - 8) m in
    rw (
      decode is sum p ct (erased e m) f.items f.check (omega (arith, length_erased e m, f.room)),
      r.1,
    )
    (committed_written is ct (commit_sum sum p is ct) (walk_from all_ones (tag_flipped ct) (erased e r.0))
    (quiet_walk e f.byte all_ones (tag_flipped ct) r.0 (quiet_end e f.byte (tag_flipped ct) f.flips)))

-- an append stopped after k bytes: the finished block, or the old log
pub append_cut : (e : ℕ) (pre : List ℕ) (M : ℕ) (es : List Event) (is : List Item) (ct m k : ℕ)
    → Appends e pre M es is ct m
    → (room e all_ones (log_end_tag es) is ct m k ≡ filled e all_ones (log_end_tag es) is ct m)
    ⊎ (log (pre ++ room e all_ones (log_end_tag es) is ct m k) ≡ es)
unfolding room filled Cut
append_cut e pre M es is ct m k a =
    go (cut e a.fits.byte is all_ones (log_end_tag es) ct k m (omega arith) a.fits.items a.fits.check
    a.fits.room
    a.fits.start a.fits.lucky)
  where
    N : List ℕ
    N = commit_bytes all_ones (log_end_tag es) is ct

    go : (fill e k N ++ erased e m ≡ N ++ erased e m)
        ⊎ NoCheck (walk_from all_ones (log_end_tag es) (fill e k N ++ erased e m))
        → (fill e k N ++ erased e m ≡ N ++ erased e m) ⊎ (log (pre ++ (fill e k N ++ erased e m)) ≡ es)
    go (inl q) = inl q
    go (inr n) =
        inr (reach e pre M es a.old a.nonempty a.reg a.end (fill e k N ++ erased e m)
        ∙ rw (committed_none (walk_from all_ones (log_end_tag es) (fill e k N ++ erased e m)) n) (append-nil es))

pub append_done : (e : ℕ) (pre : List ℕ) (M : ℕ) (es : List Event) (is : List Item) (ct m : ℕ)
    → Appends e pre M es is ct m
    → log (pre ++ filled e all_ones (log_end_tag es) is ct m) ≡ es ++ commit_events all_ones (log_end_tag es) is ct
unfolding filled
append_done e pre M es is ct m a =
    let N : List ℕ = commit_bytes all_ones (log_end_tag es) is ct in
    reach e pre M es a.old a.nonempty a.reg a.end (N ++ erased e m)
    ∙ ap (λ z. es ++ z) (committed_done e all_ones (log_end_tag es) is ct m a.fits)

-- ---- compaction: a block erased, then the revision and one commit
pub compact_cut : (e rev : ℕ) (is : List Item) (ct m k : ℕ) → CommitFits e (crc all_ones (to_le32 rev)) all_ones is ct m
    → (fill e k (compact_bytes rev is ct) ++ erased e m ≡ compacted e rev is ct m)
    ⊎ (log (fill e k (compact_bytes rev is ct) ++ erased e m) ≡ [])
unfolding log walk Cut compact_bytes compacted
compact_cut e rev is ct m k f = go (leb k 4) refl
  where
    R : List ℕ
    R = to_le32 rev

    four : length R ≡ 4
    four = length_to_le32 rev

    N : List ℕ
    N = commit_bytes (crc all_ones R) all_ones is ct

    log_of : List ℕ → List Event
    log_of x = committed (walk_from (crc all_ones (take 4 x)) all_ones (drop 4 x))

    go : (b : Bool) → leb k 4 ≡ b → (fill e k (R ++ N) ++ erased e m ≡ R ++ N ++ erased e m)
        ⊎ (log_of (fill e k (R ++ N) ++ erased e m) ≡ [])
    go true q =
        let l4 : length (fill e k R) ≡ 4 = length_fill e k R ∙ four in
        let n : ℕ = length N + m in
        inr (rw (
          fill_front e k R N (omega (arith, leb-true k 4 q, four)),
          append_assoc (fill e k R) (erased e (length N)) (erased e m),
          erased_append e (length N) m,
          take_at (fill e k R) (erased e n) 4 l4,
          drop_at (fill e k R) (erased e n) 4 l4,
        )
        (committed_none (walk_from (crc all_ones (fill e k R)) all_ones (erased e n))
        (quiet_walk e f.byte (crc all_ones (fill e k R)) all_ones n (quiet_start e f.byte))))
    go false q =
        rw (
          fill_back e k (k - 4) R N (omega (arith, leb-false k 4 q, four)),
          append_assoc R (fill e (k - 4) N) (erased e m),
          append_assoc R N (erased e m),
          take_at R (fill e (k - 4) N ++ erased e m) 4 four,
          drop_at R (fill e (k - 4) N ++ erased e m) 4 four,
        )
        (fin (cut e f.byte is (crc all_ones R) all_ones ct (k - 4) m (crc_word R all_ones (omega arith)) f.items
        f.check
        f.room f.start f.lucky))
      where
        fin : (fill e (k - 4) N ++ erased e m ≡ N ++ erased e m) ⊎ NoCheck
            (walk_from (crc all_ones R) all_ones (fill e (k - 4) N ++ erased e m))
            → (R ++ (fill e (k - 4) N ++ erased e m) ≡ R ++ (N ++ erased e m))
            ⊎ (committed (walk_from (crc all_ones R) all_ones (fill e (k - 4) N ++ erased e m)) ≡ [])
        fin (inl q) = inl (ap (λ z. R ++ z) q)
        fin (inr n) = inr (committed_none (walk_from (crc all_ones R) all_ones (fill e (k - 4) N ++ erased e m)) n)

pub compact_done : (e rev : ℕ) (is : List Item) (ct m : ℕ) → CommitFits e (crc all_ones (to_le32 rev)) all_ones is ct m
    → log (compacted e rev is ct m) ≡ commit_events (crc all_ones (to_le32 rev)) all_ones is ct
unfolding log
compact_done e rev is ct m f =
    rw (compact_walk e rev is ct m).1 (committed_done e (crc all_ones (to_le32 rev)) all_ones is ct m f)

-- an erased block has no log
pub erased_log : (e n : ℕ) → Erases e → log (erased e n) ≡ []
unfolding log walk
erased_log e n byte = let r = drop_erased e 4 n in rw r.1
    (committed_none (walk_from (crc all_ones (take 4 (erased e n))) all_ones (erased e r.0))
    (quiet_walk e byte (crc all_ones (take 4 (erased e n))) all_ones r.0 (quiet_start e byte)))
