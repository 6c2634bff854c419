-- The second pass: what its calls leave is the block after compaction's first stores. Assumes nothing.
use Rattle.std.proofs.Common.{◌≡◌, ℕ, suc, ◌+◌, ◌-◌, ◌≤◌, min, true, List, ◌++◌, length, sym, refl, ap, ◌∙◌, arith, length-append}
use lib.Seq.{paste}
use Rattle.format.specs.Word.{to_be32, to_le32, xor, all_ones}
use Rattle.format.specs.Crc.{crc}
use Rattle.format.specs.Log.{log}
use Rattle.format.specs.Regular.{Regular}
use Rattle.format.specs.declared.Rules.TheVariants.{Littlefs}
use Rattle.format.specs.Commit.{Item, commit_bytes}
use Rattle.format.specs.Erased.{erased}
use Rattle.format.specs.Stores.{entries_length, compact_bytes, compacting}
use Rattle.format.specs.Writer.{check_length}
use Rattle.format.specs.Compaction.{compact_check_at, compact_stores}
use Rattle.format.specs.declared.LfsMdir.{LfsMdir}
use Rattle.format.proofs.Words.{length_to_le32}
use Rattle.theory.specs.Walk.ReadBack.{AllGood}
use Rattle.theory.specs.Walk.Erased.{length_erased}
use Rattle.theory.specs.Blocks.Append.{length_commit}
use Rattle.theory.specs.Blocks.Compact.{compact_stores_lem}
use Rattle.theory.proofs.Compact.AcceptedVerdict.{slots_counted, compaction_good}
use Rattle.commit_lay.specs.Laid.{Laid, laid, puts_of}
use Rattle.commit_lay.specs.declared.Run.{Run}
use Rattle.commit_lay.proofs.Puts.{puts_app}
use Rattle.commit_lay.proofs.Pasted.{run_at, pasted, puts_paste}
use Rattle.compact_entries.specs.Emitted.{Standing, standing, emits, Renewing}
use Rattle.compact_entries.specs.declared.Emit.{Emit}
use Rattle.compact_entries.proofs.Joined.{emits_commit}
use Rattle.compact_block.specs.Renewed.{begins, renewed_items, Recorded, Writable, written_to}

-- ---- the erase is one store more
one_more : (n left L : ℕ) → left ≡ n - 1 → (n ≡ 0 → ⊥) → suc (min left (4 + (L + 8))) ≡ min n (1 + (4 + L) + 8)
one_more n left L e h = omega arith

least_most : (a b : ℕ) → min a b ≤ b
least_most a b = omega arith

rest_is : (o B L : ℕ) → o ≡ B → B - (4 + (L + 8)) ≡ o - (4 + L + 8)
rest_is o B L e = omega arith

-- ---- the bytes
bytes_length : (rev : ℕ) (is : List Item) (ct : ℕ) → AllGood is
    → length (compact_bytes rev is ct) ≡ 4 + (entries_length is + 8)
unfolding compact_bytes
bytes_length rev is ct good =
    rw (
      length-append (to_le32 rev) (commit_bytes (crc all_ones (to_le32 rev)) all_ones is ct),
      length_to_le32 rev,
      length_commit is (crc all_ones (to_le32 rev)) all_ones ct good,
    )

-- what the check leaves, of where the entries end
abbrev check_laid : ℕ → Standing → Laid
check_laid ct s = puts_of s.stores (to_be32 (xor ct s.prev) ++ to_le32 (crc s.sum (to_be32 (xor ct s.prev))))

-- p is what the revision's bytes leave, e and b where the entries end, q what the check leaves: all of it is one run of
-- the bytes
module _ (byte B left rev ct : ℕ) (is : List Item) (p : Laid) (e : Emit) (b : List ℕ) (q : Laid)
    (ep : p ≡ puts_of (laid (run_at 0 left) (erased byte B)) (to_le32 rev))
    (es : standing e b ≡ emits (standing (begins rev p.run) p.block) is)
    (eq : q ≡ check_laid ct (standing e b)) where
  one_run : q ≡ puts_of (laid (run_at 0 left) (erased byte B)) (compact_bytes rev is ct)
  unfolding begins compact_bytes
  one_run =
      eq ∙ ap (check_laid ct) es ∙ emits_commit is (standing (begins rev p.run) p.block) ct
      ∙ ap (λ (z : Laid). puts_of z (commit_bytes (crc all_ones (to_le32 rev)) all_ones is ct)) ep
      ∙ puts_app (to_le32 rev) (commit_bytes (crc all_ones (to_le32 rev)) all_ones is ct)
      (laid (run_at 0 left) (erased byte B))

  module _ (good : AllGood is) (room : 4 + (entries_length is + 8) ≤ B) where
    abbrev made : ℕ
    made = min left (length (compact_bytes rev is ct))

    stored : q ≡ pasted (compact_bytes rev is ct) 0 left (erased byte B)
    stored = one_run ∙ puts_paste (compact_bytes rev is ct) 0 left (erased byte B)
        (omega (arith, bytes_length rev is ct good, length_erased byte B))

    -- o is the block as it was before the erase
    pub stored_made_lem : (n : ℕ) → left ≡ n - 1 → (n ≡ 0 → ⊥) → 1 + q.run.at ≡ min n (compact_stores is)
    stored_made_lem n el h = omega (arith, ap (λ (z : Laid). z.run.at) stored, bytes_length rev is ct good)

    pub stored_block : (o : List ℕ) (n : ℕ) → length o ≡ B → left ≡ n - 1 → (n ≡ 0 → ⊥)
        → q.block ≡ compacting byte o rev is ct (length o - (compact_check_at is + check_length))
        (min n (compact_stores is))
    stored_block o n eo el h =
        let k : ℕ = min left (4 + (entries_length is + 8)) in
        let more : suc k ≡ min n (compact_stores is) = one_more n left (entries_length is) el h in
        let rest : B - (4 + (entries_length is + 8)) ≡ length o - (compact_check_at is + check_length) =
        rest_is (length o) B (entries_length is) eo in
        let same : min left (length (compact_bytes rev is ct)) ≡ k = ap (min left) (bytes_length rev is ct good) in
        ap (λ (z : Laid). z.block) stored ∙ ap (λ (j : ℕ). paste (erased byte B) 0 (compact_bytes rev is ct) j) same
        ∙ sym (compact_stores_lem byte B rev o is ct k good room (least_most left (4 + (entries_length is + 8))))
        ∙ rw (more, rest)

-- ---- what the pass asks of its calls
pub reads_all : (prog : ℕ) → 4 ≤ prog → prog ≤ 512 → (b : List ℕ) (dir : LfsMdir) (rev : ℕ) (run : Run) → Recorded b dir
    → Regular Littlefs (log b) ≡ true → Renewing prog b (begins rev run) dir
unfolding begins
reads_all prog low high b dir rev run r regular =
    record {
      low = low;
      high = high;
      start = refl;
      read = record {
        source = record {
          slots = record {
            word = r.word;
            most = r.most;
            regular = regular;
            ends = r.ends;
            end_tag = r.end_tag;
            count' = r.count' ∙ slots_counted b regular;
          };
          some = r.some;
          small = omega arith;
        };
        split' = r.split';
        tail' = r.tail';
      };
    }

-- the whole pass, with the arguments as the code has them
module _ (byte prog : ℕ) (old new : List ℕ) (dir : LfsMdir) (w : Writable byte prog old new dir) (rev ct n : ℕ)
    (some : n ≡ 0 → ⊥) (erasedNew : List ℕ) (en : erasedNew ≡ erased byte (length new))
    (p : Laid) (ep : p ≡ puts_of (laid (run_at 0 (n - 1)) erasedNew) (to_le32 rev)) (s e : Emit)
    (es : s ≡ begins rev p.run) (b : List ℕ)
    (ee : standing e b ≡ emits (standing s p.block) (renewed_items byte prog old)) (q : Laid)
    (eq : q ≡ check_laid ct (standing e b)) where
  abbrev I : List Item
  I = renewed_items byte prog old

  from : p ≡ puts_of (laid (run_at 0 (n - 1)) (erased byte (length new))) (to_le32 rev)
  from = ep ∙ ap (λ (z : List ℕ). puts_of (laid (run_at 0 (n - 1)) z) (to_le32 rev)) en

  entries : standing e b ≡ emits (standing (begins rev p.run) p.block) I
  entries = ee ∙ ap (λ (z : Emit). emits (standing z p.block) I) es

  pub pass_made : 1 + q.run.at ≡ min n (compact_stores I)
  pass_made = stored_made_lem byte (length new) (n - 1) rev ct I p e b q from entries eq
      (compaction_good old w.regular byte prog)
      (omega (arith, w.room)) n refl some

  pub pass_block : q.block ≡ written_to byte prog old new rev ct n
  pass_block = stored_block byte (length new) (n - 1) rev ct I p e b q from entries eq
      (compaction_good old w.regular byte prog) (omega (arith, w.room)) new n refl refl some

-- no store: the block as it was
pub pass_none : (byte prog : ℕ) (old new : List ℕ) (rev ct n : ℕ) → n ≡ 0
    → (0 ≡ min n (compact_stores (renewed_items byte prog old))) × (new ≡ written_to byte prog old new rev ct n)
unfolding compacting
pass_none byte prog old new rev ct n h =
    let z : min n (compact_stores (renewed_items byte prog old)) ≡ 0 = omega arith in
    rw z (refl, refl)
