-- Demand 2: which refusals each call can give. "No refusal comes at any other time": here are the refusals of each
-- kind of call, as document 01 has them, and the laws that words, alignments and fetch give no others. Those of the
-- lookups are in PossibleLookups, of the calls that write in PossibleWrites. Assumes nothing.
use Rattle.std.specs.Prelude.{◌≡◌, refl, Bool, true, false, not, cond, ◌||◌, List, ℕ, length, eqb, ltb, Err, Ok, Result}
use Rattle.format.specs.Word.{plus32, minus32}
use Rattle.format.specs.Arith.{align_down, align_up}
use Rattle.format.specs.Bytes.{inside, le32_at, be32_at, put_answer}
use Rattle.format.specs.Record.{seed_of}
use Rattle.format.specs.View.{View, none, at, view}
use Rattle.format.specs.Fetch.{pair_fits, too_high, mdir_of, few_enough, viewed, fetch_of}
use Rattle.format.specs.declared.Geometry.{Geometry}
use Rattle.format.specs.declared.LfsMdir.{LfsMdir}
use Rattle.format.specs.declared.Refusal.{Refusal}
use Rattle.format.specs.declared.Refusal.TheVariants.{Invalid, Corrupt, NoEntry, TooMany}
use Rattle.format.specs.declared.Refusal.TheVariants.{BadEntry, Irregular, NoSpace, Misaligned, WrongValidity}
use Rattle.format.specs.declared.Refusal.TheVariants.{NotErased}
use Rattle.format.specs.declared.Refusal.TheVariants.{Coincidence}
use Rattle.format.specs.declared.Fetched.{Fetched}
use Rattle.format.specs.declared.Found.{Found}
use Rattle.format.specs.Record.{fetched}

-- ---- the refusals of each kind of call
-- "Fetch tests -22, -84, -2."
pub data FetchRefuses : Refusal → Type 0 where
  fetch22 : FetchRefuses Invalid
  fetch84 : FetchRefuses Corrupt
  fetch2 : {m : LfsMdir} {s : ℕ} → FetchRefuses (TooMany (fetched m s))

-- `lfs_dir_getslice`: "A lookup tests -22 first", then "-84 | lookup: the matched bytes pass the block" and "-2 |
-- lookup: no entry"
pub data SliceRefuses : Refusal → Type 0 where
  slice22 : SliceRefuses Invalid
  slice84 : SliceRefuses Corrupt
  slice2 : SliceRefuses NoEntry

-- `lfs_dir_get`, `lfs_dir_getinfo`: no -84, as from offset 0 on the matched bytes end at the record's end or before it
pub data GetRefuses : Refusal → Type 0 where
  get22 : GetRefuses Invalid
  get2 : GetRefuses NoEntry

-- `lfs_dir_getgstate`: no -84 either, and no -2: "with none, all stays"
pub data GstateRefuses : Refusal → Type 0 where
  gstate22 : GstateRefuses Invalid

-- words read and stored: "A read whose start plus length passes the block size is -84", and so is a store
pub data WordRefuses : Refusal → Type 0 where
  word84 : WordRefuses Corrupt

-- "Alignment by 0 is refused with -22."
pub data AlignRefuses : Refusal → Type 0 where
  align22 : AlignRefuses Invalid

-- "Commit: -22, fetch's own refusals, -202, -201, -28, -203, -204", and "-203 becomes -211 misaligned end, -212 top
-- bit, -213 byte with offset", the second of them "now 'wrong validity bit'".
pub data CommitRefuses : Refusal → Type 0 where
  commit22 : CommitRefuses Invalid
  commit_fetch : {r : Refusal} → FetchRefuses r → CommitRefuses r
  commit202 : CommitRefuses Irregular
  commit201 : {i : ℕ} → CommitRefuses (BadEntry i)
  commit28 : CommitRefuses NoSpace
  commit211 : CommitRefuses Misaligned
  commit212 : CommitRefuses WrongValidity
  commit213 : {at : ℕ} → CommitRefuses (NotErased at)
  commit204 : CommitRefuses Coincidence

-- "Compaction: the same without -201 and -203." Its -22 is fetch's, or of a rule or an erased byte
-- that is neither of the two.
pub data CompactRefuses : Refusal → Type 0 where
  compact_fetch : {r : Refusal} → FetchRefuses r → CompactRefuses r
  compact202 : CompactRefuses Irregular
  compact28 : CompactRefuses NoSpace
  compact204 : CompactRefuses Coincidence

-- ---- an answer that is no refusal, or one of these
abbrev pub AnswerOr : {A : Type 0} → (Refusal → Type 0) → Result A Refusal → Type 0
AnswerOr R (Ok x) = Unit {0}
AnswerOr R (Err r) = R r

-- a test decides between two answers that are possible; the first may be so because the test holds
pub behind : {A : Type 0} (P : A → Type 0) (test : Bool) {x y : A} → (test ≡ true → P x) → P y → P (cond test x y)
behind P true h k = h refl
behind P false h k = k

pub through : {A : Type 0} (P : A → Type 0) (test : Bool) {x y : A} → P x → P y → P (cond test x y)
through P test h k = behind P test (λ e. h) k

-- ---- words and alignments
pub le32_possible : (s : List ℕ) (off : ℕ) → AnswerOr WordRefuses (le32_at s off)
le32_possible s off = through (AnswerOr WordRefuses) (inside s off) tt word84

pub be32_possible : (s : List ℕ) (off : ℕ) → AnswerOr WordRefuses (be32_at s off)
be32_possible s off = through (AnswerOr WordRefuses) (inside s off) tt word84

pub put_possible : (s : List ℕ) (off : ℕ) → AnswerOr WordRefuses (put_answer s off)
put_possible s off = through (AnswerOr WordRefuses) (inside s off) tt word84

pub aligndown_possible : (a m : ℕ) → AnswerOr AlignRefuses (align_down a m)
unfolding align_down
aligndown_possible a m = through (AnswerOr AlignRefuses) (eqb m 0) align22 tt

pub alignup_possible : (a m : ℕ) → AnswerOr AlignRefuses (align_up a m)
unfolding align_up
alignup_possible a m = aligndown_possible (minus32 (plus32 a m) 1) m

-- ---- fetch
abbrev pub Fetches : Result Fetched Refusal → Type 0
Fetches f = AnswerOr FetchRefuses f

pub few_possible : (m : LfsMdir) (s : ℕ) → Fetches (few_enough m s)
few_possible m s = through Fetches (ltb 1_023 m.count) fetch2 tt

viewed_possible : (prog n0 n1 : ℕ) (b0 b1 : List ℕ) (seed : ℕ) (v : View) → Fetches (viewed prog n0 n1 b0 b1 seed v)
viewed_possible prog n0 n1 b0 b1 seed none = fetch84
viewed_possible prog n0 n1 b0 b1 seed (at false rev es) = few_possible (mdir_of prog n0 n1 b0 rev es) (seed_of seed es)
viewed_possible prog n0 n1 b0 b1 seed (at true rev es) = few_possible (mdir_of prog n1 n0 b1 rev es) (seed_of seed es)

pub fetch_possible : (g : Geometry) (b0 b1 : List ℕ) (n0 n1 count seed : ℕ)
    → AnswerOr FetchRefuses (fetch_of g b0 b1 n0 n1 count seed)
unfolding fetch_of
fetch_possible g b0 b1 n0 n1 count seed =
    through Fetches (not (pair_fits g (length b0) (length b1) n0 n1)) fetch22
    (through Fetches (too_high count n0 || too_high count n1) fetch84
    (viewed_possible g.prog_size n0 n1 b0 b1 seed (view b0 b1)))
