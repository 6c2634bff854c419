-- Demand 2: "Each answer's number and values determine the answer." For each type of answer a function gives it back
-- from document 01's number and the values that come with it (format/specs/Answer.antt), whatever refusal the call can
-- give (Possible). So two answers of a call with equal number and values are equal. One exception: -2 from a call with
-- a limit of stores comes without the record and the seed. Assumes nothing.
use Rattle.std.specs.Prelude.{◌≡◌, refl, ◌≢◌, cond, List, ℕ, suc, eqb, ℤ, pos, negsuc, neg_ℤ, Err, Ok, Result}
use Rattle.std.proofs.Common.{ap}
use Rattle.format.specs.Arith.{align_down, align_up}
use Rattle.format.specs.Bytes.{le32_at, be32_at, put_answer}
use Rattle.format.specs.Fetch.{fetch_of}
use Rattle.format.specs.Lookup.{getslice_of, get_of, getinfo_of, getgstate_of}
use Rattle.format.specs.Writer.{commit_of, commit_stores_of}
use Rattle.format.specs.Compaction.{compact_of, compact_stores_of}
use Rattle.format.specs.Answer.{zero_mdir, refusal_number, refusal_mdir, refusal_seed, refusal_index, result_number}
use Rattle.format.specs.Answer.{answer_value, answer_mdir, answer_seed, answer_index, answer_info, none_found, got_found}
use Rattle.format.specs.declared.Geometry.{Geometry}
use Rattle.format.specs.declared.Entry.{Entry}
use Rattle.format.specs.declared.LfsMdir.{LfsMdir}
use Rattle.format.specs.declared.LfsGstate.{LfsGstate}
use Rattle.format.specs.declared.Refusal.{Refusal}
use Rattle.format.specs.declared.Refusal.TheVariants.{Invalid, Corrupt, NoEntry, TooMany}
use Rattle.format.specs.declared.Refusal.TheVariants.{BadEntry, Irregular, NoSpace, Misaligned, WrongValidity}
use Rattle.format.specs.declared.Refusal.TheVariants.{NotErased}
use Rattle.format.specs.declared.Refusal.TheVariants.{Coincidence, TableFull, Spent, TooDeep}
use Rattle.format.specs.declared.Found.{Found}
use Rattle.promises.specs.Possible.{FetchRefuses, fetch22, fetch84, fetch2, SliceRefuses, slice22, slice84}
use Rattle.promises.specs.Possible.{slice2, GetRefuses, get22, get2, GstateRefuses, gstate22, WordRefuses, word84}
use Rattle.promises.specs.Possible.{AlignRefuses, align22, CommitRefuses, commit22, commit_fetch, commit202}
use Rattle.promises.specs.Possible.{commit201, commit28, commit211, commit212, commit213, commit204}
use Rattle.promises.specs.Possible.{CompactRefuses, compact_fetch, compact202, compact28, compact204}
use Rattle.promises.specs.Possible.{AnswerOr}
use Rattle.promises.specs.Possible.{le32_possible, be32_possible, put_possible}
use Rattle.promises.specs.Possible.{aligndown_possible, alignup_possible, fetch_possible}
use Rattle.promises.specs.PossibleLookups.{getslice_possible, get_possible, getinfo_possible, getgstate_possible}
use Rattle.promises.specs.PossibleWrites.{commit_possible, commit_stores_possible}
use Rattle.promises.specs.PossibleWrites.{compact_possible, compact_stores_possible}
use Rattle.format.specs.declared.Fetched.{Fetched}
use Rattle.format.specs.declared.LfsInfo.{LfsInfo}
use Rattle.format.specs.Record.{fetched}

-- ---- the answer back from its number and values
-- a number below zero, without its sign
abbrev pub below : ℤ → ℕ
below (pos n) = 0
below (negsuc n) = suc n

-- which refusal a number is: `two` is what -2 means, `index` comes with -201 and -213
abbrev pub refusal_from : Refusal → ℤ → ℕ → Refusal
refusal_from two number index =
    cond (eqb (below number) 22) Invalid
    (cond (eqb (below number) 84) Corrupt
    (cond (eqb (below number) 2) two
    (cond (eqb (below number) 201) (BadEntry index)
    (cond (eqb (below number) 202) Irregular
    (cond (eqb (below number) 28) NoSpace
    (cond (eqb (below number) 211) Misaligned
    (cond (eqb (below number) 212) WrongValidity
    (cond (eqb (below number) 213) (NotErased index) Coincidence))))))))

-- 0 is no refusal
abbrev pub answer_from : {A : Type 0} → A → (Refusal → A) → Refusal → ℤ → ℕ → A
answer_from done refuse two number index = cond (eqb (below number) 0) done (refuse (refusal_from two number index))

abbrev pub fetched_from : ℤ → LfsMdir → ℕ → Result Fetched Refusal
fetched_from number m s = answer_from (Ok (fetched m s)) Err (TooMany (fetched m s)) number 0

abbrev pub got_from : ℤ → Found → Result Found Refusal
got_from number e = answer_from (Ok e) Err NoEntry number 0

abbrev pub altered_from : ℤ → Result Unit Refusal
altered_from number = answer_from (Ok tt) Err NoEntry number 0

abbrev pub word_from : ℤ → ℕ → Result ℕ Refusal
word_from number v = answer_from (Ok v) Err NoEntry number 0

abbrev pub info_from_number : ℤ → LfsInfo → Result LfsInfo Refusal
info_from_number number i = answer_from (Ok i) Err NoEntry number 0

abbrev pub committed_from : ℤ → LfsMdir → ℕ → ℕ → Result Fetched Refusal
committed_from number m s index = answer_from (Ok (fetched m s)) Err (TooMany (fetched m s)) number index

-- -2 comes without a record: the exception
abbrev pub stored_from : ℤ → ℕ → ℕ → Result ℕ Refusal
stored_from number made index = answer_from (Ok made) Err (TooMany (fetched zero_mdir 0)) number index

-- ---- a refusal of each kind of call comes back
module _ {A : Type 0} (done : A) (refuse : Refusal → A) where
  -- with no values: -2 means "no entry"
  plain_back : {r : Refusal} → SliceRefuses r → answer_from done refuse NoEntry (refusal_number r) 0 ≡ refuse r
  plain_back slice22 = refl
  plain_back slice84 = refl
  plain_back slice2 = refl

  -- of a call that fetches: -2 means a count above 1,023, and `two` has the record and the seed as read
  module _ (two : Refusal) (seed : ℕ) where
    abbrev Known : Refusal → Type 0
    Known r = refusal_number r ≡ neg_ℤ (pos 2) → two ≡ TooMany (fetched (refusal_mdir r) (refusal_seed seed r))

    fetch_back : {r : Refusal} (index : ℕ) → Known r → FetchRefuses r
        → answer_from done refuse two (refusal_number r) index ≡ refuse r
    fetch_back index known fetch22 = refl
    fetch_back index known fetch84 = refl
    fetch_back index known fetch2 = ap refuse (known refl)

    commit_back : {r : Refusal} → Known r → CommitRefuses r
        → answer_from done refuse two (refusal_number r) (refusal_index r) ≡ refuse r
    commit_back known commit22 = refl
    commit_back {r} known (commit_fetch h) = fetch_back (refusal_index r) known h
    commit_back known commit202 = refl
    commit_back known commit201 = refl
    commit_back known commit28 = refl
    commit_back known commit211 = refl
    commit_back known commit212 = refl
    commit_back known commit213 = refl
    commit_back known commit204 = refl

-- ---- the refusals of other calls are among those of `lfs_dir_getslice`, or among those of commit
abbrev pub Within : (Refusal → Type 0) → (Refusal → Type 0) → Type 0
Within R S = (r : Refusal) → R r → S r

get_plain : Within GetRefuses SliceRefuses
get_plain Invalid get22 = slice22
get_plain NoEntry get2 = slice2
get_plain Corrupt x' = elim x' [ ]
get_plain (TooMany _) x4 = elim x4 [ ]
get_plain (BadEntry _) x4 = elim x4 [ ]
get_plain Irregular x4 = elim x4 [ ]
get_plain NoSpace x5 = elim x5 [ ]
get_plain Misaligned x6 = elim x6 [ ]
get_plain WrongValidity x7 = elim x7 [ ]
get_plain (NotErased _) x9 = elim x9 [ ]
get_plain Coincidence x9 = elim x9 [ ]
get_plain TableFull x10 = elim x10 [ ]
get_plain Spent x11 = elim x11 [ ]
get_plain TooDeep x12 = elim x12 [ ]

gstate_plain : Within GstateRefuses SliceRefuses
gstate_plain Invalid gstate22 = slice22
gstate_plain Corrupt x' = elim x' [ ]
gstate_plain NoEntry x'' = elim x'' [ ]
gstate_plain (TooMany _) x5 = elim x5 [ ]
gstate_plain (BadEntry _) x5 = elim x5 [ ]
gstate_plain Irregular x5 = elim x5 [ ]
gstate_plain NoSpace x6 = elim x6 [ ]
gstate_plain Misaligned x7 = elim x7 [ ]
gstate_plain WrongValidity x8 = elim x8 [ ]
gstate_plain (NotErased _) x10 = elim x10 [ ]
gstate_plain Coincidence x10 = elim x10 [ ]
gstate_plain TableFull x11 = elim x11 [ ]
gstate_plain Spent x12 = elim x12 [ ]
gstate_plain TooDeep x13 = elim x13 [ ]

word_plain : Within WordRefuses SliceRefuses
word_plain Corrupt word84 = slice84
word_plain Invalid x' = elim x' [ ]
word_plain NoEntry x'' = elim x'' [ ]
word_plain (TooMany _) x5 = elim x5 [ ]
word_plain (BadEntry _) x5 = elim x5 [ ]
word_plain Irregular x5 = elim x5 [ ]
word_plain NoSpace x6 = elim x6 [ ]
word_plain Misaligned x7 = elim x7 [ ]
word_plain WrongValidity x8 = elim x8 [ ]
word_plain (NotErased _) x10 = elim x10 [ ]
word_plain Coincidence x10 = elim x10 [ ]
word_plain TableFull x11 = elim x11 [ ]
word_plain Spent x12 = elim x12 [ ]
word_plain TooDeep x13 = elim x13 [ ]

align_plain : Within AlignRefuses SliceRefuses
align_plain Invalid align22 = slice22
align_plain Corrupt x' = elim x' [ ]
align_plain NoEntry x'' = elim x'' [ ]
align_plain (TooMany _) x5 = elim x5 [ ]
align_plain (BadEntry _) x5 = elim x5 [ ]
align_plain Irregular x5 = elim x5 [ ]
align_plain NoSpace x6 = elim x6 [ ]
align_plain Misaligned x7 = elim x7 [ ]
align_plain WrongValidity x8 = elim x8 [ ]
align_plain (NotErased _) x10 = elim x10 [ ]
align_plain Coincidence x10 = elim x10 [ ]
align_plain TableFull x11 = elim x11 [ ]
align_plain Spent x12 = elim x12 [ ]
align_plain TooDeep x13 = elim x13 [ ]

compact_written : Within CompactRefuses CommitRefuses
compact_written r (compact_fetch h) = commit_fetch h
compact_written Irregular compact202 = commit202
compact_written NoSpace compact28 = commit28
compact_written Coincidence compact204 = commit204

-- ---- the laws, by the type of the answer: the number and the values give it back
abbrev pub FetchedTold : ℕ → Result Fetched Refusal → Type 0
FetchedTold seed f = fetched_from (result_number f) (answer_mdir f) (answer_seed seed f) ≡ f

pub fetched_determined : (seed : ℕ) (f : Result Fetched Refusal) → AnswerOr FetchRefuses f → FetchedTold seed f
fetched_determined seed (Ok f) h = refl
fetched_determined seed (Err r) h =
    fetch_back (Ok (fetched (refusal_mdir r) (refusal_seed seed r))) Err
    (TooMany (fetched (refusal_mdir r) (refusal_seed seed r))) seed 0 (λ e. refl) h

abbrev pub GotTold : Result Found Refusal → Type 0
GotTold f = got_from (result_number f) (got_found f) ≡ f

abbrev pub WordTold : Result ℕ Refusal → Type 0
WordTold f = word_from (result_number f) (answer_value f) ≡ f

abbrev pub AlteredTold : Result Unit Refusal → Type 0
AlteredTold f = altered_from (result_number f) ≡ f

abbrev pub InformedTold : Result LfsInfo Refusal → Type 0
InformedTold f = info_from_number (result_number f) (answer_info f) ≡ f

module _ (R : Refusal → Type 0) (plain : Within R SliceRefuses) where
  pub got_determined : (f : Result Found Refusal) → AnswerOr R f → GotTold f
  got_determined (Ok e) h = refl
  got_determined (Err r) h = plain_back (Ok none_found) Err (plain r h)

  pub word_determined : (f : Result ℕ Refusal) → AnswerOr R f → WordTold f
  word_determined (Ok v) h = refl
  word_determined (Err r) h = plain_back (Ok 0) Err (plain r h)

  pub altered_determined : (f : Result Unit Refusal) → AnswerOr R f → AlteredTold f
  altered_determined (Ok x) h = refl
  altered_determined (Err r) h = plain_back (Ok tt) Err (plain r h)

  pub informed_determined : (f : Result LfsInfo Refusal) → AnswerOr R f → InformedTold f
  informed_determined (Ok i) h = refl
  informed_determined (Err r) h = plain_back (Ok (answer_info (Err r))) Err (plain r h)

abbrev pub CommittedTold : ℕ → Result Fetched Refusal → Type 0
CommittedTold seed f =
    committed_from (result_number f) (answer_mdir f) (answer_seed seed f) (answer_index f) ≡ f

-- the exception is left out
abbrev pub StoredTold : Result ℕ Refusal → Type 0
StoredTold f = result_number f ≢ neg_ℤ (pos 2) → stored_from (result_number f) (answer_value f) (answer_index f) ≡ f

module _ (R : Refusal → Type 0) (written : Within R CommitRefuses) where
  pub committed_determined : (seed : ℕ) (f : Result Fetched Refusal) → AnswerOr R f → CommittedTold seed f
  committed_determined seed (Ok f) h = refl
  committed_determined seed (Err r) h =
      commit_back (Ok (fetched (refusal_mdir r) (refusal_seed seed r))) Err
      (TooMany (fetched (refusal_mdir r) (refusal_seed seed r))) seed (λ e. refl) (written r h)

  pub stored_determined : (f : Result ℕ Refusal) → AnswerOr R f → StoredTold f
  stored_determined (Ok n) h other = refl
  stored_determined (Err r) h other =
      commit_back (Ok 0) Err (TooMany (fetched zero_mdir 0)) 0 (λ e. absurd (other e)) (written r h)

-- ---- the same, of each call
pub le32_told : (s : List ℕ) (off : ℕ) → WordTold (le32_at s off)
le32_told s off = word_determined WordRefuses word_plain (le32_at s off) (le32_possible s off)

pub be32_told : (s : List ℕ) (off : ℕ) → WordTold (be32_at s off)
be32_told s off = word_determined WordRefuses word_plain (be32_at s off) (be32_possible s off)

pub put_told : (s : List ℕ) (off : ℕ) → AlteredTold (put_answer s off)
put_told s off = altered_determined WordRefuses word_plain (put_answer s off) (put_possible s off)

pub aligndown_told : (a m : ℕ) → WordTold (align_down a m)
aligndown_told a m = word_determined AlignRefuses align_plain (align_down a m) (aligndown_possible a m)

pub alignup_told : (a m : ℕ) → WordTold (align_up a m)
alignup_told a m = word_determined AlignRefuses align_plain (align_up a m) (alignup_possible a m)

module _ (g : Geometry) (b0 b1 : List ℕ) (n0 n1 : ℕ) (dir : LfsMdir) (gdisk : LfsGstate) where
  pub getslice_told : (mask key offset : ℕ) (buffer : List ℕ)
      → GotTold (getslice_of g b0 b1 n0 n1 dir gdisk mask key offset buffer)
  getslice_told mask key offset buffer =
      got_determined SliceRefuses (λ r h. h) _ (getslice_possible g b0 b1 n0 n1 dir gdisk mask key offset buffer)

  pub get_told : (mask key : ℕ) (buffer : List ℕ) → GotTold (get_of g b0 b1 n0 n1 dir gdisk mask key buffer)
  get_told mask key buffer =
      got_determined GetRefuses get_plain _ (get_possible g b0 b1 n0 n1 dir gdisk mask key buffer)

  pub getinfo_told : (nameMax id : ℕ) → InformedTold (getinfo_of g b0 b1 n0 n1 dir gdisk nameMax id)
  getinfo_told nameMax id =
      informed_determined GetRefuses get_plain _ (getinfo_possible g b0 b1 n0 n1 dir gdisk nameMax id)

  pub getgstate_told : AlteredTold (getgstate_of g b0 b1 n0 n1 dir gdisk)
  getgstate_told = altered_determined GstateRefuses gstate_plain _ (getgstate_possible g b0 b1 n0 n1 dir gdisk)

module _ (g : Geometry) (b0 b1 : List ℕ) (n0 n1 count seed : ℕ) where
  pub fetch_told_lem : FetchedTold seed (fetch_of g b0 b1 n0 n1 count seed)
  fetch_told_lem = fetched_determined seed _ (fetch_possible g b0 b1 n0 n1 count seed)

module _ (g : Geometry) (b0 b1 : List ℕ) (n0 n1 count seed rules e : ℕ) where
  pub commit_told : (entries : List Entry) (dat : List ℕ)
      → CommittedTold seed (commit_of g b0 b1 n0 n1 count seed rules e entries dat)
  commit_told entries dat =
      committed_determined CommitRefuses (λ r h. h) seed _
      (commit_possible g b0 b1 n0 n1 count seed rules e entries dat)

  pub commit_stores_told : (entries : List Entry) (dat : List ℕ) (n : ℕ)
      → StoredTold (commit_stores_of g b0 b1 n0 n1 count seed rules e entries dat n)
  commit_stores_told entries dat n =
      stored_determined CommitRefuses (λ r h. h) _
      (commit_stores_possible g b0 b1 n0 n1 count seed rules e entries dat n)

  pub compact_told : CommittedTold seed (compact_of g b0 b1 n0 n1 count seed rules e)
  compact_told =
      committed_determined CompactRefuses compact_written seed _ (compact_possible g b0 b1 n0 n1 count seed rules e)

  pub compact_stores_told : (n : ℕ) → StoredTold (compact_stores_of g b0 b1 n0 n1 count seed rules e n)
  compact_stores_told n =
      stored_determined CompactRefuses compact_written _ (compact_stores_possible g b0 b1 n0 n1 count seed rules e n)
