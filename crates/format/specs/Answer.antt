-- Document 01's table of refusals, and for each answer its number and the values that come back with it. A promise
-- about an answer is one about these. Assumes nothing.
use Rattle.std.specs.Prelude.{Bool, true, false, ℕ, min, ℤ, pos, neg_ℤ, replicate, Err, None, Ok, Option, Result, Some}
use Rattle.format.specs.Word.{all_ones}
use Rattle.format.specs.Record.{no_forward}
use Rattle.format.specs.declared.LfsMdir.{LfsMdir}
use Rattle.format.specs.declared.LfsInfo.{LfsInfo}
use Rattle.format.specs.declared.Refusal.{Refusal}
use Rattle.format.specs.declared.Refusal.TheVariants as refusal
use Rattle.format.specs.declared.Found.{Found}
use Rattle.format.specs.declared.Fetched.{Fetched}

-- ---- the table "-22 | a size or number above is broken"; "-84 | fetch: block number not below a non-zero block count,
-- or neither block has a valid commit; lookup: the matched bytes pass the block"; "-2 | fetch: count above 1,023;
-- lookup: no entry"; "-201 | an entry is bad"; "-202 | the committed log isn't regular"; "-28 | the rounded end passes
-- the block"; "-204 | the checksum coincidence"; and document 02, L1: "-203 becomes -211 misaligned end, -212 top bit,
-- -213 byte with offset"; L7: the second "is now 'wrong validity bit'"; L8: "-221 table too small"; L9: "-232 depth,
-- -231 allowance spent"
abbrev pub refusal_number : Refusal → ℤ
refusal_number refusal.Invalid = neg_ℤ (pos 22)
refusal_number refusal.Corrupt = neg_ℤ (pos 84)
refusal_number refusal.NoEntry = neg_ℤ (pos 2)
refusal_number (refusal.TooMany f) = neg_ℤ (pos 2)
refusal_number (refusal.BadEntry i) = neg_ℤ (pos 201)
refusal_number refusal.Irregular = neg_ℤ (pos 202)
refusal_number refusal.NoSpace = neg_ℤ (pos 28)
refusal_number refusal.Misaligned = neg_ℤ (pos 211)
refusal_number refusal.WrongValidity = neg_ℤ (pos 212)
refusal_number (refusal.NotErased at) = neg_ℤ (pos 213)
refusal_number refusal.Coincidence = neg_ℤ (pos 204)
refusal_number refusal.TableFull = neg_ℤ (pos 221)
refusal_number refusal.Spent = neg_ℤ (pos 231)
refusal_number refusal.TooDeep = neg_ℤ (pos 232)

-- what comes back: "record all zero", but for a count above 1,023 "record and seed as read"
abbrev pub zero_mdir : LfsMdir
zero_mdir =
    record {
      pair = record { n0 = 0; n1 = 0 };
      rev = 0;
      off = 0;
      etag = 0;
      count = 0;
      erased = false;
      split = false;
      tail = record { n0 = 0; n1 = 0 };
      fcrc = no_forward;
    }

abbrev pub refusal_mdir : Refusal → LfsMdir
refusal_mdir refusal.Invalid = zero_mdir
refusal_mdir refusal.Corrupt = zero_mdir
refusal_mdir refusal.NoEntry = zero_mdir
refusal_mdir (refusal.TooMany f) = f.dir
refusal_mdir (refusal.BadEntry i) = zero_mdir
refusal_mdir refusal.Irregular = zero_mdir
refusal_mdir refusal.NoSpace = zero_mdir
refusal_mdir refusal.Misaligned = zero_mdir
refusal_mdir refusal.WrongValidity = zero_mdir
refusal_mdir (refusal.NotErased at) = zero_mdir
refusal_mdir refusal.Coincidence = zero_mdir
refusal_mdir refusal.TableFull = zero_mdir
refusal_mdir refusal.Spent = zero_mdir
refusal_mdir refusal.TooDeep = zero_mdir

-- "seed as given"
abbrev pub refusal_seed : ℕ → Refusal → ℕ
refusal_seed seed refusal.Invalid = seed
refusal_seed seed refusal.Corrupt = seed
refusal_seed seed refusal.NoEntry = seed
refusal_seed seed (refusal.TooMany f) = f.seed
refusal_seed seed (refusal.BadEntry i) = seed
refusal_seed seed refusal.Irregular = seed
refusal_seed seed refusal.NoSpace = seed
refusal_seed seed refusal.Misaligned = seed
refusal_seed seed refusal.WrongValidity = seed
refusal_seed seed (refusal.NotErased at) = seed
refusal_seed seed refusal.Coincidence = seed
refusal_seed seed refusal.TableFull = seed
refusal_seed seed refusal.Spent = seed
refusal_seed seed refusal.TooDeep = seed

-- "index from 0 of the first bad one", and of the byte that isn't erased "its offset in the block"
abbrev pub refusal_index : Refusal → ℕ
refusal_index refusal.Invalid = 0
refusal_index refusal.Corrupt = 0
refusal_index refusal.NoEntry = 0
refusal_index (refusal.TooMany f) = 0
refusal_index (refusal.BadEntry i) = i
refusal_index refusal.Irregular = 0
refusal_index refusal.NoSpace = 0
refusal_index refusal.Misaligned = 0
refusal_index refusal.WrongValidity = 0
refusal_index (refusal.NotErased at) = at
refusal_index refusal.Coincidence = 0
refusal_index refusal.TableFull = 0
refusal_index refusal.Spent = 0
refusal_index refusal.TooDeep = 0

-- ---- the answers: 0, or the refusal's number; the values of a refusal are 0 where nothing comes back
-- a test answers "exactly 0 or 1"
abbrev pub flag_of : Bool → ℕ
flag_of true = 1
flag_of false = 0

abbrev pub result_number : {A : Type 0} → Result A Refusal → ℤ
result_number (Ok x) = pos 0
result_number (Err r) = refusal_number r

-- a word, the number of stores made: "the number made is the answer"
abbrev pub answer_value : Result ℕ Refusal → ℕ
answer_value (Ok v) = v
answer_value (Err r) = 0

-- the record and the seed of a fetch, a commit or a compaction
abbrev pub answer_mdir : Result Fetched Refusal → LfsMdir
answer_mdir (Ok f) = f.dir
answer_mdir (Err r) = refusal_mdir r

abbrev pub answer_seed : ℕ → Result Fetched Refusal → ℕ
answer_seed seed (Ok f) = f.seed
answer_seed seed (Err r) = refusal_seed seed r

-- the index of a call that writes
abbrev pub answer_index : {A : Type 0} → Result A Refusal → ℕ
answer_index (Ok x) = 0
answer_index (Err r) = refusal_index r

abbrev pub none_found : Found
none_found = record { tag = 0; length = 0; off = 0 }

abbrev pub got_found : Result Found Refusal → Found
got_found (Ok e) = e
got_found (Err r) = none_found

-- the word of an answer, the tag or the refusal: what demands 2 and 3 compare, with the buffer
abbrev pub got_word : Result Found Refusal → Result ℕ Refusal
got_word (Ok e) = Ok e.tag
got_word (Err r) = Err r

-- a slot was found, and its id; none: 0, false, 0
abbrev pub named_found : Result (Option ℕ) Refusal → Bool
named_found (Ok (Some id)) = true
named_found (Ok None) = false
named_found (Err r) = false

abbrev pub named_id : Result (Option ℕ) Refusal → ℕ
named_id (Ok (Some id)) = id
named_id (Ok None) = 0
named_id (Err r) = 0

-- the places in use, in the 32 bits that C has for them: "0 on a refusal"
abbrev pub indexed_places : Result ℕ Refusal → ℕ
indexed_places (Ok n) = min n all_ones
indexed_places (Err r) = 0

-- "A refusal leaves the info all zero."
abbrev pub answer_info : Result LfsInfo Refusal → LfsInfo
answer_info (Ok i) = i
answer_info (Err r) = record { kind = 0; size = 0; name = replicate 256 0 }
