-- What fetch reads off a walk, as the code does it: the record, the erased mark, the answer, the two blocks in rank.
-- Assumes nothing.
use Rattle.std.specs.Prelude.{Bool, false, ◌&&◌, List, ℕ, ◌%◌, ◌<◌, ◌≤◌, eqb, length, Result}
use Rattle.format.specs.Word.{le32}
use Rattle.format.specs.Log.{log}
use Rattle.format.specs.View.{rank}
use Rattle.format.specs.Fetch.{forward_fits, few_enough, viewed}
use Rattle.format.specs.declared.LfsPair.{LfsPair}
use Rattle.format.specs.declared.LfsMdir.{LfsMdir}
use Rattle.fetch_walk.specs.declared.Walked.{Walked}
use Rattle.format.specs.declared.Fetched.{Fetched}
use Rattle.format.specs.declared.Refusal.{Refusal}

-- the sizes that were tested: no division by zero, room for a revision, and numbers that fit
pub record Readables (prog : ℕ) (b c : List ℕ) : Type 0 where
  pub divides : 0 < prog
  pub low : 4 ≤ length b
  pub high : length b ≤ 32_768
  pub other_low : 4 ≤ length c
  pub other_high : length c ≤ 32_768

-- the same of a block that was walked: the end of what was taken lies in it
pub record Readable (prog : ℕ) (b : List ℕ) (w : Walked) : Type 0 where
  pub divides : 0 < prog
  pub high : length b ≤ 32_768
  pub within : w.taken.off ≤ length b

unfoldable pub erased_by : ℕ → List ℕ → Walked → Bool
erased_by prog b w =
    let k = w.taken in
    w.straight && eqb (k.off % prog) 0 && forward_fits b k.off k.dir.fcrc

unfoldable pub mdir_by : ℕ → LfsPair → ℕ → List ℕ → Walked → LfsMdir
mdir_by prog pair rev b w =
    let k = w.taken in
    record {
      pair = pair;
      rev = rev;
      off = k.off;
      etag = k.etag;
      count = k.dir.count;
      erased = erased_by prog b w;
      split = k.dir.split;
      tail = k.dir.tail;
      fcrc = k.dir.fcrc;
    }

unfoldable pub answer_by : ℕ → LfsPair → ℕ → List ℕ → Walked → Result Fetched Refusal
answer_by prog pair rev b w = few_enough (mdir_by prog pair rev b w) w.taken.seed

-- the block n with the bytes b is tried first
unfoldable pub in_order : ℕ → ℕ → List ℕ → ℕ → List ℕ → ℕ → Result Fetched Refusal
in_order prog n b m c seed = viewed prog n m b c seed (rank false (le32 b) (le32 c) (log b) (log c))
