-- Document 01, Fetch: the answer of `lfs_dir_fetch`, a function of the two blocks' view, their numbers and, for the
-- erased mark, the answering block's bytes. Assumes nothing.
use Rattle.std.specs.Prelude.{Bool, true, false, not, cond, ◌&&◌, ◌||◌, List, ℕ, ◌+◌, ◌%◌, length, take, drop, leb, ltb, eqb, Err, Ok, Result}
use Rattle.format.specs.Word.{all_ones}
use Rattle.format.specs.Crc.{crc}
use Rattle.format.specs.Walk.{Event, walk}
use Rattle.format.specs.Log.{log_end, log_end_tag, stopped_straight}
use Rattle.format.specs.Record.{count_of, no_tail, tail_of, split_of, no_forward, forward_of, seed_of}
use Rattle.format.specs.View.{View, none, at, view}
use Rattle.format.specs.declared.Geometry.{Geometry}
use Rattle.format.specs.declared.LfsFcrc.{LfsFcrc}
use Rattle.format.specs.declared.LfsMdir.{LfsMdir}
use Rattle.format.specs.declared.Refusal.TheVariants.{Invalid, Corrupt, TooMany}
use Rattle.format.specs.declared.Fetched.{Fetched}
use Rattle.format.specs.declared.Refusal.{Refusal}
use Rattle.format.specs.Record.{fetched}

-- "Block size 128 to 32,768; program size 4 to 512; block size a multiple of it."
unfoldable pub geometry_fits : Geometry → Bool
geometry_fits g =
    leb 4 g.prog_size && leb g.prog_size 512 && leb 128 g.block_size && leb g.block_size 32_768
    && eqb (g.block_size % g.prog_size) 0

-- Sizes that fit, and "two images, each exactly one block long".
abbrev pub images_fit : Geometry → ℕ → ℕ → Bool
images_fit g length0 length1 = geometry_fits g && eqb length0 g.block_size && eqb length1 g.block_size

-- All that document 01 asks of a pair: these, and "two block numbers, not equal".
unfoldable pub pair_fits : Geometry → ℕ → ℕ → ℕ → ℕ → Bool
pair_fits g length0 length1 n0 n1 = images_fit g length0 length1 && not (eqb n0 n1)

-- "block number not below a non-zero block count"
unfoldable pub too_high : ℕ → ℕ → Bool
too_high count n = not (eqb count 0) && leb count n

-- "the last one's checksum from 0xffffffff over that many bytes from the end fits. Ours: a forward length past the
-- block gives no."
abbrev pub forward_fits : List ℕ → ℕ → LfsFcrc → Bool
forward_fits b end f = f.seen
    && (leb (end + f.size) (length b) && eqb (crc all_ones (take f.size (drop end b))) f.sum)

-- "Erased is yes exactly if the walk stopped on an invalid tag straight after a commit, the end is a multiple of the
-- program size, a forward check was seen in ANY commit so far, and the last one's checksum .. fits."
unfoldable pub erased_of : ℕ → List ℕ → List Event → Bool
erased_of prog b es =
    stopped_straight false (walk b) && eqb (log_end es % prog) 0 && forward_fits b (log_end es) (forward_of no_forward es)

-- The record of the block n, whose bytes are b, with the revision and the log of its view; m is the other block's
-- number.
unfoldable pub mdir_of : ℕ → ℕ → ℕ → List ℕ → ℕ → List Event → LfsMdir
mdir_of prog n m b rev es =
    record {
      pair = record { n0 = n; n1 = m };
      rev = rev;
      off = log_end es;
      etag = log_end_tag es;
      count = count_of 0 es;
      erased = erased_of prog b es;
      split = split_of false es;
      tail = tail_of no_tail es;
      fcrc = forward_of no_forward es;
    }

-- "-2 | fetch: count above 1,023 | fetch: record and seed as read"
abbrev pub few_enough : LfsMdir → ℕ → Result Fetched Refusal
few_enough m seed = cond (ltb 1_023 m.count) (Err (TooMany (fetched m seed))) (Ok (fetched m seed))

-- "neither block has a valid commit" is -84; else the block of the view answers
abbrev pub viewed : ℕ → ℕ → ℕ → List ℕ → List ℕ → ℕ → View → Result Fetched Refusal
viewed prog n0 n1 b0 b1 seed none = Err Corrupt
viewed prog n0 n1 b0 b1 seed (at false rev es) = few_enough (mdir_of prog n0 n1 b0 rev es) (seed_of seed es)
viewed prog n0 n1 b0 b1 seed (at true rev es) = few_enough (mdir_of prog n1 n0 b1 rev es) (seed_of seed es)

-- "Fetch tests -22, -84, -2."
unfoldable pub fetch_of : Geometry → List ℕ → List ℕ → ℕ → ℕ → ℕ → ℕ → Result Fetched Refusal
fetch_of g b0 b1 n0 n1 count seed =
    cond (not (pair_fits g (length b0) (length b1) n0 n1)) (Err Invalid)
    (cond (too_high count n0 || too_high count n1) (Err Corrupt)
    (viewed g.prog_size n0 n1 b0 b1 seed (view b0 b1)))
