-- Document 02, L6: "Refetch from the known end." The answer of `lfs_dir_refetch`, for any record, seed and images: the
-- walk goes on at the record's end, and what it commits there is added to the record. Assumes nothing.
use Rattle.std.specs.Prelude.{◌≡◌, ◌⊎◌, Bool, not, cond, ◌&&◌, ◌||◌, List, ℕ, ◌+◌, ◌-◌, ◌%◌, length, drop, leb, eqb, Err, Ok, Result}
use Rattle.format.specs.Word.{all_ones}
use Rattle.format.specs.Tag.{tag_length}
use Rattle.format.specs.Kind.{is_check}
use Rattle.format.specs.Walk.{Event, walk_from}
use Rattle.format.specs.Log.{committed, span, tag_after, stopped_straight}
use Rattle.format.specs.Record.{count_of, tail_of, split_of, no_forward, forward_of, seed_of}
use Rattle.format.specs.Fetch.{too_high, forward_fits, few_enough}
use Rattle.format.specs.Lookup.{record_fits, block_of}
use Rattle.format.specs.declared.Geometry.{Geometry}
use Rattle.format.specs.declared.LfsFcrc.{LfsFcrc}
use Rattle.format.specs.declared.LfsMdir.{LfsMdir}
use Rattle.format.specs.declared.Refusal.TheVariants.{Invalid, Corrupt, TooMany}
use Rattle.format.specs.declared.Fetched.{Fetched}
use Rattle.format.specs.declared.Refusal.{Refusal}
use Rattle.format.specs.Record.{fetched}

-- "A record whose end passes the block or is below 8, or whose pair isn't the given one, is -22", as a broken size or
-- number is.
abbrev pub refetch_fits : Geometry → ℕ → ℕ → ℕ → ℕ → LfsMdir → Bool
refetch_fits g length0 length1 n0 n1 m = record_fits g length0 length1 n0 n1 m && leb 8 m.off

-- A record without a forward check has none, whatever its size and sum say.
abbrev pub held_forward : LfsMdir → LfsFcrc
held_forward m = cond m.fcrc.seen m.fcrc no_forward

-- "continue at the end only": with the record's end tag as the previous tag, and the checksum that restarts behind a
-- check. b is the block that the record was read from.
abbrev pub walk_behind : List ℕ → LfsMdir → List Event
walk_behind b m = walk_from all_ones m.etag (drop m.off b)

-- The record behind the events es, from the record m: each part goes on from m's own. The walk stops straight after a
-- commit if it does so in es, or stops at once and m's end tag is a check's.
unfoldable pub mdir_behind : ℕ → List ℕ → LfsMdir → List Event → LfsMdir
mdir_behind prog b m es =
    let off : ℕ = m.off + span (committed es) in
    let fcrc : LfsFcrc = forward_of (held_forward m) (committed es) in
    record {
      pair = m.pair;
      rev = m.rev;
      off = off;
      etag = tag_after m.etag (committed es);
      count = count_of m.count (committed es);
      erased = stopped_straight (is_check m.etag) es && eqb (off % prog) 0 && forward_fits b off fcrc;
      split = split_of m.split (committed es);
      tail = tail_of m.tail (committed es);
      fcrc = fcrc;
    }

abbrev pub continued : ℕ → List ℕ → ℕ → LfsMdir → Result Fetched Refusal
continued prog b seed m =
    few_enough (mdir_behind prog b m (walk_behind b m)) (seed_of seed (committed (walk_behind b m)))

-- `lfs_dir_refetch`: -22, -84, and fetch's -2 by the count at the end.
unfoldable pub refetch_of : Geometry → List ℕ → List ℕ → ℕ → ℕ → ℕ → ℕ → LfsMdir → Result Fetched Refusal
refetch_of g b0 b1 n0 n1 count seed m =
    cond (not (refetch_fits g (length b0) (length b1) n0 n1 m)) (Err Invalid)
    (cond (too_high count n0 || too_high count n1) (Err Corrupt)
    (continued g.prog_size (block_of b0 b1 n0 m) seed m))

-- ---- when it equals a fetch
-- "a record and seed of an earlier fetch": found, or handed back as read with -2
abbrev pub Gave : Result Fetched Refusal → LfsMdir → ℕ → Type 0
Gave f m s = (f ≡ Ok (fetched m s)) ⊎ (f ≡ Err (TooMany (fetched m s)))

-- "all bytes of this block before the record's end and in its last checksum": how many, from the block's start. The
-- checksum's four bytes follow the check's tag, so they reach past an end that is less than eight bytes behind it.
abbrev pub known_to : LfsMdir → ℕ
known_to m = m.off + (8 - tag_length m.etag)
