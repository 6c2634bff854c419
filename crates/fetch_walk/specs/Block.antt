-- What a walk over a block leaves: each part is format's fold over the block's log. And what one leaves that goes on
-- where another ended. Assumes nothing.
use Rattle.std.specs.Prelude.{false, List, ℕ, ◌+◌, drop}
use Rattle.format.specs.Word.{all_ones}
use Rattle.format.specs.Kind.{is_check}
use Rattle.format.specs.Walk.{Event, walk_from, walk}
use Rattle.format.specs.Log.{committed, log, span, tag_after, log_end, log_end_tag, stopped_straight}
use Rattle.format.specs.Record.{count_of, no_tail, tail_of, split_of, no_forward, forward_of, seed_of}
use Rattle.fetch_walk.specs.declared.dir.DirState.{DirState}
use Rattle.fetch_walk.specs.declared.Taken.{Taken}
use Rattle.fetch_walk.specs.declared.Walked.{Walked}

abbrev pub dir_of : List Event → DirState
dir_of es = record {
  count = count_of 0 es;
  split = split_of false es;
  tail = tail_of no_tail es;
  fcrc = forward_of no_forward es;
}

abbrev pub taken_of : ℕ → List Event → Taken
taken_of seed es = record { dir = dir_of es; off = log_end es; etag = log_end_tag es; seed = seed_of seed es }

unfoldable pub walked_of : List ℕ → ℕ → Walked
walked_of b seed = record { taken = taken_of seed (log b); straight = stopped_straight false (walk b) }

-- what was taken, and then these events
abbrev pub taken_from : Taken → List Event → Taken
taken_from k es =
    record {
      dir = record {
        count = count_of k.dir.count es;
        split = split_of k.dir.split es;
        tail = tail_of k.dir.tail es;
        fcrc = forward_of k.dir.fcrc es;
      };
      off = k.off + span es;
      etag = tag_after k.etag es;
      seed = seed_of k.seed es;
    }

-- format's walk from the end of what was taken
abbrev pub walk_again : List ℕ → Taken → List Event
walk_again b k = walk_from all_ones k.etag (drop k.off b)

unfoldable pub walked_again : List ℕ → Taken → Walked
walked_again b k = record {
  taken = taken_from k (committed (walk_again b k));
  straight = stopped_straight (is_check k.etag) (walk_again b k);
}
