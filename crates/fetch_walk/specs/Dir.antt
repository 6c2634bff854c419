-- The steps of the directory record, in the terms of format's folds. Assumes nothing.
use Rattle.std.specs.Prelude.{false, cond, List, ℕ, ◌%◌, eqb}
use Rattle.format.specs.Tag.{tag_chunk, tag_splice, tag_id}
use Rattle.format.specs.Kind.{is_tail, is_forward}
use Rattle.format.specs.Count.{count_named, count_spliced}
use Rattle.format.specs.Record.{counted, pair_in, no_tail, forward_in, no_forward}
use Rattle.fetch_walk.specs.declared.dir.DirState.{DirState}

unfoldable pub empty_dir : DirState
empty_dir = record { count = 0; split = false; tail = no_tail; fcrc = no_forward }

abbrev pub with_count : ℕ → DirState → DirState
with_count n d = record { count = n; split = d.split; tail = d.tail; fcrc = d.fcrc }

unfoldable pub named : ℕ → DirState → DirState
named t d = with_count (count_named d.count (tag_id t)) d

unfoldable pub spliced : ℕ → DirState → DirState
spliced t d = with_count (count_spliced d.count (tag_splice t)) d

-- x are the bytes behind the tag
unfoldable pub tailed : ℕ → List ℕ → DirState → DirState
tailed t x d = record { count = d.count; split = eqb (tag_chunk t % 2) 1; tail = pair_in x; fcrc = d.fcrc }

unfoldable pub forwarded : List ℕ → DirState → DirState
forwarded x d = record { count = d.count; split = d.split; tail = d.tail; fcrc = forward_in x }

-- any entry: each part as its own fold has it
unfoldable pub entered : ℕ → List ℕ → DirState → DirState
entered t x d =
    record {
      count = counted d.count t;
      split = cond (is_tail t) (eqb (tag_chunk t % 2) 1) d.split;
      tail = cond (is_tail t) (pair_in x) d.tail;
      fcrc = cond (is_forward t) (forward_in x) d.fcrc;
    }
