-- The steps of the walk's state, as the code makes them: one record is worked on, another was taken by the last commit.
-- Assumes nothing.
use Rattle.std.specs.Prelude.{List, [], ◌∷◌, ℕ, ◌+◌, drop}
use Rattle.format.specs.Word.{to_le32, all_ones}
use Rattle.format.specs.Tag.{tag_length, tag_flipped}
use Rattle.format.specs.Kind.{is_check}
use Rattle.format.specs.Crc.{crc}
use Rattle.format.specs.Walk.{Event, ent, chk, inv, walk_from}
use Rattle.format.specs.Log.{stopped_straight}
use Rattle.fetch_walk.specs.declared.cursor.Cursor.{Cursor}
use Rattle.fetch_walk.specs.declared.Taken.{Taken}
use Rattle.fetch_walk.specs.declared.WalkState.{WalkState}
use Rattle.fetch_walk.specs.declared.Walked.{Walked}
use Rattle.fetch_walk.specs.Dir.{empty_dir, entered}

unfoldable pub taken_none : ℕ → Taken
taken_none seed = record { dir = empty_dir; off = 4; etag = all_ones; seed = seed }

unfoldable pub begun : ℕ → WalkState
begun seed = record { dir = empty_dir; taken = taken_none seed }

unfoldable pub holding : List ℕ → ℕ → ℕ → WalkState → WalkState
holding b t at w = record { dir = entered t (drop at b) w.dir; taken = w.taken }

unfoldable pub taking : ℕ → Cursor → WalkState → WalkState
taking x c w =
    record {
      dir = w.dir;
      taken = record {
        dir = w.dir;
        off = c.at;
        etag = c.prev;
        seed = crc w.taken.seed (to_le32 x);
      };
    }

-- an event's step on what a commit would take
abbrev pub step : Event → Taken → Taken
step (ent t x) k = record { dir = entered t x k.dir; off = k.off + tag_length t; etag = t; seed = k.seed }
step (chk t x) k = record {
  dir = k.dir;
  off = k.off + tag_length t;
  etag = tag_flipped t;
  seed = crc k.seed (to_le32 x);
}
step inv k = k

-- what is taken at last, where h is worked on and k was taken
unfoldable pub settles : Taken → Taken → List Event → Taken
settles h k [] = k
settles h k (ent t x ∷ es) = settles (step (ent t x) h) k es
settles h k (chk t x ∷ es) = settles (step (chk t x) h) (step (chk t x) h) es
settles h k (inv ∷ es) = settles h k es

-- what a commit would take here
unfoldable pub working : WalkState → Cursor → Taken
working w c = record { dir = w.dir; off = c.at; etag = c.prev; seed = w.taken.seed }

-- format's walk from a cursor on
unfoldable pub from : List ℕ → Cursor → List Event
from b c = walk_from c.sum c.prev (drop c.at b)

-- what the walk from a state and a cursor leaves
unfoldable pub leaves : List ℕ → WalkState → Cursor → Walked
leaves b w c =
    record {
      taken = settles (working w c) w.taken (from b c);
      straight = stopped_straight (is_check c.prev) (from b c);
    }
