-- What a record says of its block, as the walk that goes on from it takes it. Assumes nothing.
use Rattle.std.specs.Prelude.{List, ℕ, ◌<◌, ◌≤◌, length}
use Rattle.format.specs.Refetch.{held_forward}
use Rattle.format.specs.declared.LfsMdir.{LfsMdir}
use Rattle.fetch_walk.specs.declared.Taken.{Taken}

unfoldable pub known_by : ℕ → LfsMdir → Taken
known_by seed m = record {
  dir = record { count = m.count; split = m.split; tail = m.tail; fcrc = held_forward m };
  off = m.off;
  etag = m.etag;
  seed = seed;
}

-- the sizes that were tested: no division by zero, numbers that fit, and a record whose end lies in the block
pub record Known (prog : ℕ) (b : List ℕ) (m : LfsMdir) : Type 0 where
  pub divides : 0 < prog
  pub high : length b ≤ 32_768
  pub within : m.off ≤ length b
