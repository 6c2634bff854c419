-- What a pass over the tags of a log asks: where the log ends. Assumes nothing.
use Rattle.std.specs.Prelude.{◌≡◌, List, ℕ, ◌+◌, ◌≤◌, length, drop}
use Rattle.format.specs.Walk.{Event, walk_from}
use Rattle.format.specs.Log.{committed, log, span, log_end}

-- the committed log of the block ends at `end`
pub record CommittedTo (b : List ℕ) (end : ℕ) : Type 0 where
  pub word : 4 ≤ length b
  pub ends : end ≡ log_end (log b)

-- what is committed from a place on, by the previous tag and the checksum there
abbrev pub committed_from : List ℕ → ℕ → ℕ → ℕ → List Event
committed_from b at prev sum = committed (walk_from sum prev (drop at b))

-- it ends at `end`, with some checksum at the start
pub record Onwards (b : List ℕ) (at prev end : ℕ) : Type 0 where
  pub sum : ℕ
  pub ends : at + span (committed_from b at prev sum) ≡ end
