-- What the pass asks and what it leaves. Assumes nothing.
use Rattle.std.specs.Prelude.{◌≡◌, true, List, ℕ, ◌^◌, ◌≤◌, length, Option, Result}
use Rattle.format.specs.Log.{log, log_end}
use Rattle.format.specs.Regular.{Regular}
use Rattle.format.specs.declared.Rules.TheVariants.{Littlefs}
use Rattle.format.specs.Index.{placed_from, ran_on, indexed_as, table_as}
use Rattle.commit_regular.specs.Ends.{committed_from, Onwards}
use Rattle.index_table.specs.Held.{table_of, in_use, Has, Stays}
use Rattle.index_table.specs.declared.Places.{Places}
use Rattle.format.specs.declared.Refusal.{Refusal}

-- the entries to run, a block that is not too long, and a table whose places in use have only zeros behind them
pub record Startable (b : List ℕ) (from prev end : ℕ) (p : Places) : Type 0 where
  pub onwards : Onwards b from prev end
  pub small : length b ≤ 2 ^ 16
  pub has : Has p (in_use p)

-- the answer and the table are those of the entries run on its places
abbrev pub ran_from : (b : List ℕ) (from prev end : ℕ) → Onwards b from prev end → Places → Option (List ℕ)
ran_from b from prev end k p = ran_on (length (table_of p).now) (in_use p) (placed_from from (committed_from b from prev k.sum))

pub record Ran (b : List ℕ) (from prev end : ℕ) (k : Onwards b from prev end) (old new : Places) (r : Result ℕ Refusal)
    : Type 0 where
  pub answer : r ≡ indexed_as (ran_from b from prev end k old)
  pub left : (table_of new).now ≡ table_as (length (table_of old).now) (ran_from b from prev end k old)

-- whatever the checksum at the start is
pub record Runs (b : List ℕ) (from prev end : ℕ) (old new : Places) (r : Result ℕ Refusal) : Type 0 where
  pub stays : Stays new (table_of old)
  pub ran : (k : Onwards b from prev end) → Ran b from prev end k old new r

-- a block whose log ends at `end` and is regular, by littlefs's rule, which is the wider one
pub record Buildable (b : List ℕ) (end : ℕ) : Type 0 where
  pub word : 4 ≤ length b
  pub small : length b ≤ 2 ^ 16
  pub ends : end ≡ log_end (log b)
  pub regular : Regular Littlefs (log b) ≡ true
