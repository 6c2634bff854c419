-- A table of which some places are in use, and what an entry makes of them. Assumes nothing.
use Rattle.std.specs.Prelude.{◌≡◌, ℕ, ◌*◌, ◌<◌, List, length, take, Err, Ok, Result}
use Rattle.std.specs.Borrow.{MutBor}
use Rattle.format.specs.Index.{padded}
use Rattle.format.specs.declared.Refusal.{Refusal}
use Rattle.format.specs.declared.Refusal.TheVariants.{TableFull}
use Rattle.index_table.specs.declared.Places.{Places}

-- the words ws are the places P, and zeros behind them
pub record Holds (ws : List ℕ) (used : ℕ) (P : List ℕ) : Type 0 where
  pub size : length P ≡ 2 * used
  pub is : ws ≡ padded (length ws) P

-- the table, and how many places of it are in use
abbrev pub table_of : Places → MutBor (List ℕ)
table_of p = p.table

abbrev pub used_of : Places → ℕ
used_of p = p.used

-- the words in use
abbrev pub in_use : Places → List ℕ
in_use p = take (2 * p.used) p.table.now

-- the places of a table
abbrev pub Has : Places → List ℕ → Type 0
Has p P = Holds p.table.now p.used P

-- they are in this table, which keeps its length
pub record Stays (p : Places) (t : MutBor (List ℕ)) : Type 0 where
  pub same : p.table.ghost_name ≡ t.ghost_name
  pub long : length p.table.now ≡ length t.now

-- a table is taken, and these are its places
pub record Takes (p : Places) (t : MutBor (List ℕ)) (P : List ℕ) : Type 0 where
  pub stays : Stays p t
  pub has : Has p P

-- the table holds what F makes of the places that it held
pub record Keeps (old new : Places) (F : List ℕ → List ℕ) : Type 0 where
  pub stays : Stays new old.table
  pub has : (P : List ℕ) → Has old P → Has new (F P)

-- there is no room for what F makes of them, and the table is as it was
pub record Lacks (old new : Places) (F : List ℕ → List ℕ) : Type 0 where
  pub same : new ≡ old
  pub short : (P : List ℕ) → Has old P → length old.table.now < length (F P)

-- the one or the other
unfoldable pub Goes : (old new : Places) (r : Result Unit Refusal) (F : List ℕ → List ℕ) → Type 0
Goes old new (Ok _) F = Keeps old new F
Goes old new (Err r) F = (r ≡ TableFull) × Lacks old new F
