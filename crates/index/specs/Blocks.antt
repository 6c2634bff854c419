-- What is answered and left of one block, where the sizes and numbers have passed. Assumes nothing.
use Rattle.std.specs.Prelude.{Bool, not, cond, List, ℕ, ◌^◌, ◌≤◌, length, Err, Option, Result}
use Rattle.format.specs.Index.{log_to, indexable, extendable, built, extended, indexed_as, table_as}
use Rattle.format.specs.declared.Rules.{Rules}
use Rattle.format.specs.declared.Refusal.TheVariants.{Irregular}
use Rattle.format.specs.declared.Refusal.{Refusal}

-- an end inside the block, which is not too long
pub record InBlock (b : List ℕ) (end : ℕ) : Type 0 where
  pub inside : end ≤ length b
  pub small : length b ≤ 2 ^ 16

-- -202, or what the table comes to
unfoldable pub block_answer : Bool → Option (List ℕ) → Result ℕ Refusal
block_answer x v = cond (not x) (Err Irregular) (indexed_as v)

unfoldable pub block_table : Bool → List ℕ → Option (List ℕ) → List ℕ
block_table x table v = cond (not x) table (table_as (length table) v)

-- a build
abbrev pub indexed_in : Rules → List ℕ → ℕ → ℕ → Result ℕ Refusal
indexed_in r b end n = block_answer (indexable r b end) (built n (log_to b end))

abbrev pub tabled_in : Rules → List ℕ → ℕ → List ℕ → List ℕ
tabled_in r b end table = block_table (indexable r b end) table (built (length table) (log_to b end))

-- an extension
abbrev pub extended_in : Rules → List ℕ → ℕ → ℕ → List ℕ → Result ℕ Refusal
extended_in r b old end table = block_answer (extendable r b old end) (extended table b old end)

abbrev pub extended_table : Rules → List ℕ → ℕ → ℕ → List ℕ → List ℕ
extended_table r b old end table = block_table (extendable r b old end) table (extended table b old end)
