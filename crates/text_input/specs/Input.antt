-- What the functions over an input ask and leave. Assumes nothing.
use Rattle.std.specs.Prelude.{◌≡◌, List, ℕ, ◌^◌, ◌≤◌, length}
use Rattle.format.specs.Log.{log, log_end, log_end_tag}
use Rattle.format.specs.Record.{count_of}
use Rattle.format.specs.Regular.{rules_of}
use Rattle.format.specs.Listing.{ruled_text, fetched_text, fetch_input}
use Rattle.format.specs.declared.LfsMdir.{LfsMdir}
use Rattle.format.specs.declared.LfsPair.{LfsPair}
use Rattle.format.specs.declared.Rules.{Rules}

-- the record of the block, as far as a text walks by it
pub record Listable (b : List ℕ) (m : LfsMdir) : Type 0 where
  pub word : 4 ≤ length b
  pub most : length b ≤ 2 ^ 16
  pub ends : m.off ≡ log_end (log b)
  pub end_tag : m.etag ≡ log_end_tag (log b)
  pub count' : m.count ≡ count_of 0 (log b)

-- the text of an input by a rule, where `shows` is what is said of the record and of the block that answers
abbrev pub input_text : (Rules → LfsMdir → List ℕ → List ℕ) → ℕ → LfsPair → ℕ → List ℕ → List ℕ
input_text shows prog p rules input =
    ruled_text rules (fetched_text (shows (rules_of rules)) p input (fetch_input prog p input))
