-- Document 01, The added writer: the entry records of a commit over their data buffer, what each makes, and which is
-- the first bad one. Assumes nothing.
use Rattle.std.specs.Prelude.{Bool, false, cond, ◌&&◌, ◌||◌, List, [], ◌∷◌, map, ℕ, suc, ◌+◌, length, take, drop, leb, eqb}
use Rattle.format.specs.Tag.{removal_size, tag_of}
use Rattle.format.specs.Regular.{Rule, rule_of, rule_holds, count_after}
use Rattle.format.specs.Commit.{Item}
use Rattle.format.specs.declared.Entry.{Entry}

-- "1,023 for removal with no data": no other rule than a user attribute's passes this length.
abbrev pub is_removal : Entry → Bool
is_removal e = eqb e.len removal_size

-- the data of an entry: `len` bytes of the buffer from `off` on, and none for a removal
unfoldable pub entry_body : List ℕ → Entry → List ℕ
entry_body dat e = cond (is_removal e) [] (take e.len (drop e.off dat))

-- what it makes: a tag of type, id and length, and the data
abbrev pub entry_item : List ℕ → Entry → Item
entry_item dat e = record { tag = tag_of e.kind e.id e.len; body = entry_body dat e }

abbrev pub items_of : List ℕ → List Entry → List Item
items_of dat es = map (entry_item dat) es

abbrev pub entry_rule : Entry → Rule
entry_rule e = rule_of false e.kind

-- "offset plus length past the buffer, also for length 0; a removal's offset isn't read"
abbrev pub in_buffer : List ℕ → Entry → Bool
in_buffer dat e = is_removal e || leb (e.off + e.len) (length dat)

-- An entry is good at a count if it passes the rule of its type there and its data are in the buffer.
abbrev pub entry_holds : List ℕ → ℕ → Entry → Bool
entry_holds dat c e = rule_holds (entry_rule e) c e.id e.len && in_buffer dat e

-- The first bad entry's index, or, of good entries, the count behind them.
pub data Judged : Type 0 where
  bad : ℕ → Judged
  good : ℕ → Judged

-- "Entries run against a count c": es from the index i and the count c on. "-201 | an entry is bad | index from 0 of
-- the first bad one"
unfoldable pub judge : List ℕ → ℕ → ℕ → List Entry → Judged
judge dat i c [] = good c
judge dat i c (e ∷ es) = cond (entry_holds dat c e) (judge dat (suc i) (count_after (entry_rule e) c) es) (bad i)
