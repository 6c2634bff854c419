-- Document 02, L4: "a pass over the chosen block that answers the lowest id whose live name has the given bytes and
-- type, or none". What it answers, said of the directory machine; that it is what asking slot by slot gives is a theorem
-- (`find_is_asking` of promises). Assumes nothing.
use Rattle.std.specs.Prelude.{Bool, true, false, not, cond, ◌&&◌, List, [], ◌∷◌, ℕ, suc, length, eqb, Err, None, Ok, Option, Result, Some}
use Rattle.format.specs.Walk.{Event}
use Rattle.format.specs.Log.{log}
use Rattle.format.specs.Fetch.{fetch_of}
use Rattle.format.specs.Regular.{Regular, rules_fit, rules_of}
use Rattle.format.specs.Directory.{Load, Slot, dir_of}
use Rattle.format.specs.Writer.{block_at, is_second}
use Rattle.format.specs.declared.Geometry.{Geometry}
use Rattle.format.specs.declared.Rules.{Rules}
use Rattle.format.specs.declared.Refusal.TheVariants.{Invalid, Irregular}
use Rattle.format.specs.declared.Fetched.{Fetched}
use Rattle.format.specs.declared.Refusal.{Refusal}

-- "exactly these bytes"
unfoldable pub same_bytes : List ℕ → List ℕ → Bool
same_bytes [] [] = true
same_bytes [] (y ∷ ys) = false
same_bytes (x ∷ xs) [] = false
same_bytes (x ∷ xs) (y ∷ ys) = eqb x y && same_bytes xs ys

-- what stands under a slot's name has "the given bytes and type"
unfoldable pub is_named : List ℕ → ℕ → Option Load → Bool
is_named name type None = false
is_named name type (Some v) = eqb v.type type && same_bytes v.bytes name

-- "the lowest id .. or none": of slots whose ids begin at id
unfoldable pub first_named : List ℕ → ℕ → ℕ → List Slot → Result (Option ℕ) Refusal
first_named name type id [] = (Ok None)
first_named name type id (s ∷ D) = cond (is_named name type (s 0)) (Ok (Some id)) (first_named name type (suc id) D)

-- of a log: "an irregular log is -202"
unfoldable pub find_in : Rules → List ℕ → ℕ → List Event → Result (Option ℕ) Refusal
find_in r name type es = cond (Regular r es) (first_named name type 0 (dir_of es)) (Err Irregular)

-- fetch's own refusals, or the block that it answers from
abbrev pub find_fetched : Rules → List ℕ → ℕ → List ℕ → List ℕ → ℕ → Result Fetched Refusal → Result (Option ℕ) Refusal
find_fetched r name type b0 b1 n0 (Err q) = Err q
find_fetched r name type b0 b1 n0 (Ok f) = find_in r name type (log (block_at (is_second n0 f.dir) b0 b1))

-- what a call asks of a rule and a name: 0 or 1, and "an empty name is -22"
abbrev pub askable : ℕ → List ℕ → Bool
askable rules name = rules_fit rules && not (eqb (length name) 0)

-- `lfs_dir_find`: -22 (sizes, numbers, empty name), fetch's own, -202; -22 of the sizes and numbers comes from fetch
unfoldable pub find_of : Geometry → List ℕ → List ℕ → ℕ → ℕ → ℕ → ℕ → ℕ → List ℕ → ℕ → Result (Option ℕ) Refusal
find_of g b0 b1 n0 n1 count seed rules name type =
    cond (not (askable rules name)) (Err Invalid)
    (find_fetched (rules_of rules) name type b0 b1 n0 (fetch_of g b0 b1 n0 n1 count seed))
