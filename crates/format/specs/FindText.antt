-- What the program `find` shows: "the slot's line and its attributes as the listing does, or .. that there is none".
-- Assumes nothing.
use Rattle.std.specs.Prelude.{cond, List, ℕ, length, get_or, eqb, Err, None, Ok, Option, Result, Some}
use Rattle.format.specs.Log.{log}
use Rattle.format.specs.Regular.{rules_of}
use Rattle.format.specs.Directory.{Slot, empty, dir_of}
use Rattle.format.specs.Find.{find_in}
use Rattle.format.specs.Listing.{ascii, slot_text, refused_line, fetch_input, fetched_text, ruled_text}
use Rattle.format.specs.declared.Rules.{Rules}
use Rattle.format.specs.declared.LfsPair.{LfsPair}
use Rattle.format.specs.declared.LfsMdir.{LfsMdir}
use Rattle.format.specs.declared.Refusal.TheVariants.{Invalid}
use Rattle.format.specs.declared.Refusal.{Refusal}

-- an answer, of a directory
unfoldable pub named_text : List Slot → Result (Option ℕ) Refusal → List ℕ
named_text D (Ok (Some id)) = slot_text id (get_or D id empty)
named_text D (Ok None) = ascii "none\n"
named_text D (Err r) = refused_line r

-- of the block that fetch answers from
unfoldable pub found_text : Rules → List ℕ → ℕ → LfsMdir → List ℕ → List ℕ
found_text r name type m b = named_text (dir_of (log b)) (find_in r name type (log b))

-- "an empty name is -22"
abbrev pub named_by : List ℕ → List ℕ → List ℕ
named_by name text = cond (eqb (length name) 0) (refused_line Invalid) text

-- of both images, one behind the other, as the listing takes them
abbrev pub find_text_as : ℕ → LfsPair → ℕ → List ℕ → ℕ → List ℕ → List ℕ
find_text_as prog p rules name type input = ruled_text rules
    (named_by name (fetched_text (found_text (rules_of rules) name type) p input (fetch_input prog p input)))
