-- The audit of a pair's instructions: the text that names each slot with a payload and no deadline, or a deadline and
-- no payload. Either is left where the two went into separate commits. An input is taken, and refused, as the listing
-- takes it. Assumes nothing.
use Rattle.std.specs.Prelude.{Bool, true, false, not, cond, ◌&&◌, ◌||◌, List, [], ◌∷◌, ◌++◌, ℕ, suc, ◌+◌, length, ltb, eqb, None, Option, Some}
use Rattle.format.specs.Log.{log}
use Rattle.format.specs.Regular.{Regular, rules_of}
use Rattle.format.specs.Directory.{Load, Slot, dir_of}
use Rattle.format.specs.Listing.{ascii, decimal, name_bytes, number_line, refused_line, fetch_input, fetched_text}
use Rattle.format.specs.Listing.{ruled_text, input_prog, input_pair, input_rules}
use Rattle.format.specs.declared.Rules.{Rules}
use Rattle.format.specs.declared.LfsPair.{LfsPair}
use Rattle.format.specs.declared.LfsMdir.{LfsMdir}
use Rattle.format.specs.declared.Refusal.TheVariants.{Irregular}

-- ---- what a slot lacks
-- A slot is an instruction unless its name says directory (0x002) or superblock (0x0ff). With no name it is one.
unfoldable pub is_instruction : Option Load → Bool
is_instruction None = true
is_instruction (Some v) = not (eqb v.type 0x002) && not (eqb v.type 0x0ff)

-- It has a payload if its struct is CTZ (0x202), or inline (0x201) of one byte or more.
unfoldable pub is_payload : Option Load → Bool
is_payload None = false
is_payload (Some v) = eqb v.type 0x202 || (eqb v.type 0x201 && ltb 0 (length v.bytes))

-- Its deadline is the user attribute 0x74, of four bytes. Of any other length it can't be read: it is there, and is no
-- deadline to go by.
unfoldable pub is_deadline : Option Load → Bool
is_deadline None = false
is_deadline (Some v) = eqb (length v.bytes) 4

unfoldable pub is_there : Option Load → Bool
is_there None = false
is_there (Some v) = true

abbrev pub deadline_class : ℕ
deadline_class = 2 + 0x74

-- a payload, and no deadline that can be read
unfoldable pub lacks_deadline : Slot → Bool
lacks_deadline s = is_instruction (s 0) && (is_payload (s 1) && not (is_deadline (s deadline_class)))

-- a deadline, be it one that can't be read, and no payload
unfoldable pub lacks_payload : Slot → Bool
lacks_payload s = is_instruction (s 0) && (is_there (s deadline_class) && not (is_payload (s 1)))

-- ---- the lines
-- The name as in the listing; `-` where there is none.
unfoldable pub name_or_dash : Option Load → List ℕ
name_or_dash None = ascii "-"
name_or_dash (Some v) = name_bytes v.bytes

-- `slot ID NAME`, and what it lacks: ` no deadline` or ` no payload`
unfoldable pub lack_line : ℕ → Option Load → List ℕ → List ℕ
lack_line id name what = ascii "slot " ++ (decimal id ++ (ascii " " ++ (name_or_dash name ++ what)))

-- A deadline that can't be read is told apart from a missing one: `slot ID NAME deadline of N bytes`.
unfoldable pub deadline_line : ℕ → Option Load → Option Load → List ℕ
deadline_line id name None = lack_line id name (ascii " no deadline\n")
deadline_line id name (Some v) = lack_line id name (ascii " deadline of ")
    ++ (decimal (length v.bytes) ++ ascii " bytes\n")

-- A slot has one of the two lines, or none.
unfoldable pub audit_line : ℕ → Slot → List ℕ
audit_line id s =
    cond (lacks_deadline s) (deadline_line id (s 0) (s deadline_class))
    (cond (lacks_payload s) (lack_line id (s 0) (ascii " no payload\n")) [])

-- the slots from id on, by rising id
unfoldable pub audit_lines : ℕ → List Slot → List ℕ
audit_lines id [] = []
audit_lines id (s ∷ D) = audit_line id s ++ audit_lines (suc id) D

-- how many slots there are of a kind
unfoldable pub tally : (Slot → Bool) → List Slot → ℕ
tally is [] = 0
tally is (s ∷ D) = cond (is s) 1 0 + tally is D

-- Behind them three lines: how many lack a deadline, how many a payload, and of how many slots.
unfoldable pub total_lines : ℕ → ℕ → ℕ → List ℕ
total_lines d p n = number_line (ascii "payload without deadline ") d
    ++ (number_line (ascii "deadline without payload ") p ++ number_line (ascii "slots ") n)

unfoldable pub slots_audit : List Slot → List ℕ
slots_audit D = audit_lines 0 D ++ total_lines (tally lacks_deadline D) (tally lacks_payload D) (length D)

-- ---- the whole text
-- A log that isn't regular, by the rule that was asked for, has no directory: -202, and nothing else.
unfoldable pub block_audit : Rules → LfsMdir → List ℕ → List ℕ
block_audit r m b = cond (Regular r (log b)) (slots_audit (dir_of (log b))) (refused_line Irregular)

-- the audit, by that rule, of a pair of that program size, whose blocks have those numbers; and of an input as the
-- listing takes it
abbrev pub audit_as : ℕ → LfsPair → ℕ → List ℕ → List ℕ
audit_as prog p rules input = ruled_text rules
    (fetched_text (block_audit (rules_of rules)) p input (fetch_input prog p input))

abbrev pub audit_of : List ℕ → List ℕ
audit_of input = audit_as input_prog input_pair input_rules input
