-- Document 01, The added writer: the rules that entries run against, and which logs are regular: by its rule, or by
-- littlefs's beside it. Assumes nothing.
use Rattle.std.specs.Prelude.{Bool, true, false, cond, ◌&&◌, ◌||◌, List, [], ◌∷◌, ℕ, suc, ◌+◌, ◌-◌, leb, ltb, eqb, Result, Ok, Err}
use Rattle.format.specs.Tag.{tag_type3, tag_id, tag_size, removal_size}
use Rattle.format.specs.Kind.{type_file, type_directory, type_superblock, type_dir_struct, type_inline_struct}
use Rattle.format.specs.Kind.{type_ctz_struct, type_user_attr, type_create, type_delete, type_forward, type_tail}
use Rattle.format.specs.Kind.{type_hard_tail, type_move, no_slot}
use Rattle.format.specs.Walk.{Event, ent, chk, inv}
use Rattle.format.specs.declared.Refusal.{Refusal}
use Rattle.format.specs.declared.Refusal.TheVariants.{Invalid}
use Rattle.format.specs.declared.Rules.{Rules}
use Rattle.format.specs.declared.Rules.TheVariants.{Document, Littlefs}

-- Which rule a type falls under.
pub data Rule : Type 0 where
  create delete name inlined eight attribute tail move forward bad : Rule

-- `logged`: in a log "superblock names (as names) and forward checks .. allowed", which are bad as entries of a commit.
unfoldable pub rule_of : Bool → ℕ → Rule
rule_of logged type =
    cond (eqb type type_create) create
    (cond (eqb type type_delete) delete
    (cond (eqb type type_file || eqb type type_directory || (logged && eqb type type_superblock)) name
    (cond (eqb type type_inline_struct) inlined
    (cond (eqb type type_dir_struct || eqb type type_ctz_struct) eight
    (cond (leb type_user_attr type && ltb type (type_user_attr + 0x100)) attribute
    (cond (eqb type type_tail || eqb type type_hard_tail) tail
    (cond (eqb type type_move) move
    (cond (logged && eqb type type_forward) forward
    bad))))))))

abbrev pub between : ℕ → ℕ → ℕ → Bool
between low high n = leb low n && leb n high

-- "Create: id at most c, c at most 1,022, length 0. Delete: id below c, length 0. Name ..: length 1 to 1,022. Struct
-- 0x200 and 0x202: 8; 0x201: 0 to 1,022. User attribute: 0 to 1,022, or 1,023 for removal with no data. These last
-- three need id below c. Tail: id 1,023, length 8. Move state: id 1,023, length 12. Anything else is bad" and "forward
-- checks (id 1,023, length 8)".
unfoldable pub rule_holds : Rule → ℕ → ℕ → ℕ → Bool
rule_holds create c id size = leb id c && leb c 1_022 && eqb size 0
rule_holds delete c id size = ltb id c && eqb size 0
rule_holds name c id size = ltb id c && between 1 1_022 size
rule_holds inlined c id size = ltb id c && leb size 1_022
rule_holds eight c id size = ltb id c && eqb size 8
rule_holds attribute c id size = ltb id c && leb size removal_size
rule_holds tail c id size = eqb id no_slot && eqb size 8
rule_holds move c id size = eqb id no_slot && eqb size 12
rule_holds forward c id size = eqb id no_slot && eqb size 8
rule_holds bad c id size = false

-- "Entries run against a count c": a create adds one, a delete takes one away.
unfoldable pub count_after : Rule → ℕ → ℕ
count_after create c = suc c
count_after delete c = c - 1
count_after name c = c
count_after inlined c = c
count_after eight c = c
count_after attribute c = c
count_after tail c = c
count_after move c = c
count_after forward c = c
count_after bad c = c

-- ---- littlefs's rule
-- "The same, but as long as no create or delete has come, a name (0x001, 0x002, 0x0ff) with an id at or above the
-- count, and at most 1,022, first raises the count to id + 1; the slots in between are made, empty." So names may make
-- slots from the beginning of a log, or never.
abbrev pub grows : Rules → Bool
grows Document = false
grows Littlefs = true

-- "as long as no create or delete has come"
unfoldable pub grows_after : Bool → Rule → Bool
grows_after g create = false
grows_after g delete = false
grows_after g name = g
grows_after g inlined = g
grows_after g eight = g
grows_after g attribute = g
grows_after g tail = g
grows_after g move = g
grows_after g forward = g
grows_after g bad = g

-- "a name .. with an id at or above the count, and at most 1,022, first raises the count to id + 1"
unfoldable pub count_raised : Bool → Rule → ℕ → ℕ → ℕ
count_raised g create c id = c
count_raised g delete c id = c
count_raised g name c id = cond (g && (leb c id && leb id 1_022)) (suc id) c
count_raised g inlined c id = c
count_raised g eight c id = c
count_raised g attribute c id = c
count_raised g tail c id = c
count_raised g move c id = c
count_raised g forward c id = c
count_raised g bad c id = c

-- ---- a log
-- the rule of an entry of a log, and the count that it runs against, where the count is c before it
abbrev pub logged_rule : ℕ → Rule
logged_rule t = rule_of true (tag_type3 t)

abbrev pub count_at : Bool → ℕ → ℕ → ℕ
count_at g c t = count_raised g (logged_rule t) c (tag_id t)

-- The events of a log pass the rules from a count on, and "every check tag's size is 4 to 1,022". `g`: names may make
-- slots.
unfoldable pub regular_from : Bool → ℕ → List Event → Bool
regular_from g c [] = true
regular_from g c (ent t d ∷ es) = rule_holds (logged_rule t) (count_at g c t) (tag_id t) (tag_size t)
    && regular_from (grows_after g (logged_rule t)) (count_after (logged_rule t) (count_at g c t)) es
regular_from g c (chk t x ∷ es) = between 4 1_022 (tag_size t) && regular_from g c es
regular_from g c (inv ∷ es) = regular_from g c es

-- "A log is regular if every check tag's size is 4 to 1,022 and its committed entries pass these rules from c = 0".
unfoldable pub Regular : Rules → List Event → Bool
Regular r es = regular_from (grows r) 0 es

-- ---- the rule as a call takes it: 0 document 01's, 1 littlefs's too; "any other -22"
abbrev pub rules_fit : ℕ → Bool
rules_fit n = leb n 1

abbrev pub rules_of : ℕ → Rules
rules_of n = cond (eqb n 0) Document Littlefs

-- "any other -22"
abbrev pub rules_from : ℕ → Result Rules Refusal
rules_from n = cond (rules_fit n) (Ok (rules_of n)) (Err Invalid)
