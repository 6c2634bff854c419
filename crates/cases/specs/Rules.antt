-- The writer's rules at their edges: as an entry of a commit, and in a log. Assumes nothing.
use Rattle.std.specs.Prelude.{◌≡◌, refl, Bool, true, false, List, [], ◌∷◌, map, ℕ}
use Rattle.format.specs.Kind.{type_name, type_file, type_directory, type_superblock, type_dir_struct, type_inline_struct}
use Rattle.format.specs.Kind.{type_ctz_struct, type_user_attr, type_splice, type_create, type_delete, type_check, type_forward}
use Rattle.format.specs.Kind.{type_tail, type_hard_tail, type_move, no_slot}
use Rattle.format.specs.Tag.{mk_tag}
use Rattle.format.specs.Walk.{chk}
use Rattle.format.specs.Regular.{rule_of, rule_holds, regular_from, Regular}
use Rattle.format.specs.declared.Rules.TheVariants.{Document}

-- an entry against a count, and whether it passes as an entry of a commit and in a log
pub record Try : Type 0 where
  pub type : ℕ
  pub id : ℕ
  pub size : ℕ
  pub count : ℕ
  pub entered : Bool
  pub logged : Bool

abbrev pub tries : List Try
tries =
    -- "Create: id at most c, c at most 1,022, length 0."
    record { type = type_create; id = 5; size = 0; count = 5; entered = true; logged = true }
    ∷ record { type = type_create; id = 6; size = 0; count = 5; entered = false; logged = false }
    ∷ record { type = type_create; id = 0; size = 0; count = 1_022; entered = true; logged = true }
    ∷ record { type = type_create; id = 0; size = 0; count = 1_023; entered = false; logged = false }
    ∷ record { type = type_create; id = 0; size = 1; count = 0; entered = false; logged = false }
    -- "Delete: id below c, length 0."
    ∷ record { type = type_delete; id = 4; size = 0; count = 5; entered = true; logged = true }
    ∷ record { type = type_delete; id = 5; size = 0; count = 5; entered = false; logged = false }
    -- "Name 0x001 or 0x002: length 1 to 1,022"; "superblock names (as names)" in a log alone
    ∷ record { type = type_file; id = 0; size = 1; count = 1; entered = true; logged = true }
    ∷ record { type = type_directory; id = 0; size = 1_022; count = 1; entered = true; logged = true }
    ∷ record { type = type_file; id = 0; size = 0; count = 1; entered = false; logged = false }
    ∷ record { type = type_file; id = 0; size = 1_023; count = 1; entered = false; logged = false }
    ∷ record { type = type_file; id = 1; size = 1; count = 1; entered = false; logged = false }
    ∷ record { type = type_superblock; id = 0; size = 8; count = 1; entered = false; logged = true }
    ∷ record { type = type_name; id = 0; size = 1; count = 1; entered = false; logged = false }
    -- "Struct 0x200 and 0x202: 8; 0x201: 0 to 1,022."
    ∷ record { type = type_dir_struct; id = 0; size = 8; count = 1; entered = true; logged = true }
    ∷ record { type = type_ctz_struct; id = 0; size = 7; count = 1; entered = false; logged = false }
    ∷ record { type = type_inline_struct; id = 0; size = 0; count = 1; entered = true; logged = true }
    ∷ record { type = type_inline_struct; id = 0; size = 1_023; count = 1; entered = false; logged = false }
    -- "User attribute: 0 to 1,022, or 1,023 for removal": 0x300 to 0x3ff
    ∷ record { type = type_user_attr; id = 0; size = 0; count = 1; entered = true; logged = true }
    ∷ record { type = 0x3ff; id = 0; size = 1_023; count = 1; entered = true; logged = true }
    ∷ record { type = 0x374; id = 1; size = 4; count = 1; entered = false; logged = false }
    -- "Tail: id 1,023, length 8. Move state: id 1,023, length 12."
    ∷ record { type = type_tail; id = no_slot; size = 8; count = 0; entered = true; logged = true }
    ∷ record { type = type_hard_tail; id = 0; size = 8; count = 1; entered = false; logged = false }
    ∷ record { type = type_move; id = no_slot; size = 12; count = 0; entered = true; logged = true }
    ∷ record { type = type_move; id = no_slot; size = 8; count = 0; entered = false; logged = false }
    -- "forward checks (id 1,023, length 8) allowed" in a log alone; "Anything else is bad"
    ∷ record { type = type_forward; id = no_slot; size = 8; count = 0; entered = false; logged = true }
    ∷ record { type = type_splice; id = 0; size = 0; count = 1; entered = false; logged = false }
    ∷ record { type = type_check; id = no_slot; size = 4; count = 0; entered = false; logged = false }
    ∷ []

abbrev pub tried : Bool → Try → Bool
tried logged t = rule_holds (rule_of logged t.type) t.count t.id t.size

pub as_entries : map (tried false) tries ≡ map (λ t. t.entered) tries
unfolding rule_of rule_holds
as_entries = refl

pub in_a_log : map (tried true) tries ≡ map (λ t. t.logged) tries
unfolding rule_of rule_holds
in_a_log = refl

-- "every check tag's size is 4 to 1,022"
pub check_sizes : map (Regular Document) ((chk (mk_tag type_check 0 4) 0 ∷ []) ∷ (chk (mk_tag type_check 0 3) 0 ∷ [])
    ∷ (chk (mk_tag type_check 0 1_022) 0 ∷ []) ∷ (chk (mk_tag type_check 0 1_023) 0 ∷ []) ∷ [])
    ≡ true ∷ false ∷ true ∷ false ∷ []
unfolding Regular regular_from
check_sizes = refl
