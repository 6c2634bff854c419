-- littlefs's rule beside document 01's: logs at its edges, the slots that names make, and a pair that littlefs's own
-- compaction might have written, listed, committed to and compacted by both. Assumes nothing.
use Rattle.std.specs.Prelude.{◌≡◌, refl, Bool, true, false, List, [], ◌∷◌, ◌++◌, map, ℕ, length, None, Some}
use Rattle.format.specs.Word.{be32, le32, to_be32, to_le32, xor}
use Rattle.format.specs.Tag.{tag_length, tag_flipped, tag_of, mk_tag}
use Rattle.format.specs.Kind.{type_file, type_superblock, type_inline_struct, type_user_attr, type_create, type_delete}
use Rattle.format.specs.Crc.{crc, crc_byte, crc_bits, crc_bit}
use Rattle.format.specs.Walk.{Event, ent, read_behind, class_of, body_length, walk_in, walk_from, walk}
use Rattle.format.specs.Log.{committed, log, event_length, span, tag_after, stopped_straight}
use Rattle.format.specs.Record.{counted, count_of, tail_of, split_of, forward_of, seed_of}
use Rattle.format.specs.View.{rank, view}
use Rattle.format.specs.Fetch.{geometry_fits, pair_fits, too_high, erased_of, mdir_of, fetch_of}
use Rattle.format.specs.Regular.{rule_of, rule_holds, count_after, grows_after, count_raised, regular_from, Regular}
use Rattle.format.specs.Directory.{empty, upd, reaching, apply, dir, act, acts, dir_of, move_of}
use Rattle.format.specs.Commit.{Item, commit_bytes}
use Rattle.format.specs.Erased.{all_erased, check_type, validity_fits}
use Rattle.format.specs.Stores.{tag_coincides, coincides, fill, entries_length, appending}
use Rattle.format.specs.Room.{room_of}
use Rattle.format.specs.Entries.{judge, entry_body}
use Rattle.format.specs.Writer.{accepted, refused, commit_fits, rounded_end, check_size, unit_check, forward_item, carries}
use Rattle.format.specs.Writer.{carried_for, with_forward, placed, appended, verdict_of}
use Rattle.format.specs.Compaction.{slot_items, dir_items, compaction_items, compact_refused, placed_anew, compactable}
use Rattle.format.specs.Compaction.{compact_verdict}
use Rattle.format.specs.Listing.{ascii, hex_digit, decimal_in, hex_bytes, is_plain, name_byte, name_bytes, number_line}
use Rattle.format.specs.Listing.{tail_line, erased_line, record_lines, name_fields, struct_fields, slot_line, attr_line}
use Rattle.format.specs.Listing.{attr_lines, slot_lines, refused_line, dir_lines, block_text, fetch_input, listing_as}
use Rattle.format.specs.declared.Geometry.{Geometry}
use Rattle.format.specs.declared.Refusal.TheVariants.{Invalid, Irregular, NoSpace}
use Rattle.format.specs.declared.Rules.TheVariants.{Document, Littlefs}
use Rattle.cases.specs.Listing.{blank}

-- ---- logs at the edges of the rule: regular by document 01, by littlefs's rule, and the slots that there are
pub record Try : Type 0 where
  pub events : List Event
  pub document : Bool
  pub littlefs : Bool
  pub slots : ℕ

-- entries without their data: the rules ask for none
abbrev named : ℕ → Event
named id = ent (mk_tag type_file id 1) []

abbrev superblock : ℕ → Event
superblock id = ent (mk_tag type_superblock id 8) []

abbrev struct : ℕ → Event
struct id = ent (mk_tag type_inline_struct id 0) []

abbrev attribute : ℕ → Event
attribute id = ent (mk_tag type_user_attr id 0) []

abbrev made : ℕ → Event
made id = ent (mk_tag type_create id 0) []

abbrev removed : ℕ → Event
removed id = ent (mk_tag type_delete id 0) []

abbrev pub tries : List Try
tries =
    -- by document 01's rule already
    record { events = made 0 ∷ named 0 ∷ struct 0 ∷ []; document = true; littlefs = true; slots = 1 }
    -- "a name (0x001, 0x002, 0x0ff) with an id at or above the count .. first raises the count to id + 1"
    ∷ record { events = named 0 ∷ []; document = false; littlefs = true; slots = 1 }
    ∷ record { events = superblock 0 ∷ named 1 ∷ struct 1 ∷ []; document = false; littlefs = true; slots = 2 }
    ∷ record { events = named 1 ∷ named 0 ∷ named 1 ∷ []; document = false; littlefs = true; slots = 2 }
    -- "the slots in between are made, empty"
    ∷ record { events = named 3 ∷ struct 2 ∷ []; document = false; littlefs = true; slots = 4 }
    -- ".. and at most 1,022"
    ∷ record { events = named 1_022 ∷ []; document = false; littlefs = true; slots = 1_023 }
    ∷ record { events = named 1_023 ∷ []; document = false; littlefs = false; slots = 1_024 }
    -- "as long as no create or delete has come"
    ∷ record { events = named 1 ∷ made 0 ∷ named 2 ∷ []; document = false; littlefs = true; slots = 3 }
    ∷ record { events = made 0 ∷ named 1 ∷ []; document = false; littlefs = false; slots = 2 }
    ∷ record { events = named 0 ∷ removed 0 ∷ named 0 ∷ []; document = false; littlefs = false; slots = 1 }
    -- a name alone, and one that passes its own rule
    ∷ record { events = struct 0 ∷ []; document = false; littlefs = false; slots = 1 }
    ∷ record { events = attribute 0 ∷ []; document = false; littlefs = false; slots = 1 }
    ∷ record { events = ent (mk_tag type_file 0 0) [] ∷ []; document = false; littlefs = false; slots = 1 }
    ∷ []

pub by_document : map (λ t. Regular Document t.events) tries ≡ map (λ t. t.document) tries
unfolding Regular regular_from rule_of rule_holds count_after grows_after count_raised
by_document = refl

pub by_littlefs : map (λ t. Regular Littlefs t.events) tries ≡ map (λ t. t.littlefs) tries
unfolding Regular regular_from rule_of rule_holds count_after grows_after count_raised
by_littlefs = refl

pub counted_slots : map (λ t. length (dir_of t.events)) tries ≡ map (λ t. t.slots) tries
unfolding dir_of dir acts act apply reaching upd empty
counted_slots = refl

-- ---- the slots in between are empty
abbrev gap : List Event
gap = ent (mk_tag type_file 2 1) (0x61 ∷ []) ∷ []

pub in_between : map (λ s. s 0) (dir_of gap)
    ≡ None ∷ None ∷ Some (record { type = type_file; bytes = 0x61 ∷ [] }) ∷ []
unfolding dir_of dir acts act apply reaching upd empty
in_between = refl

-- ---- a pair without creates: one name, q212, of the id 1, and its payload
abbrev pub geometry : Geometry
geometry = record { block_size = 128; prog_size = 16 }

abbrev pub grown : List ℕ
grown =
    (0x01 ∷ 0x00 ∷ 0x00 ∷ 0x00 ∷ 0xff ∷ 0xef ∷ 0xfb ∷ 0xfb ∷ 0x71 ∷ 0x32 ∷ 0x31 ∷ 0x32 ∷ 0x20 ∷ 0x00 ∷ 0x00 ∷
    0x07 ∷ 0x61 ∷ 0x62 ∷ 0x63 ∷ 0x70 ∷ 0x1f ∷ 0xf8 ∷ 0x0a ∷ 0xea ∷ 0x89 ∷ 0x60 ∷ 0x17 ∷ [])
    ++ blank 101

-- listed by document 01's rule, by littlefs's, and by none
pub texts : (listing_as 16 (record { n0 = 0; n1 = 1 }) 0 (grown ++ blank 128)
    ≡ ascii "rev 1\nblock 0\nend 32\ncount 2\ntail none\nerased no\nrefused -202\n")
    × (listing_as 16 (record { n0 = 0; n1 = 1 }) 1 (grown ++ blank 128)
    ≡ ascii "rev 1\nblock 0\nend 32\ncount 2\ntail none\nerased no\nslot 0 - - - -\nslot 1 001 q212 201 3\n")
    × (listing_as 16 (record { n0 = 0; n1 = 1 }) 2 (grown ++ blank 128) ≡ ascii "refused -22\n")
unfolding fetch_input block_text dir_lines refused_line slot_lines attr_lines attr_line slot_line struct_fields name_fields
    record_lines erased_line tail_line number_line name_bytes name_byte is_plain hex_bytes decimal_in hex_digit dir_of acts act dir
    apply reaching upd empty Regular regular_from rule_of rule_holds count_after grows_after count_raised fetch_of mdir_of
    erased_of too_high pair_fits geometry_fits view rank seed_of forward_of split_of tail_of count_of counted stopped_straight
    tag_after span event_length log committed walk walk_from walk_in class_of read_behind body_length tag_flipped tag_length be32
    le32 to_le32 xor crc crc_byte crc_bits crc_bit
texts = (refl, refl, refl)

-- a commit of nothing but the forward check: by the three numbers
pub commits : (verdict_of geometry grown (blank 128) 0 1 0 0 0 0xff [] [] ≡ refused Irregular)
    × (verdict_of geometry grown (blank 128) 0 1 0 0 1 0xff [] []
    ≡ accepted false (forward_item (unit_check 0xff 16) ∷ []) 16)
    × (verdict_of geometry grown (blank 128) 0 1 0 0 2 0xff [] [] ≡ refused Invalid)
unfolding with_forward carried_for carries verdict_of commit_fits pair_fits geometry_fits fetch_of too_high view rank log
    committed walk walk_from walk_in class_of read_behind body_length tag_length tag_flipped be32 le32 to_be32 to_le32 xor crc
    crc_byte crc_bits crc_bit mdir_of erased_of stopped_straight span event_length tag_after count_of counted split_of tail_of
    forward_of seed_of appended Regular regular_from rule_of rule_holds count_after grows_after count_raised judge entry_body
    placed rounded_end check_size room_of all_erased coincides tag_coincides fill check_type validity_fits entries_length tag_of
    appending commit_bytes
commits = (refl, refl, refl)

-- what its compaction lays down: a create for each slot, the empty one too
pub compacted : map (λ (i : Item). i.tag) (compaction_items (log grown))
    ≡ mk_tag type_create 0 0 ∷ mk_tag type_create 1 0 ∷ mk_tag type_file 1 4 ∷ mk_tag type_inline_struct 1 3 ∷ []
unfolding compaction_items dir_items slot_items dir_of dir acts act apply reaching upd empty move_of split_of tail_of log
    committed walk walk_from walk_in class_of read_behind body_length tag_flipped tag_length be32 le32 xor crc crc_byte crc_bits
    crc_bit tag_of
compacted = refl

-- ---- and where they have no room: one name, of the id 40, and 41 creates of four bytes each in a block of 128
abbrev pub wide : List ℕ
wide =
    (0x01 ∷ 0x00 ∷ 0x00 ∷ 0x00 ∷ 0xff ∷ 0xef ∷ 0x5f ∷ 0xfe ∷ 0x61 ∷ 0x50 ∷ 0x1f ∷ 0x5c ∷ 0x12 ∷ 0x4b ∷ 0x6c
    ∷ 0x35 ∷ 0x59 ∷ [])
    ++ blank 111

pub no_room : (compact_verdict geometry wide (blank 128) 0 1 0 0 0 0xff ≡ compact_refused Irregular)
    × (compact_verdict geometry wide (blank 128) 0 1 0 0 1 0xff ≡ compact_refused NoSpace)
    × (compact_verdict geometry wide (blank 128) 0 1 0 0 2 0xff ≡ compact_refused Invalid)
unfolding with_forward carried_for carries compact_verdict compactable placed_anew compaction_items dir_items slot_items dir_of
    dir acts act apply reaching upd empty move_of pair_fits geometry_fits fetch_of too_high view rank log committed walk
    walk_from walk_in class_of read_behind body_length tag_length tag_flipped be32 le32 to_be32 to_le32 xor crc crc_byte crc_bits
    crc_bit mdir_of erased_of stopped_straight span event_length tag_after count_of counted split_of tail_of forward_of seed_of
    Regular regular_from rule_of rule_holds count_after grows_after count_raised rounded_end check_size coincides tag_coincides
    fill check_type validity_fits entries_length tag_of
no_room = (refl, refl, refl)
