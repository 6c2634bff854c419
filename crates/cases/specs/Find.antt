-- Document 02, L4, by computation: a slot by its name, in logs that make, rename and remove slots, and in the listing's
-- pair; by both rules. Assumes nothing.
use Rattle.std.specs.Prelude.{◌≡◌, refl, List, [], ◌∷◌, ◌++◌, map, ℕ, Err, None, Ok, Option, Result, Some}
use Rattle.format.specs.Word.{be32, le32, to_le32, xor}
use Rattle.format.specs.Tag.{tag_length, tag_flipped, mk_tag}
use Rattle.format.specs.Kind.{type_file, type_directory, type_inline_struct, type_create, type_delete}
use Rattle.format.specs.Crc.{crc, crc_byte, crc_bits, crc_bit}
use Rattle.format.specs.Walk.{Event, ent, read_behind, class_of, body_length, walk_in, walk_from, walk}
use Rattle.format.specs.Log.{committed, log, event_length, span, tag_after, stopped_straight}
use Rattle.format.specs.Record.{counted, count_of, tail_of, split_of, forward_of, seed_of}
use Rattle.format.specs.View.{rank, view}
use Rattle.format.specs.Fetch.{geometry_fits, pair_fits, too_high, erased_of, mdir_of, fetch_of}
use Rattle.format.specs.Regular.{rule_of, rule_holds, count_after, grows_after, count_raised, regular_from, Regular}
use Rattle.format.specs.Directory.{empty, upd, reaching, apply, dir, act, acts, dir_of}
use Rattle.format.specs.Find.{same_bytes, is_named, first_named, find_in, find_of}
use Rattle.format.specs.Listing.{ascii, hex_digit, decimal_in, hex_bytes, is_plain, name_byte, name_bytes, number_line}
use Rattle.format.specs.Listing.{name_fields, struct_fields, slot_line, attr_line, attr_lines, refused_line, fetch_input}
use Rattle.format.specs.FindText.{named_text, found_text, find_text_as}
use Rattle.format.specs.declared.Refusal.TheVariants.{Invalid, Corrupt, Irregular}
use Rattle.format.specs.declared.Rules.{Rules}
use Rattle.format.specs.declared.Rules.TheVariants.{Document, Littlefs}
use Rattle.cases.specs.Listing.{blank}
use Rattle.cases.specs.Littlefs.{geometry, grown}
use Rattle.format.specs.declared.Refusal.{Refusal}

-- ---- logs, and who has the name "a"
abbrev made : ℕ → Event
made id = ent (mk_tag type_create id 0) []

abbrev removed : ℕ → Event
removed id = ent (mk_tag type_delete id 0) []

abbrev a : ℕ → Event
a id = ent (mk_tag type_file id 1) (0x61 ∷ [])

abbrev ab : ℕ → Event
ab id = ent (mk_tag type_file id 2) (0x61 ∷ 0x62 ∷ [])

abbrev directory : ℕ → Event
directory id = ent (mk_tag type_directory id 1) (0x61 ∷ [])

abbrev struct : ℕ → Event
struct id = ent (mk_tag type_inline_struct id 1) (0x61 ∷ [])

pub record Try : Type 0 where
  pub events : List Event
  pub document : Result (Option ℕ) Refusal
  pub littlefs : Result (Option ℕ) Refusal

abbrev both : List Event → Result (Option ℕ) Refusal → Try
both es n = record { events = es; document = n; littlefs = n }

abbrev pub tries : List Try
tries =
    both [] (Ok None)
    ∷ both (made 0 ∷ a 0 ∷ []) (Ok (Some 0))
    -- "the lowest id"
    ∷ both (made 0 ∷ made 1 ∷ a 1 ∷ a 0 ∷ []) (Ok (Some 0))
    -- two slots named "a", then delete 0: the other one has the id 0 now
    ∷ both (made 0 ∷ a 0 ∷ made 1 ∷ a 1 ∷ removed 0 ∷ []) (Ok (Some 0))
    ∷ both (made 0 ∷ a 0 ∷ made 1 ∷ a 1 ∷ removed 0 ∷ removed 0 ∷ []) (Ok None)
    -- "It follows creates, deletes and renames as it goes."
    ∷ both (made 0 ∷ a 0 ∷ made 0 ∷ []) (Ok (Some 1))
    ∷ both (made 0 ∷ a 0 ∷ made 1 ∷ []) (Ok (Some 0))
    ∷ both (made 0 ∷ made 1 ∷ a 1 ∷ removed 0 ∷ []) (Ok (Some 0))
    ∷ both (made 0 ∷ a 0 ∷ ab 0 ∷ []) (Ok None)
    ∷ both (made 0 ∷ ab 0 ∷ a 0 ∷ []) (Ok (Some 0))
    -- other bytes, another type, and bytes that are no name's
    ∷ both (made 0 ∷ ab 0 ∷ []) (Ok None)
    ∷ both (made 0 ∷ directory 0 ∷ []) (Ok None)
    ∷ both (made 0 ∷ struct 0 ∷ []) (Ok None)
    -- "an irregular log is -202", by either rule
    ∷ both (made 0 ∷ a 0 ∷ removed 1 ∷ []) (Err Irregular)
    ∷ record { events = a 1 ∷ []; document = Err Irregular; littlefs = Ok (Some 1) }
    ∷ []

abbrev asked : Rules → Try → Result (Option ℕ) Refusal
asked r t = find_in r (0x61 ∷ []) type_file t.events

pub by_document : map (asked Document) tries ≡ map (λ t. t.document) tries
unfolding find_in first_named is_named same_bytes dir_of dir acts act apply reaching upd empty Regular regular_from rule_of
    rule_holds count_after grows_after count_raised
by_document = refl

pub by_littlefs : map (asked Littlefs) tries ≡ map (λ t. t.littlefs) tries
unfolding find_in first_named is_named same_bytes dir_of dir acts act apply reaching upd empty Regular regular_from rule_of
    rule_holds count_after grows_after count_raised
by_littlefs = refl

-- ---- a pair without creates, whose slot 1 has the name q212; by the rule's number, the name and its type
abbrev find : ℕ → List ℕ → ℕ → Result (Option ℕ) Refusal
find rules name type = find_of geometry grown (blank 128) 0 1 0 0 rules name type

pub calls : (find 1 (ascii "q212") 1 ≡ Ok (Some 1)) × (find 1 (ascii "q21") 1 ≡ (Ok None)) × (find 1 (ascii "q2122") 1 ≡ (Ok None))
    × (find 1 (ascii "q212") 2 ≡ (Ok None)) × (find 1 (ascii "q212") 0x1001 ≡ (Ok None))
    × (find 0 (ascii "q212") 1 ≡ Err Irregular) × (find 2 (ascii "q212") 1 ≡ Err Invalid)
    × (find 1 [] 1 ≡ Err Invalid)
    × (find_of geometry (blank 128) (blank 128) 0 1 0 0 1 (ascii "q212") 1 ≡ Err Corrupt)
unfolding find_of find_in first_named is_named same_bytes dir_of acts act dir apply reaching upd empty Regular regular_from
    rule_of rule_holds count_after grows_after count_raised fetch_of mdir_of erased_of too_high pair_fits geometry_fits view rank
    seed_of forward_of split_of tail_of count_of counted stopped_straight tag_after span event_length log committed walk walk_from
    walk_in class_of read_behind body_length tag_flipped tag_length be32 le32 to_le32 xor crc crc_byte crc_bits crc_bit
calls = (refl, refl, refl, refl, refl, refl, refl, refl, refl)

-- the same as the program shows it
abbrev shown : ℕ → List ℕ → List ℕ
shown rules name = find_text_as 16 (record { n0 = 0; n1 = 1 }) rules name 1 (grown ++ blank 128)

pub texts : (shown 1 (ascii "q212") ≡ ascii "slot 1 001 q212 201 3\n") × (shown 1 (ascii "q21") ≡ ascii "none\n")
    × (shown 0 (ascii "q212") ≡ ascii "refused -202\n") × (shown 1 [] ≡ ascii "refused -22\n")
    × (shown 2 (ascii "q212") ≡ ascii "refused -22\n")
unfolding found_text named_text find_in first_named is_named same_bytes fetch_input refused_line attr_lines attr_line slot_line
    struct_fields name_fields number_line name_bytes name_byte is_plain hex_bytes decimal_in hex_digit dir_of acts act dir apply
    reaching upd empty Regular regular_from rule_of rule_holds count_after grows_after count_raised fetch_of mdir_of erased_of
    too_high pair_fits geometry_fits view rank seed_of forward_of split_of tail_of count_of counted stopped_straight tag_after span
    event_length log committed walk walk_from walk_in class_of read_behind body_length tag_flipped tag_length be32 le32 to_le32
    xor crc crc_byte crc_bits crc_bit
texts = (refl, refl, refl, refl, refl)
