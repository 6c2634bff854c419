-- Document 02, L8, by computation: the tables of logs, each place worked out by hand; what is too much for a table; the
-- listing's pair, and a pair of two commits, by which a table is extended; what tables answer, also those that no build
-- made. A place's tag is type * 2^20 + id * 2^10 + size, its offset where the tag stands + 4. Assumes nothing.
use Rattle.std.specs.Prelude.{◌≡◌, refl, Bool, true, false, List, [], ◌∷◌, ◌++◌, map, ℕ, replicate, Err, Ok, Result}
use Rattle.format.specs.Word.{be32, le32, xor}
use Rattle.format.specs.Tag.{tag_length, tag_flipped, tag_of, mk_tag}
use Rattle.format.specs.Kind.{type_file, type_directory, type_superblock, type_dir_struct, type_inline_struct, type_create}
use Rattle.format.specs.Kind.{type_delete, type_check, type_forward, type_tail, type_move, no_slot}
use Rattle.format.specs.Crc.{crc, crc_byte, crc_bits, crc_bit}
use Rattle.format.specs.Walk.{Event, ent, chk, read_behind, class_of, body_length, walk_in, walk_from, walk}
use Rattle.format.specs.Log.{committed, log, event_length, span}
use Rattle.format.specs.Record.{no_tail, no_forward}
use Rattle.format.specs.Fetch.{geometry_fits, pair_fits}
use Rattle.format.specs.Lookup.{record_fits, getslice_fits}
use Rattle.format.specs.Regular.{rule_of, rule_holds, count_after, grows_after, count_raised, regular_from, Regular}
use Rattle.format.specs.Directory.{empty, upd, reaching, apply, apply_all, act, seat_class}
use Rattle.format.specs.Index.{placed_act, placed_from, slot_places, dir_places, places_of, fit_from, indexed_as, table_as}
use Rattle.format.specs.Index.{built, index_of, index_table, rank_of, halving, index_hit, index_get_of, index_get_buffer}
use Rattle.format.specs.Index.{shifted, places_after, ran_on, leading, extend_of, extend_table}
use Rattle.format.specs.declared.LfsMdir.{LfsMdir}
use Rattle.format.specs.declared.Refusal.TheVariants.{Invalid, Corrupt, NoEntry, Irregular, TableFull}
use Rattle.format.specs.declared.Rules.TheVariants.{Document, Littlefs}
use Rattle.cases.specs.Listing.{blank, listing}
use Rattle.cases.specs.Pairs.{listed}
use Rattle.cases.specs.Littlefs.{geometry, grown}
use Rattle.format.specs.declared.Found.{Found}
use Rattle.format.specs.declared.Refusal.{Refusal}

-- ---- logs, and their places
-- entries without their data: a tag says how long they are
abbrev entry : ℕ → ℕ → ℕ → Event
entry type id size = ent (mk_tag type id size) []

abbrev made : ℕ → Event
made id = entry type_create id 0

abbrev removed : ℕ → Event
removed id = entry type_delete id 0

abbrev named : ℕ → ℕ → Event
named id size = entry type_file id size

abbrev struct : ℕ → ℕ → Event
struct id size = entry type_inline_struct id size

-- a removal
abbrev gone : ℕ → Event
gone type = entry type 0 0x3ff

-- a check of four bytes, whatever they are
abbrev check : Event
check = chk (mk_tag type_check no_slot 4) 0

pub record Try : Type 0 where
  pub events : List Event
  pub document : Bool
  pub places : List ℕ

abbrev regular : List Event → List ℕ → Try
regular es P = record { events = es; document = true; places = P }

-- by littlefs's rule alone
abbrev grown_by : List Event → List ℕ → Try
grown_by es P = record { events = es; document = false; places = P }

abbrev pub tries : List Try
tries =
    -- no entry, and a slot that is bare
    regular [] []
    ∷ regular (made 0 ∷ []) []
    -- a file: create at 4, name at 8, struct at 16, attribute at 23
    ∷ regular (made 0 ∷ named 0 4 ∷ struct 0 3 ∷ entry 0x374 0 4 ∷ check ∷ [])
    (0x0010_0004 ∷ 12 ∷ 0x2010_0003 ∷ 20 ∷ 0x3740_0004 ∷ 27 ∷ [])
    -- an attribute set at 8, another at 16, and the first anew at 21: its place stays, size and offset are new
    ∷ regular (made 0 ∷ entry 0x374 0 4 ∷ entry 0x375 0 1 ∷ entry 0x374 0 2 ∷ [])
    (0x3740_0002 ∷ 25 ∷ 0x3750_0001 ∷ 20 ∷ [])
    -- removed at 27
    ∷ regular (made 0 ∷ entry 0x374 0 4 ∷ entry 0x375 0 1 ∷ entry 0x374 0 2 ∷ gone 0x374 ∷ []) (0x3750_0001 ∷ 20 ∷ [])
    -- and set again at 31, with no bytes
    ∷ regular (made 0 ∷ entry 0x374 0 4 ∷ entry 0x375 0 1 ∷ entry 0x374 0 2 ∷ gone 0x374 ∷ entry 0x374 0 0 ∷ [])
    (0x3740_0000 ∷ 35 ∷ 0x3750_0001 ∷ 20 ∷ [])
    -- what was never set, removed at 8
    ∷ regular (made 0 ∷ gone 0x374 ∷ named 0 1 ∷ []) (0x0010_0001 ∷ 16 ∷ [])
    -- put in falling order, at 8, 13, 18 and 23: "name, struct, attributes by rising type"
    ∷ regular (made 0 ∷ entry 0x3ff 0 1 ∷ entry 0x300 0 1 ∷ struct 0 1 ∷ named 0 1 ∷ [])
    (0x0010_0001 ∷ 27 ∷ 0x2010_0001 ∷ 22 ∷ 0x3000_0001 ∷ 17 ∷ 0x3ff0_0001 ∷ 12 ∷ [])
    -- a name and a struct of other types, at 13 and at 30, take the place of those at 8 and at 18
    ∷ regular (made 0 ∷ named 0 1 ∷ entry type_directory 0 1 ∷ entry type_dir_struct 0 8 ∷ struct 0 0 ∷ [])
    (0x0020_0001 ∷ 17 ∷ 0x2010_0000 ∷ 34 ∷ [])
    -- a create at 13, below the slot whose name stands at 8; its own stands at 17
    ∷ regular (made 0 ∷ named 0 1 ∷ made 0 ∷ named 0 2 ∷ []) (0x0010_0002 ∷ 21 ∷ 0x0010_0401 ∷ 12 ∷ [])
    -- a slot made below that stays bare: the id alone is raised
    ∷ regular (made 0 ∷ named 0 1 ∷ made 0 ∷ []) (0x0010_0401 ∷ 12 ∷ [])
    -- slot 0 has a name at 8, slot 1 one at 17 and an attribute at 23; then slot 0 is removed, or slot 1
    ∷ regular (made 0 ∷ named 0 1 ∷ made 1 ∷ named 1 2 ∷ entry 0x374 1 3 ∷ removed 0 ∷ [])
    (0x0010_0002 ∷ 21 ∷ 0x3740_0003 ∷ 27 ∷ [])
    ∷ regular (made 0 ∷ named 0 1 ∷ made 1 ∷ named 1 2 ∷ entry 0x374 1 3 ∷ removed 1 ∷ []) (0x0010_0001 ∷ 12 ∷ [])
    -- "A bare slot, tail, move state and forward check take no place": at 4, 12, 24 and 40; nor does a check, at 52
    ∷ regular
    (made 0 ∷ made 1 ∷ entry type_tail no_slot 8 ∷ entry type_move no_slot 12 ∷ entry type_forward no_slot 8 ∷ check
    ∷ named 1 1 ∷ [])
    (0x0010_0401 ∷ 64 ∷ [])
    -- names that make slots: of slot 1 at 4, of slot 0 at 9, and a struct of slot 1 at 15
    ∷ grown_by (named 1 1 ∷ named 0 2 ∷ struct 1 1 ∷ [])
    (0x0010_0002 ∷ 13 ∷ 0x0010_0401 ∷ 8 ∷ 0x2010_0401 ∷ 19 ∷ [])
    -- of slot 3, at 16, behind a superblock's, and the slots in between have none
    ∷ grown_by (entry type_superblock 0 8 ∷ named 3 1 ∷ []) (0x0ff0_0008 ∷ 8 ∷ 0x0010_0c01 ∷ 20 ∷ [])
    ∷ []

pub tables : map (λ t. places_of t.events) tries ≡ map (λ t. t.places) tries
unfolding dir_places slot_places placed_from placed_act apply_all apply reaching upd empty act tag_of tag_length
tables = refl

pub by_document : map (λ t. Regular Document t.events) tries ≡ map (λ t. t.document) tries
unfolding Regular regular_from rule_of rule_holds count_after grows_after count_raised
by_document = refl

pub by_littlefs : map (λ t. Regular Littlefs t.events) tries ≡ map (λ t. true) tries
unfolding Regular regular_from rule_of rule_holds count_after grows_after count_raised
by_littlefs = refl

-- ---- "the peak counts, not the end": name at 8, struct at 13, attribute at 18, which goes again: three, then two
abbrev peak : List Event
peak = made 0 ∷ named 0 1 ∷ struct 0 1 ∷ entry 0x374 0 1 ∷ gone 0x374 ∷ []

-- what is answered in n words, and the table
abbrev answered : ℕ → List Event → Result ℕ Refusal
answered n es = indexed_as (built n es)

abbrev table : ℕ → List Event → List ℕ
table n es = table_as n (built n es)

-- room for two places, also with a word left over; and for three. "the table is then all zero"
pub peak_counts : (answered 5 peak ≡ Err TableFull) × (table 5 peak ≡ 0 ∷ 0 ∷ 0 ∷ 0 ∷ 0 ∷ [])
    × (answered 6 peak ≡ Ok 2)
    × (table 6 peak ≡ 0x0010_0001 ∷ 12 ∷ 0x2010_0001 ∷ 17 ∷ 0 ∷ 0 ∷ [])
unfolding built fit_from dir_places slot_places placed_from placed_act apply_all apply reaching upd empty act tag_of tag_length
peak_counts = (refl, refl, refl, refl)

-- "Room of entries no longer live is used again": attributes at 8 and, behind the removal of the first, at 17; in room
-- for one. And a log without entries needs none.
pub room_again : (table 2 (made 0 ∷ entry 0x300 0 1 ∷ gone 0x300 ∷ entry 0x301 0 1 ∷ []) ≡ 0x3010_0001 ∷ 21 ∷ [])
    × (table 2 (made 0 ∷ entry 0x300 0 1 ∷ entry 0x301 0 1 ∷ gone 0x300 ∷ []) ≡ 0 ∷ 0 ∷ [])
    × (answered 0 (made 0 ∷ []) ≡ Ok 0)
unfolding built fit_from dir_places slot_places placed_from placed_act apply_all apply reaching upd empty act tag_of tag_length
room_again = (refl, refl, refl)

-- ---- the listing's pair
abbrev nines : ℕ → List ℕ
nines n = replicate n 9

-- a record, of which pair and end are read: of the pair's first block
abbrev record_of : ℕ → ℕ → ℕ → LfsMdir
record_of n0 n1 off =
    record {
      pair = record { n0 = n0; n1 = n1 };
      rev = 0;
      off = off;
      etag = 0;
      count = 0;
      erased = false;
      split = false;
      tail = no_tail;
      fcrc = no_forward;
    }

abbrev up_to : ℕ → LfsMdir
up_to off = record_of 0 1 off

-- "create at 4; name tag 00100004 at 8; struct 20100003 at 0x10; attribute 37400004 at 0x17", in seven words
abbrev told : List ℕ
told = 0x0010_0004 ∷ 0x0c ∷ 0x2010_0003 ∷ 0x14 ∷ 0x3740_0004 ∷ 0x1b ∷ 0 ∷ []

pub listing_told : index_table geometry listing (blank 128) 0 1 listed 0 (nines 7) ≡ told
unfolding index_table record_fits pair_fits geometry_fits Regular regular_from rule_of rule_holds count_after grows_after
    count_raised built fit_from dir_places slot_places placed_from placed_act apply_all apply reaching upd empty act tag_of
    tag_length span event_length log committed walk walk_from walk_in class_of read_behind body_length tag_flipped be32 le32 xor
    crc crc_byte crc_bits crc_bit
listing_told = refl

-- ---- a pair of two commits: create at 4, name "a" at 8, check at 13; create of a slot below at 21, its name "bc" at
-- 25, check at 31. Ends are 21 and 39.
abbrev two : List ℕ
two =
    (0x01 ∷ 0x00 ∷ 0x00 ∷ 0x00 ∷ 0xbf ∷ 0xef ∷ 0xff ∷ 0xff ∷ 0x40 ∷ 0x00 ∷ 0x00 ∷ 0x01 ∷ 0x61 ∷ 0x50 ∷ 0x1f ∷ 0xfc
    ∷ 0x05 ∷ 0xa5 ∷ 0x3f ∷ 0x20 ∷ 0x55 ∷ [])
    ++ (0x10 ∷ 0x1f ∷ 0xfc ∷ 0x04 ∷ 0x40 ∷ 0x00 ∷ 0x00 ∷ 0x02 ∷ 0x62 ∷ 0x63 ∷ 0x50 ∷ 0x1f ∷ 0xfc ∷ 0x06 ∷ 0x82 ∷ 0x4c
    ∷ 0x49 ∷ 0x35 ∷ [])
    ++ blank 89

-- how the first commit leaves a table of four words, and how both leave it
abbrev first : List ℕ
first = 0x0010_0001 ∷ 12 ∷ 0 ∷ 0 ∷ []

abbrev second : List ℕ
second = 0x0010_0002 ∷ 29 ∷ 0x0010_0401 ∷ 12 ∷ []

abbrev table_of : ℕ → ℕ → List ℕ → List ℕ
table_of off rules t = index_table geometry two (blank 128) 0 1 (up_to off) rules t

abbrev extend : LfsMdir → LfsMdir → List ℕ → Result ℕ Refusal
extend old dir t = extend_of geometry two (blank 128) 0 1 old dir 0 t

abbrev extended_to : LfsMdir → LfsMdir → List ℕ → List ℕ
extended_to old dir t = extend_table geometry two (blank 128) 0 1 old dir 0 t

-- built for each end, and from the first end's table to the second's: "the same table as building afresh"
pub built_twice : (table_of 21 0 (nines 4) ≡ first) × (table_of 39 0 (nines 4) ≡ second)
unfolding index_table record_fits pair_fits geometry_fits Regular regular_from rule_of rule_holds count_after grows_after
    count_raised built fit_from dir_places slot_places placed_from placed_act apply_all apply reaching upd empty act tag_of
    tag_length span event_length log committed walk walk_from walk_in class_of read_behind body_length tag_flipped be32 le32 xor
    crc crc_byte crc_bits crc_bit
built_twice = (refl, refl)

pub extended_by_commit : (extend (up_to 21) (up_to 39) first ≡ Ok 2)
    × (extended_to (up_to 21) (up_to 39) first ≡ second)
unfolding extend_of extend_table record_fits pair_fits geometry_fits Regular regular_from rule_of rule_holds count_after
    grows_after count_raised ran_on leading places_after shifted halving rank_of seat_class placed_from placed_act act
    tag_of tag_length span event_length log committed walk walk_from walk_in class_of read_behind body_length tag_flipped be32
    le32 xor crc crc_byte crc_bits crc_bit
extended_by_commit = (refl, refl)

-- room for one: "On -221 the table is zeroed", by a build and by an extension
pub room_for_one : (index_of geometry two (blank 128) 0 1 (up_to 39) 0 (nines 3) ≡ Err TableFull)
    × (table_of 39 0 (nines 3) ≡ 0 ∷ 0 ∷ 0 ∷ [])
    × (extend (up_to 21) (up_to 39) (0x0010_0001 ∷ 12 ∷ []) ≡ Err TableFull)
    × (extended_to (up_to 21) (up_to 39) (0x0010_0001 ∷ 12 ∷ []) ≡ 0 ∷ 0 ∷ [])
unfolding index_of index_table extend_of extend_table record_fits pair_fits geometry_fits Regular regular_from rule_of rule_holds
    count_after grows_after count_raised built fit_from dir_places slot_places placed_from placed_act apply_all apply
    reaching upd
    empty act ran_on leading places_after shifted halving rank_of seat_class tag_of tag_length span event_length log committed
    walk walk_from walk_in class_of read_behind body_length tag_flipped be32 le32 xor crc crc_byte crc_bits crc_bit
room_for_one = (refl, refl, refl, refl)

-- ---- "-202 .., table unchanged": a log that is regular by littlefs's rule alone, whose name q212 of slot 1 stands at
-- 4 and struct at 12; ends that are no boundary: of no commit, inside one, on an entry, behind the last; and the old
-- end
abbrev grown_in : ℕ → List ℕ
grown_in rules = index_table geometry grown (blank 128) 0 1 (up_to 32) rules (nines 4)

pub irregular : (grown_in 0 ≡ nines 4) × (grown_in 1 ≡ 0x0010_0404 ∷ 8 ∷ 0x2010_0403 ∷ 16 ∷ [])
    × (index_of geometry grown (blank 128) 0 1 (up_to 32) 0 (nines 4) ≡ Err Irregular)
    × (index_of geometry two (blank 128) 0 1 (up_to 4) 0 [] ≡ Err Irregular)
    × (map (λ off. table_of off 0 (nines 4)) (0 ∷ 4 ∷ 20 ∷ 25 ∷ 40 ∷ []) ≡ replicate 5 (nines 4))
    × (map (λ off. extended_to (up_to off) (up_to 39) first) (4 ∷ 20 ∷ []) ≡ replicate 2 first)
    × (extend (up_to 4) (up_to 39) first ≡ Err Irregular)
    × (extended_to (up_to 21) (up_to 38) first ≡ first)
unfolding index_of index_table extend_of extend_table record_fits pair_fits geometry_fits Regular regular_from rule_of rule_holds
    count_after grows_after count_raised built fit_from dir_places slot_places placed_from placed_act apply_all apply
    reaching upd
    empty act tag_of tag_length span event_length log committed walk walk_from walk_in class_of read_behind body_length
    tag_flipped be32 le32 xor crc crc_byte crc_bits crc_bit
irregular = (refl, refl, refl, refl, refl, refl, refl, refl)

-- ---- -22: no such rule, an end past the block, other numbers; "not of one block or the old end is above the new one"
abbrev second_block : LfsMdir
second_block = record_of 1 0 21

abbrev elsewhere : LfsMdir
elsewhere = record_of 0 2 21

abbrev indexed_at : LfsMdir → ℕ → Result ℕ Refusal
indexed_at dir rules = index_of geometry two (blank 128) 0 1 dir rules (nines 4)

pub invalid : (map (λ dir. indexed_at dir 0) (up_to 129 ∷ elsewhere ∷ []) ≡ replicate 2 (Err Invalid))
    × (indexed_at (up_to 21) 2 ≡ Err Invalid) × (table_of 21 2 (nines 4) ≡ nines 4)
    × (map (λ old. extend old (up_to 21) first) (up_to 22 ∷ second_block ∷ elsewhere ∷ [])
    ≡ replicate 3 (Err Invalid))
    × (extended_to (up_to 22) (up_to 21) first ≡ first)
unfolding index_of index_table extend_of extend_table record_fits pair_fits geometry_fits
invalid = (refl, refl, refl, refl, refl)

-- the record's block is the second one: it is the blank one, which has no commit
pub other_block : indexed_at second_block 0 ≡ Err Irregular
unfolding index_of record_fits pair_fits geometry_fits span event_length log committed walk walk_from walk_in class_of
    read_behind
    body_length tag_flipped be32 le32 xor tag_length crc crc_byte crc_bits crc_bit
other_block = refl

-- ---- extending, over events: from the table of some to that of more
-- Name at 8, attribute at 13, check at 21; behind it a create below at 29, its name at 33, and the attribute anew at
-- 39.
abbrev earlier : List Event
earlier = made 0 ∷ named 0 1 ∷ entry 0x374 0 4 ∷ check ∷ []

abbrev later : List Event
later = made 0 ∷ named 0 2 ∷ entry 0x374 1 2 ∷ []

-- the name goes at 29 with its slot, and a slot of that id gets a struct at 37
abbrev instead : List Event
instead = removed 0 ∷ made 0 ∷ struct 0 0 ∷ []

abbrev ran_from : List ℕ → List Event → List ℕ
ran_from t es = table_as 8 (ran_on 8 (leading t) (placed_from 29 es))

pub extended_by_events : (ran_from (table 8 earlier) later ≡ table 8 (earlier ++ later))
    × (ran_from (table 8 earlier) instead ≡ table 8 (earlier ++ instead))
    × (table 8 (earlier ++ later) ≡ 0x0010_0002 ∷ 37 ∷ 0x0010_0401 ∷ 12 ∷ 0x3740_0402 ∷ 43 ∷ 0 ∷ 0 ∷ [])
    × (table 8 (earlier ++ instead) ≡ 0x2010_0000 ∷ 41 ∷ 0 ∷ 0 ∷ 0 ∷ 0 ∷ 0 ∷ 0 ∷ [])
unfolding ran_on leading places_after shifted halving rank_of seat_class built fit_from dir_places slot_places placed_from
    placed_act apply_all apply reaching upd empty act tag_of tag_length
extended_by_events = (refl, refl, refl, refl)

-- "Any other table gets a defined answer": the places before the first of tag zero are taken. With nothing behind it
-- they stay; a create at 29 raises ids, of 1,023 too, as a word; and a delete of a slot that is not there lowers those
-- behind it.
abbrev foreign : List ℕ
foreign = 0x0010_0001 ∷ 200 ∷ 0x001f_fc01 ∷ 12 ∷ 0 ∷ 7 ∷ 0x3740_0004 ∷ 17 ∷ []

pub foreign_extended : (ran_from foreign [] ≡ 0x0010_0001 ∷ 200 ∷ 0x001f_fc01 ∷ 12 ∷ 0 ∷ 0 ∷ 0 ∷ 0 ∷ [])
    × (ran_from foreign (made 0 ∷ []) ≡ 0x0010_0401 ∷ 200 ∷ 0x0020_0001 ∷ 12 ∷ 0 ∷ 0 ∷ 0 ∷ 0 ∷ [])
    × (ran_from foreign (removed 5 ∷ []) ≡ 0x0010_0001 ∷ 200 ∷ 0x001f_f801 ∷ 12 ∷ 0 ∷ 0 ∷ 0 ∷ 0 ∷ [])
unfolding ran_on leading places_after shifted halving rank_of seat_class placed_from placed_act act tag_of tag_length
foreign_extended = (refl, refl, refl)

-- ---- what a table answers
abbrev get : List ℕ → ℕ → ℕ → Result Found Refusal
get t type id = index_get_of geometry listing (blank 128) 0 1 listed t type id (nines 6)

abbrev found : ℕ → ℕ → ℕ → Result Found Refusal
found tag length off = Ok (record { tag = tag; length = length; off = off })

-- "any 0x0xx asks the name, any 0x2xx the struct, 0x300 to 0x3ff that attribute"
pub got_by_type : (map (λ type. get told type 0) (0x000 ∷ 0x001 ∷ 0x0ff ∷ []) ≡ replicate 3 (found 0x0010_0004 8 0x0c))
    × (map (λ type. get told type 0) (0x200 ∷ 0x201 ∷ 0x2ff ∷ []) ≡ replicate 3 (found 0x2010_0003 7 0x14))
    × (get told 0x374 0 ≡ found 0x3740_0004 8 0x1b)
unfolding index_get_of getslice_fits index_hit halving rank_of seat_class record_fits pair_fits geometry_fits tag_length
got_by_type = (refl, refl, refl)

-- "any other type, and an id that the table has not (above 1,023 too), finds nothing: -2". Of 2^11 on a type is another
-- one, though its lower bits are the name's.
pub got_nothing : (map (λ type. get told type 0) (0x100 ∷ 0x300 ∷ 0x373 ∷ 0x375 ∷ 0x401 ∷ 0x7ff ∷ 0x800 ∷ 0x1001 ∷ [])
    ≡ replicate 8 (Err NoEntry))
    × (map (λ id. get told 0x001 id) (1 ∷ 1_023 ∷ 1_024 ∷ 2_048 ∷ []) ≡ replicate 4 (Err NoEntry))
    × (get [] 0x001 0 ≡ Err NoEntry) × (get (0 ∷ 0 ∷ 0 ∷ []) 0x000 0 ≡ Err NoEntry)
unfolding index_get_of getslice_fits index_hit halving rank_of seat_class record_fits pair_fits geometry_fits tag_length
got_nothing = (refl, refl, refl, refl)

-- the deadline's four bytes, and the rest zeroed; a buffer of three; where nothing is found it stays
abbrev buffer : ℕ → ℕ → List ℕ
buffer n type = index_get_buffer geometry listing (blank 128) 0 1 listed told type 0 (nines n)

pub buffers : (buffer 6 0x374 ≡ 0x90 ∷ 0x5f ∷ 0x01 ∷ 0x00 ∷ 0 ∷ 0 ∷ []) × (buffer 3 0x2ff ≡ 0x61 ∷ 0x62 ∷ 0x63 ∷ [])
    × (buffer 6 0x375 ≡ nines 6)
unfolding index_get_buffer getslice_fits index_hit halving rank_of seat_class record_fits pair_fits geometry_fits tag_length
buffers = (refl, refl, refl)

-- -22: an end past the block, other numbers, "a buffer above 65,536 bytes"
abbrev got_into : LfsMdir → ℕ → Result Found Refusal
got_into dir n = index_get_of geometry listing (blank 128) 0 1 dir told 0x001 0 (nines n)

pub got_refused : (got_into (up_to 129) 4 ≡ Err Invalid) × (got_into elsewhere 4 ≡ Err Invalid)
    × (got_into listed 65_537 ≡ Err Invalid)
unfolding index_get_of getslice_fits index_hit halving rank_of seat_class record_fits pair_fits geometry_fits tag_length
got_refused = (refl, refl, refl)

-- "A table that no build made": four bytes at 125 pass a block of 128, three do not; at 129 none are read, and yet that
-- is past it. The other fields are not looked at: a removal, an id of 1,023, an offset inside the revision.
abbrev first_of : ℕ → ℕ → ℕ → ℕ → ℕ → Result Found Refusal
first_of tag off type id n = index_get_of geometry listing (blank 128) 0 1 listed (tag ∷ off ∷ []) type id (nines n)

pub foreign_got : (map (first_of 0x0010_0004 125 0x001 0) (4 ∷ 3 ∷ []) ≡ Err Corrupt ∷ found 0x0010_0004 8 125
    ∷ []) × (map (λ off. first_of 0x0010_0000 off 0x001 0 0) (128 ∷ 129 ∷ 0xffff_ffff ∷ [])
    ≡ found 0x0010_0000 4 128 ∷ Err Corrupt ∷ Err Corrupt ∷ [])
    × (first_of 0x3740_03ff 128 0x374 0 6 ≡ found 0x3740_03ff 4 128)
    × (first_of 0x001f_fc01 1 0x001 1_023 6 ≡ found 0x001f_fc01 5 1)
    × (first_of 0x001f_fc01 1 0x001 2_047 6 ≡ Err NoEntry)
unfolding index_get_of getslice_fits index_hit halving rank_of seat_class record_fits pair_fits geometry_fits tag_length
foreign_got = (refl, refl, refl, refl, refl)

-- An attribute, the name, the struct, which is no order of places. The halving looks at the name first: the struct
-- stands behind it and is found; the attribute is searched there too, and the name itself before it.
abbrev unsorted : List ℕ
unsorted = 0x3740_0004 ∷ 27 ∷ 0x0010_0004 ∷ 12 ∷ 0x2010_0003 ∷ 20 ∷ []

pub unsorted_got : map (λ type. get unsorted type 0) (0x001 ∷ 0x201 ∷ 0x374 ∷ [])
    ≡ Err NoEntry ∷ found 0x2010_0003 7 20 ∷ Err NoEntry ∷ []
unfolding index_get_of getslice_fits index_hit halving rank_of seat_class record_fits pair_fits geometry_fits tag_length
unsorted_got = refl
