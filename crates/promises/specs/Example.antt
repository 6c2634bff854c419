-- Demand 3 on document 01's listing pair, by computation: a commit of a new deadline for q212, and a compaction, each
-- stopped after every number of its stores. And that both are accepted, so that the theorems of Stopped.antt speak of
-- them. Assumes nothing.
use Rattle.std.specs.Prelude.{◌≡◌, refl, Bool, true, false, ◌&&◌, List, [], ◌∷◌, ◌++◌, map, ℕ, zero, suc, ◌^◌, ltb, replicate, Err, Ok, Result, Some}
use Rattle.std.proofs.Common.{arith, ltb-true}
use Rattle.format.specs.Crc.{crc, crc_byte, crc_bits, crc_bit}
use Rattle.format.specs.Word.{be32, le32, to_be32, to_le32, xor}
use Rattle.format.specs.Tag.{tag_length, tag_flipped, tag_of}
use Rattle.format.specs.Walk.{read_behind, class_of, body_length, walk_in, walk_from, walk}
use Rattle.format.specs.Log.{committed, log, event_length, span, tag_after, stopped_straight}
use Rattle.format.specs.Record.{counted, count_of, tail_of, split_of, forward_of, seed_of}
use Rattle.format.specs.View.{rank, view}
use Rattle.format.specs.Fetch.{geometry_fits, pair_fits, too_high, erased_of, mdir_of, fetch_of}
use Rattle.format.specs.Back.{backs, back}
use Rattle.format.specs.Look.{mask_type3, as_ids, spliced_at, wlook}
use Rattle.format.specs.Lookup.{record_fits, searched, getslice_fits, getslice_buffer}
use Rattle.format.specs.Regular.{rule_of, rule_holds, count_after, grows_after, count_raised, regular_from, Regular}
use Rattle.format.specs.Commit.{commit_bytes, written}
use Rattle.format.specs.Erased.{erased, all_erased, check_type, validity_fits}
use Rattle.format.specs.Stores.{fill, entries_length, appending, tag_coincides, coincides, compact_bytes, compacting}
use Rattle.format.specs.Entries.{entry_body, judge, items_of}
use Rattle.format.specs.Directory.{empty, upd, dir, reaching, apply, apply_all, act, acts, dir_of, move_of}
use Rattle.format.specs.Room.{room_of}
use Rattle.format.specs.Writer.{unlimited, rounded_end, check_size, commit_fits, placed, appended, accepted}
use Rattle.format.specs.Writer.{unit_check, forward_item, carries, carried_for, with_forward, verdict_of, Images}
use Rattle.format.specs.Writer.{commit_images}
use Rattle.format.specs.Compaction.{slot_items, dir_items, compaction_items, placed_anew, compactable, compact_accepted}
use Rattle.format.specs.Compaction.{compact_verdict, compact_images}
use Rattle.format.specs.Machine.{machine_of, ran, asked, name, attribute}
use Rattle.format.specs.Stopped.{Bytes, Stopped}
use Rattle.format.specs.declared.Rules.TheVariants.{Document}
use Rattle.format.specs.declared.Geometry.{Geometry}
use Rattle.format.specs.declared.LfsGstate.{LfsGstate}
use Rattle.format.specs.declared.Entry.{Entry}
use Rattle.theory.specs.Walk.Step.{both_true}
use Rattle.promises.specs.Stopped.{commit_stopped, compact_stopped}
use Rattle.format.specs.declared.Fetched.{Fetched}
use Rattle.format.specs.declared.Refusal.{Refusal}

abbrev geometry : Geometry
geometry = record { block_size = 128; prog_size = 16 }

-- "first 128 bytes, revision 1, raw tags 0xbfefffff, 0x40000004 + "q212", 0x20000007 + "abc", 0x17500007 + 90 5f 01 00,
-- 0x674ffc09, checksum, then 0xff"; "second block all 0xff"
abbrev first : List ℕ
first =
    (0x01 ∷ 0x00 ∷ 0x00 ∷ 0x00 ∷ 0xbf ∷ 0xef ∷ 0xff ∷ 0xff ∷ 0x40 ∷ 0x00 ∷ 0x00 ∷ 0x04 ∷ 0x71 ∷ 0x32 ∷ 0x31 ∷ 0x32
    ∷ 0x20 ∷ 0x00 ∷ 0x00 ∷ 0x07
    ∷ 0x61 ∷ 0x62 ∷ 0x63 ∷ 0x17 ∷ 0x50 ∷ 0x00 ∷ 0x07 ∷ 0x90 ∷ 0x5f ∷ 0x01 ∷ 0x00 ∷ 0x67 ∷ 0x4f ∷ 0xfc ∷ 0x09 ∷ 0x47
    ∷ 0x38 ∷ 0xe4 ∷ 0x4d ∷ [])
    ++ erased 0xff 89

abbrev second : List ℕ
second = erased 0xff 128

-- a deadline of 3,600 in place of 90,000
abbrev deadline : Entry
deadline = record { kind = 0x374; id = 0; off = 0; len = 4 }

abbrev hour : List ℕ
hour = 0x10 ∷ 0x0e ∷ 0x00 ∷ 0x00 ∷ []

abbrev day : List ℕ
day = 0x90 ∷ 0x5f ∷ 0x01 ∷ 0x00 ∷ []

abbrev no_move : LfsGstate
no_move = record { tag = 0; pair = record { n0 = 0; n1 = 0 } }

-- what a controller sees when it starts on two images: which block answers, its revision and end, and the deadline of
-- slot 0
pub record Seen : Type 0 where
  pub block : ℕ
  pub rev : ℕ
  pub end : ℕ
  pub due : List ℕ

abbrev nothing : Seen
nothing = record { block = 9; rev = 0; end = 0; due = [] }

pub seen_by : List ℕ → List ℕ → Result Fetched Refusal → Seen
seen_by i0 i1 (Err r) = nothing
seen_by i0 i1 (Ok f) =
    record {
      block = f.dir.pair.n0;
      rev = f.dir.rev;
      end = f.dir.off;
      due = getslice_buffer geometry i0 i1 0 1 f.dir no_move mask_type3 (tag_of 0x374 0 0) 0 (replicate 4 0);
    }

abbrev seen : Images → Seen
seen i = seen_by i.b0 i.b1 (fetch_of geometry i.b0 i.b1 0 1 0 0)

abbrev old : Seen
old = record { block = 0; rev = 1; end = 48; due = day }

pub up_to : ℕ → List ℕ
up_to zero = zero ∷ []
up_to (suc n) = up_to n ++ (suc n ∷ [])

-- 28 stores, the entry's 8, the forward check's 12 and the check's 8: after each of the first 27 the old deadline,
-- after the last the new one
pub commit_cut : map (λ n. seen (commit_images geometry first second 0 1 0 0 0 0xff (deadline ∷ []) hour n)) (up_to 29)
    ≡ replicate 28 old ++ replicate 2 (record { block = 0; rev = 1; end = 80; due = hour })
unfolding up_to seen_by with_forward carried_for carries commit_images verdict_of commit_fits pair_fits geometry_fits fetch_of
    too_high view rank log committed walk walk_from walk_in class_of read_behind body_length tag_length tag_flipped be32 le32
    to_be32 to_le32 xor crc crc_byte crc_bits crc_bit mdir_of erased_of stopped_straight span event_length tag_after count_of
    counted split_of tail_of forward_of seed_of appended Regular regular_from rule_of rule_holds count_after grows_after
    count_raised judge entry_body placed rounded_end check_size room_of all_erased coincides tag_coincides fill check_type
    validity_fits entries_length tag_of appending commit_bytes getslice_buffer getslice_fits record_fits searched back backs
    wlook spliced_at as_ids
commit_cut = refl

-- 52 stores, the first the erase: after each of the first 51 the old pair, after the last the second block with the
-- next revision
pub compaction_cut : map (λ n. seen (compact_images geometry first second 0 1 0 0 0 0xff n)) (up_to 53)
    ≡ replicate 52 old ++ replicate 2 (record { block = 1; rev = 2; end = 64; due = day })
unfolding up_to seen_by with_forward carried_for carries compact_images compact_verdict compactable placed_anew compacting
    compact_bytes compaction_items dir_items slot_items dir_of dir acts act apply reaching upd empty move_of verdict_of
    commit_fits pair_fits geometry_fits fetch_of too_high view rank log committed walk walk_from walk_in class_of read_behind
    body_length tag_length tag_flipped be32 le32 to_be32 to_le32 xor crc crc_byte crc_bits crc_bit mdir_of erased_of
    stopped_straight span event_length tag_after count_of counted split_of tail_of forward_of seed_of appended Regular
    regular_from rule_of rule_holds count_after grows_after count_raised judge entry_body placed rounded_end check_size room_of
    all_erased coincides tag_coincides fill check_type validity_fits entries_length tag_of appending commit_bytes
    getslice_buffer getslice_fits record_fits searched back backs wlook spliced_at as_ids
compaction_cut = refl

-- both are accepted, so `commit_stopped` and `compact_stopped` speak of them
pub takes_commit : verdict_of geometry first second 0 1 0 0 0 0xff (deadline ∷ []) hour
    ≡ accepted false (items_of hour (deadline ∷ []) ++ (forward_item (unit_check 0xff 16) ∷ [])) 8
unfolding with_forward carried_for carries verdict_of commit_fits pair_fits geometry_fits fetch_of too_high view rank log
    committed walk walk_from walk_in class_of read_behind body_length tag_length tag_flipped be32 le32 to_be32 to_le32 xor crc
    crc_byte crc_bits crc_bit mdir_of erased_of stopped_straight span event_length tag_after count_of counted split_of tail_of
    forward_of seed_of appended Regular regular_from rule_of rule_holds count_after grows_after count_raised judge entry_body
    placed rounded_end check_size room_of all_erased coincides tag_coincides fill check_type validity_fits entries_length tag_of
    appending commit_bytes getslice_buffer getslice_fits record_fits searched back backs wlook spliced_at as_ids
takes_commit = refl

pub takes_compaction : compact_verdict geometry first second 0 1 0 0 0 0xff ≡ compact_accepted false 2
    (compaction_items (log first) ++ (forward_item (unit_check 0xff 16) ∷ [])) 17
unfolding with_forward carried_for carries compact_verdict compactable placed_anew compaction_items dir_items slot_items dir_of
    dir acts act apply reaching upd empty move_of verdict_of commit_fits pair_fits geometry_fits fetch_of too_high view rank
    log committed walk walk_from walk_in class_of read_behind body_length tag_length tag_flipped be32 le32 to_be32 to_le32 xor
    crc crc_byte crc_bits crc_bit mdir_of erased_of stopped_straight span event_length tag_after count_of counted split_of tail_of
    forward_of seed_of appended Regular regular_from rule_of rule_holds count_after grows_after count_raised judge entry_body
    placed rounded_end check_size room_of all_erased coincides tag_coincides fill check_type validity_fits entries_length tag_of
    appending commit_bytes getslice_buffer getslice_fits record_fits searched back backs wlook spliced_at as_ids
takes_compaction = refl

-- so of the commit: whatever n, the finished images or the old reading; and what the finished pair holds
pub commit_example : (n : ℕ)
    → Stopped geometry 0 1 Document Document first second
    (commit_images geometry first second 0 1 0 0 0 0xff (deadline ∷ []) hour n).b0
    (commit_images geometry first second 0 1 0 0 0 0xff (deadline ∷ []) hour n).b1
    (commit_images geometry first second 0 1 0 0 0 0xff (deadline ∷ []) hour unlimited)
    (machine_of (log first)) (ran (machine_of (log first)) (written (items_of hour (deadline ∷ [])) []))
commit_example n = commit_stopped geometry first second 0 1 0 0 0 0xff (deadline ∷ []) hour n false
    (items_of hour (deadline ∷ []) ++ (forward_item (unit_check 0xff 16) ∷ [])) 8 takes_commit

-- which is the new deadline, and the name of before
pub holds_the_hour : (asked (ran (machine_of (log first)) (written (items_of hour (deadline ∷ [])) [])) (attribute 0 0x74)
    ≡ Some (record { type = 0x374; bytes = hour }))
    × (asked (ran (machine_of (log first)) (written (items_of hour (deadline ∷ [])) [])) (name 0)
    ≡ Some (record { type = 0x001; bytes = 0x71 ∷ 0x32 ∷ 0x31 ∷ 0x32 ∷ [] }))
unfolding written dir_of dir acts act apply reaching apply_all upd empty log committed walk walk_from walk_in class_of
    read_behind body_length tag_length tag_flipped be32 le32 xor crc crc_byte crc_bits crc_bit entry_body tag_of
holds_the_hour = (refl, refl)

-- and of the compaction: the images are bytes, and the finished pair holds what the old one did
pub all_bytes : List ℕ → Bool
all_bytes [] = true
all_bytes (b ∷ l) = ltb b (2 ^ 8) && all_bytes l

bytes_of : (l : List ℕ) → all_bytes l ≡ true → Bytes l
unfolding all_bytes
bytes_of [] h i = omega arith
bytes_of (b ∷ l) h zero = ltb-true b (2 ^ 8) (both_true (ltb b (2 ^ 8)) (all_bytes l) h).0
bytes_of (b ∷ l) h (suc i) = bytes_of l (both_true (ltb b (2 ^ 8)) (all_bytes l) h).1 i

are_bytes : (all_bytes first ≡ true) × (all_bytes second ≡ true)
unfolding all_bytes
are_bytes = (refl, refl)

pub compaction_example : (n : ℕ)
    → Stopped geometry 0 1 Document Document first second (compact_images geometry first second 0 1 0 0 0 0xff n).b0
    (compact_images geometry first second 0 1 0 0 0 0xff n).b1
    (compact_images geometry first second 0 1 0 0 0 0xff unlimited)
    (machine_of (log first)) (machine_of (log first))
compaction_example n =
    compact_stopped geometry first second 0 1 0 0 0 0xff n (bytes_of first are_bytes.0)
    (bytes_of second are_bytes.1)
    false 2 (compaction_items (log first) ++ (forward_item (unit_check 0xff 16) ∷ [])) 17 takes_compaction

abbrev stopped : Images
stopped = commit_images geometry first second 0 1 0 0 0 0xff (deadline ∷ []) hour 10

-- A restart fetches from a seed of its own, and with the block count that it knows: stopped after ten stores, the pair
-- is found with the old end and the old deadline from the seed 7 and with two blocks.
pub other_seed : seen_by stopped.b0 stopped.b1 (fetch_of geometry stopped.b0 stopped.b1 0 1 2 7) ≡ old
unfolding seen_by with_forward carried_for carries commit_images verdict_of commit_fits pair_fits geometry_fits fetch_of too_high
    view rank log committed walk walk_from walk_in class_of read_behind body_length tag_length tag_flipped be32 le32 to_be32
    to_le32 xor crc crc_byte crc_bits crc_bit mdir_of erased_of stopped_straight span event_length tag_after count_of counted
    split_of tail_of forward_of seed_of appended Regular regular_from rule_of rule_holds count_after grows_after count_raised
    judge entry_body placed rounded_end check_size room_of all_erased coincides tag_coincides fill check_type validity_fits
    entries_length tag_of appending commit_bytes getslice_buffer getslice_fits record_fits searched back backs wlook spliced_at
    as_ids
other_seed = refl
