-- Document 02, L8: "For ids below count, no pending move and a regular log, every answer and buffer equals the backward
-- lookup. A log that grows by one commit shall be able to extend the table, with the same table as building afresh."
-- And what stands in the definitions, in other words: which ends are commit boundaries, and when a table is too small.
-- Assumes nothing.
use Rattle.std.proofs.Math.Path.{◌≡◌, refl, ap}
use Rattle.std.proofs.Common.{sym, ◌∙◌, take-take}
use Rattle.std.specs.Prelude.{◌≢◌, Bool, not, ◌&&◌, get_or, ltb, eqb, Err, None, Ok, Option, Some}
use Rattle.std.proofs.Math.Bool.{true, false, cond, and-false}
use mathlib.Core.List.{List, [], ◌∷◌, ◌++◌, append-nil}
use Prim.Native.Nat.{ℕ, ◌+◌, ◌*◌, ◌/◌, ◌%◌, ◌^◌, ◌≤◌, ◌<◌}
use native.Mathlib.Omega.{arith}
use Rattle.std.proofs.Math.ListN.{length, take}
use Rattle.std.proofs.Math.Dec.{leb}
use borrow.Author.Tests.{leb-true, le-leb, ltb-true, lt-ltb, eq-eqb}
use Rattle.format.specs.Tag.{tag_chunk, tag_of}
use Rattle.format.specs.Kind.{type_name, type_dir_struct, type_user_attr, no_slot, is_name}
use Rattle.format.specs.Walk.{Event}
use Rattle.format.specs.Log.{committed, log, log_end, log_end_tag}
use Rattle.format.specs.Gstate.{gstate_has_move_here}
use Rattle.format.specs.Pair.{pair_sync}
use Rattle.format.specs.Fetch.{pair_fits, fetch_of}
use Rattle.format.specs.Back.{back}
use Rattle.format.specs.Look.{mask_type1, mask_type3, HitIn, wlook}
use Rattle.format.specs.Lookup.{record_fits, block_of, has_ids, searched, getslice_of, getslice_buffer}
use Rattle.format.specs.Machine.{Ask, ask_mask, ask_key}
use Rattle.format.specs.Machine as machine
use Rattle.format.specs.Writer.{block_at}
use Rattle.format.specs.Regular.{Regular, rules_fit, rules_of}
use Rattle.format.specs.Directory.{classes, seat_class, Slot, Act, empty, is_struct, is_attr, dir_of, apply, apply_all}
use Rattle.format.specs.Index.{places_of, dir_places, padded, fit_from, log_to, ends_at, indexable, index_fits, built}
use Rattle.format.specs.Index.{indexed_as, table_as, index_of, index_table, askable, index_hit, index_get_of, index_get_buffer}
use Rattle.format.specs.Index.{extend_of, extend_table}
use Rattle.format.specs.declared.Geometry.{Geometry}
use Rattle.format.specs.declared.LfsMdir.{LfsMdir}
use Rattle.format.specs.declared.LfsGstate.{LfsGstate}
use Rattle.format.specs.declared.Refusal.{Refusal}
use Rattle.format.specs.declared.Refusal.TheVariants.{Invalid, Irregular, TableFull}
use Rattle.format.specs.declared.Rules.{Rules}
use Rattle.format.specs.declared.Rules.TheVariants.{Littlefs}
use Rattle.format.proofs.Growing.{widest}
use Rattle.theory.specs.Walk.Step.{both_true}
use Rattle.theory.specs.Log.Continued.{log_whole, some_long}
use Rattle.theory.specs.Lookup.SlotSearch.{log_inside}
use Rattle.theory.specs.Lookup.Masks.{Query, query_name, query_struct, query_attr}
use Rattle.theory.specs.Lookup.ByMask.{Answers}
use Rattle.theory.specs.Lookup.AtStart.{back_in, wlook_in, back_same}
use Rattle.theory.specs.Lookup.OnBlock.{regular_searchable, block_lookup}
use Rattle.theory.specs.Commit.Tested.{regular_log}
use Rattle.theory.proofs.Compact.AcceptedVerdict.{slots_counted}
use Rattle.theory.specs.Fetch.FoundBlock.{found_sized, found_reads}
use Rattle.theory.specs.Fetch.Places.{block_length}
use Rattle.theory.proofs.Stopped.Shown.{found_tested, block_is}
use Rattle.index_theory.specs.Places.{dir_few}
use Rattle.index_theory.proofs.Enough.{built_enough}
use Rattle.index_theory.specs.Looked.{placed_dir, placed_few, placed_lookup}
use Rattle.index_theory.specs.Answered.{load_hit, found_load, table_answers}
use Rattle.index_theory.specs.Ends.{end_is, end_some, long, log_begins, ends_there}
use Rattle.index_theory.specs.Items.{placed_count}
use Rattle.promises.specs.PossibleLookups.{end_inside}
use Rattle.index_theory.proofs.Extended.{placed_fit, padded_length, built_places, built_fits, extend_afresh}
use Rattle.format.specs.declared.Found.{Found}
use Rattle.format.specs.Record.{fetched}

-- ---- what is asked
-- "any 0x0xx asks the name, any 0x2xx the struct, 0x300 to 0x3ff that attribute"
abbrev pub asks_for : ℕ → ℕ → Ask
asks_for type id =
    cond (is_name (type * 2 ^ 20)) (machine.name id)
    (cond (is_struct (type * 2 ^ 20)) (machine.struct id) (machine.attribute id (type % 2 ^ 8)))

-- ---- a block, and a record's end and end tag in it
module _ (b : List ℕ) (end : ℕ) (ends : ends_at b end ≡ true) (inside : end ≤ length b)
    (regular : Regular Littlefs (log_to b end) ≡ true) where
  D : List Slot
  D = placed_dir (take end b) regular

  -- the search back for class c of slot id finds what the machine has there
  search_is : (mask T c id size : ℕ) → Query mask T c → size < 2 ^ 10 → id < length (dir_of (log_to b end))
      → wlook true mask (tag_of T id size) 0 (back b end (log_end_tag (log_to b end))) ≡ load_hit id (get_or D id empty c)
  unfolding D
  search_is mask T c id size q hs hi =
      let f : List ℕ = take end b in
      let es : List Event = log_to b end in
      let h : Option Found = wlook true mask (tag_of T id size) 0 (back f (log_end es) (log_end_tag es)) in
      let same : back b end (log_end_tag es) ≡ back f (log_end es) (log_end_tag es) =
      back_same end b f (sym (take-take end end b (omega arith))) end (log_end_tag es) (omega arith)
      ∙ ap (λ (n : ℕ). back f n (log_end_tag es)) (sym (end_is b end ends)) in
      let w : HitIn end h = wlook_in end true mask (tag_of T id size) 0 (back f (log_end es) (log_end_tag es))
      (back_in f (log_end es) (log_end_tag es) end (omega (arith, end_is b end ends))) in
      let there : id < length (placed_dir f regular) = omega (arith, placed_count f regular) in
      let a : Answers id h = (block_lookup f es mask T c size id refl (end_some b end ends)
      (regular_searchable es (regular_log f es refl regular)) q hs hi).1 in
      ap (wlook true mask (tag_of T id size) 0) same ∙ found_load end id h w a
      ∙ ap (load_hit id) (placed_lookup f regular (end_some b end ends) mask T c size id q hs there)

  -- so does the table, of any length
  table_is : (n type id : ℕ) → askable type id ≡ true → id < length (dir_of (log_to b end))
      → index_hit (padded n (places_of (log_to b end))) type id ≡ load_hit id (get_or D id empty (seat_class (type * 2 ^ 20)))
  unfolding D
  table_is n type id h hi =
      let p = both_true (ltb type (2 ^ 11) && leb id no_slot) (ltb (seat_class (type * 2 ^ 20)) classes) h in
      let q = both_true (ltb type (2 ^ 11)) (leb id no_slot) p.0 in
      let f : List ℕ = take end b in
      table_answers n (placed_dir f regular) (placed_fit f regular) (placed_few f regular) id
      (omega (arith, placed_count f regular)) (seat_class (type * 2 ^ 20))
      (ltb-true (seat_class (type * 2 ^ 20)) classes p.1)
      type (ltb-true type (2 ^ 11) q.0) refl

  -- what a type asks for, by its class
  asked_is : (type id size : ℕ) → askable type id ≡ true → size < 2 ^ 10 → id < length (dir_of (log_to b end))
      → wlook (has_ids (ask_mask (asks_for type id))) (ask_mask (asks_for type id)) (ask_key (asks_for type id) size) 0
      (back b end (log_end_tag (log_to b end))) ≡ load_hit id (get_or D id empty (seat_class (type * 2 ^ 20)))
  unfolding seat_class
  asked_is type id size h hs hi =
      let p = both_true (ltb type (2 ^ 11) && leb id no_slot) (ltb (seat_class (type * 2 ^ 20)) classes) h in
      let q = both_true (ltb type (2 ^ 11)) (leb id no_slot) p.0 in
      let low : type < 2 ^ 11 = ltb-true type (2 ^ 11) q.0 in
      let u : tag_chunk (type * 2 ^ 20) ≡ type % 2 ^ 8 = omega arith in
      go (is_name (type * 2 ^ 20)) (is_struct (type * 2 ^ 20)) (is_attr (type * 2 ^ 20)) u
      (ltb-true (seat_class (type * 2 ^ 20)) classes p.1)
    where
      go : (n s a : Bool) → tag_chunk (type * 2 ^ 20) ≡ type % 2 ^ 8
          → cond n 0 (cond s 1 (cond a (2 + tag_chunk (type * 2 ^ 20)) classes)) < classes
          → wlook (has_ids (ask_mask
          (cond n (machine.name id) (cond s (machine.struct id) (machine.attribute id (type % 2 ^ 8))))))
          (ask_mask (cond n (machine.name id) (cond s (machine.struct id) (machine.attribute id (type % 2 ^ 8)))))
          (ask_key (cond n (machine.name id) (cond s (machine.struct id) (machine.attribute id (type % 2 ^ 8)))) size) 0
          (back b end (log_end_tag (log_to b end)))
          ≡ load_hit id (get_or D id empty (cond n 0 (cond s 1 (cond a (2 + tag_chunk (type * 2 ^ 20)) classes))))
      go true s a u l = search_is mask_type1 type_name 0 id size query_name hs hi
      go false true a u l = search_is mask_type1 type_dir_struct 1 id size query_struct hs hi
      go false false true u l = rw u (search_is mask_type3 (type_user_attr + type % 2 ^ 8) (2 + type % 2 ^ 8) id size
          (query_attr (type % 2 ^ 8) (omega arith)) hs hi)
      go false false false u l = absurd (omega arith)

-- ---- a build that was accepted
cond_else : {A : Type 0} (x : Bool) (a b c : A) → cond (not x) a b ≡ c → (a ≢ c) → (x ≡ true) × (b ≡ c)
cond_else true a b c h n = (refl, h)
cond_else false a b c h n = absurd (n h)

pub record Built (g : Geometry) (b0 b1 : List ℕ) (n0 n1 : ℕ) (dir : LfsMdir) (rules n : ℕ) : Type 0 where
  pub fits : index_fits g b0 b1 n0 n1 dir rules ≡ true
  pub regular : indexable (rules_of rules) (block_of b0 b1 n0 dir) dir.off ≡ true
  pub all : built n (log_to (block_of b0 b1 n0 dir) dir.off)
      ≡ Some (places_of (log_to (block_of b0 b1 n0 dir) dir.off))

module _ (g : Geometry) (b0 b1 : List ℕ) (n0 n1 : ℕ) (dir : LfsMdir) (rules : ℕ) (table : List ℕ) where
  pub places_built : (k : ℕ) → index_of g b0 b1 n0 n1 dir rules table ≡ Ok k
      → Built g b0 b1 n0 n1 dir rules (length table)
  unfolding index_of
  places_built k h =
      let b : List ℕ = block_of b0 b1 n0 dir in
      let p = cond_else (index_fits g b0 b1 n0 n1 dir rules) _ _ _ h (λ e. other e) in
      let q = cond_else (indexable (rules_of rules) b dir.off) _ _ _ p.1 (λ e. other e) in
      record { fits = p.0; regular = q.0; all = go (built (length table) (log_to b dir.off)) refl q.1 }
    where
      other : {r : Refusal} → Err r ≢ Ok k
      other e = absurd (let z : ◌≡◌ {A = ℕ} 0 1 = cc in omega arith)

      go : (v : Option (List ℕ)) → built (length table) (log_to (block_of b0 b1 n0 dir) dir.off) ≡ v
          → indexed_as v ≡ Ok k → built (length table) (log_to (block_of b0 b1 n0 dir) dir.off)
          ≡ Some (places_of (log_to (block_of b0 b1 n0 dir) dir.off))
      go None e h = absurd (let z : ◌≡◌ {A = ℕ} 0 1 = cc in omega arith)
      go (Some P) e h = e ∙ ap Some (built_places (length table) (log_to (block_of b0 b1 n0 dir) dir.off) P e)

  table_built : Built g b0 b1 n0 n1 dir rules (length table) → index_table g b0 b1 n0 n1 dir rules table
      ≡ padded (length table) (places_of (log_to (block_of b0 b1 n0 dir) dir.off))
  unfolding index_table
  table_built u = rw (u.fits, u.regular, u.all)

-- THE THEOREM. A table was built for a record whose end tag is its log's; no move is pending. For every id below the
-- number of slots, and every type, buffer and size in the key: answer and buffer are those of `lfs_dir_getslice`.
pub index_answers : (g : Geometry) (b0 b1 : List ℕ) (n0 n1 : ℕ) (dir : LfsMdir) (rules : ℕ) (table : List ℕ) (k : ℕ)
    (gdisk : LfsGstate) (type id size : ℕ) (buffer : List ℕ)
    → index_of g b0 b1 n0 n1 dir rules table ≡ Ok k
    → dir.etag ≡ log_end_tag (log_to (block_of b0 b1 n0 dir) dir.off) → gstate_has_move_here gdisk dir.pair ≡ false
    → askable type id ≡ true → id < length (dir_of (log_to (block_of b0 b1 n0 dir) dir.off)) → size < 2 ^ 10
    → (index_get_of g b0 b1 n0 n1 dir (index_table g b0 b1 n0 n1 dir rules table) type id buffer
    ≡ getslice_of g b0 b1 n0 n1 dir gdisk (ask_mask (asks_for type id)) (ask_key (asks_for type id) size) 0 buffer)
    × (index_get_buffer g b0 b1 n0 n1 dir (index_table g b0 b1 n0 n1 dir rules table) type id buffer
    ≡ getslice_buffer g b0 b1 n0 n1 dir gdisk (ask_mask (asks_for type id)) (ask_key (asks_for type id) size) 0 buffer)
unfolding index_get_of index_get_buffer getslice_of getslice_buffer searched
index_answers g b0 b1 n0 n1 dir rules table k gdisk type id size buffer accepted tag still asked low small =
    let b : List ℕ = block_of b0 b1 n0 dir in
    let end : ℕ = dir.off in
    let u = places_built g b0 b1 n0 n1 dir rules table k accepted in
    let f = both_true (record_fits g (length b0) (length b1) n0 n1 dir) (rules_fit rules) u.fits in
    let e = both_true (ends_at b end) (Regular (rules_of rules) (log_to b end)) u.regular in
    let wide = widest (rules_of rules) (log_to b end) e.1 in
    let inside = end_inside g b0 b1 n0 n1 dir f.0 in
    let x = table_is b end e.0 inside wide (length table) type id asked low in
    let y = asked_is b end e.0 inside wide type id size asked small low in
    let z = sym (ap (λ (t : ℕ). wlook (has_ids (ask_mask (asks_for type id))) (ask_mask (asks_for type id))
    (ask_key (asks_for type id) size) 0 (back b end t)) tag ∙ y) in
    rw (table_built g b0 b1 n0 n1 dir rules table u, x, z, still, and-false (has_ids (ask_mask (asks_for type id))))
    (refl, refl)

-- No build has more places than 1,023 slots of 258 classes.
pub index_few : (g : Geometry) (b0 b1 : List ℕ) (n0 n1 : ℕ) (dir : LfsMdir) (rules : ℕ) (table : List ℕ) (k : ℕ)
    → index_of g b0 b1 n0 n1 dir rules table ≡ Ok k → k ≤ 263_934
unfolding index_of
index_few g b0 b1 n0 n1 dir rules table k accepted =
    let b : List ℕ = block_of b0 b1 n0 dir in
    let f : List ℕ = take dir.off b in
    let u = places_built g b0 b1 n0 n1 dir rules table k accepted in
    let wide = widest (rules_of rules) (log_to b dir.off)
    (both_true (ends_at b dir.off) (Regular (rules_of rules) (log_to b dir.off)) u.regular).1 in
    let e : Ok (length (places_of (log_to b dir.off)) / 2) ≡ Ok k =
    rw (u.fits, u.regular, u.all) at accepted in
    let q : length (places_of (log_to b dir.off)) / 2 ≡ k = cc in
    omega (arith, q, dir_few 0 (placed_dir f wide), placed_few f wide)

-- A table of half as many words as a block has bytes is never too small.
pub index_enough : (g : Geometry) (b0 b1 : List ℕ) (n0 n1 : ℕ) (dir : LfsMdir) (rules : ℕ) (table : List ℕ)
    → g.block_size / 2 ≤ length table → index_of g b0 b1 n0 n1 dir rules table ≢ Err TableFull
unfolding index_of record_fits
index_enough g b0 b1 n0 n1 dir rules table long =
    go (index_fits g b0 b1 n0 n1 dir rules) refl (indexable (rules_of rules) b end) refl
  where
    b : List ℕ
    b = block_of b0 b1 n0 dir

    end : ℕ
    end = dir.off

    kept : (v : Option (List ℕ)) → v ≢ None → indexed_as v ≢ Err TableFull
    kept None k = λ e. k refl
    kept (Some P) k = λ e. absurd (let z : ◌≡◌ {A = ℕ} 0 1 = cc in omega arith)

    go : (x : Bool) → index_fits g b0 b1 n0 n1 dir rules ≡ x → (y : Bool) → indexable (rules_of rules) b end ≡ y
        → cond (not x) (Err Invalid) (cond (not y) (Err Irregular)
        (indexed_as (built (length table) (log_to b end)))) ≢ Err TableFull
    go false f y r = λ e. absurd (let z : ◌≡◌ {A = ℕ} 0 1 = cc in omega arith)
    go true f false r = λ e. absurd (let z : ◌≡◌ {A = ℕ} 0 1 = cc in omega arith)
    go true f true r =
        let fits = (both_true (record_fits g (length b0) (length b1) n0 n1 dir) (rules_fit rules) f).0 in
        let low = leb-true end g.block_size (both_true (pair_fits g (length b0) (length b1) n0 n1
        && pair_sync dir.pair (record { n0 = n0; n1 = n1 })) (leb end g.block_size) fits).1 in
        let u = both_true (ends_at b end) (Regular (rules_of rules) (log_to b end)) r in
        kept (built (length table) (log_to b end)) (built_enough (length table) (take end b)
        (widest (rules_of rules) (log_to b end) u.1) (omega (arith, end_is b end u.0)))

-- The record of a fetch is such a one: it fits, and where the log is regular by the rule, its end is a commit boundary,
-- the log up to it is the block's, the end tag is the log's, and the count is the number of its slots. So a build with
-- room enough is accepted.
pub index_fetched : (g : Geometry) (b0 b1 : List ℕ) (n0 n1 count seed rules : ℕ) (dir : LfsMdir) (read : ℕ)
    → fetch_of g b0 b1 n0 n1 count seed ≡ Ok (fetched dir read)
    → Regular (rules_of rules) (log (block_of b0 b1 n0 dir)) ≡ true
    → (record_fits g (length b0) (length b1) n0 n1 dir ≡ true)
    × (indexable (rules_of rules) (block_of b0 b1 n0 dir) dir.off ≡ true)
    × (log_to (block_of b0 b1 n0 dir) dir.off ≡ log (block_of b0 b1 n0 dir))
    × (dir.etag ≡ log_end_tag (log_to (block_of b0 b1 n0 dir) dir.off))
    × (dir.count ≡ length (dir_of (log_to (block_of b0 b1 n0 dir) dir.off)))
unfolding record_fits
index_fetched g b0 b1 n0 n1 count seed rules dir read f regular =
    let a = found_reads g b0 b1 n0 n1 count seed dir read f in
    let t = found_tested g b0 b1 n0 n1 count seed dir read f in
    let b : List ℕ = block_of b0 b1 n0 dir in
    let same : b ≡ block_at a.w b0 b1 = block_is b0 b1 n0 dir a.w a.place in
    let s = found_sized g b0 b1 n0 n1 count seed dir read f in
    let long : length b ≡ g.block_size = ap length same ∙ block_length g b0 b1 a.w s in
    let four : 4 ≤ length b = omega (arith, long, s.block.0) in
    let ends : dir.off ≡ log_end (log b) = rw same a.ends in
    let some' : log b ≢ [] = rw same a.some in
    let wide = widest (rules_of rules) (log b) regular in
    let inside : log_end (log b) ≤ length b =
    log_inside b (log b) refl (regular_log b (log b) refl wide).base.reg four in
    let whole : log_to b dir.off ≡ log b = ap (log_to b) ends ∙ ends_there (rules_of rules) b (log b) [] four
    (sym (append-nil (log b))) (log_whole b) some' regular inside in
    let high : 4 < dir.off = omega (arith, ends, some_long (log b) (log_whole b) some') in (
      rw (t.fits, t.pair) (le-leb dir.off g.block_size (omega (arith, ends, inside, long))),
      rw (lt-ltb 4 dir.off high, whole, eq-eqb (log_end (log b)) dir.off (sym ends)) regular,
      whole,
      rw whole (rw same a.end_tag),
      rw (whole, same) (a.count' ∙ slots_counted (block_at a.w b0 b1) (rw same at wide)),
    )

table_at : (g : Geometry) (b0 b1 : List ℕ) (n0 n1 : ℕ) (dir : LfsMdir) (rules : ℕ) (table : List ℕ)
    → index_fits g b0 b1 n0 n1 dir rules ≡ true
    → indexable (rules_of rules) (block_of b0 b1 n0 dir) dir.off ≡ true
    → index_table g b0 b1 n0 n1 dir rules table
    ≡ table_as (length table) (built (length table) (log_to (block_of b0 b1 n0 dir) dir.off))
unfolding index_table
table_at g b0 b1 n0 n1 dir rules table p q = rw (p, q)

-- ---- extending is building afresh: the table of the old record, made by a build, and a later record of the same block
-- whose log is regular. Answer and table are those of a build for the later record; so is -221.
pub index_extends : (g : Geometry) (b0 b1 : List ℕ) (n0 n1 : ℕ) (old dir : LfsMdir) (rules : ℕ) (table : List ℕ) (k : ℕ)
    → index_of g b0 b1 n0 n1 old rules table ≡ Ok k → old.pair.n0 ≡ dir.pair.n0 → old.off ≤ dir.off
    → index_fits g b0 b1 n0 n1 dir rules ≡ true
    → indexable (rules_of rules) (block_of b0 b1 n0 dir) dir.off ≡ true
    → (extend_of g b0 b1 n0 n1 old dir rules (index_table g b0 b1 n0 n1 old rules table)
    ≡ index_of g b0 b1 n0 n1 dir rules table)
    × (extend_table g b0 b1 n0 n1 old dir rules (index_table g b0 b1 n0 n1 old rules table)
    ≡ index_table g b0 b1 n0 n1 dir rules table)
unfolding extend_of extend_table index_of
index_extends g b0 b1 n0 n1 old dir rules table k accepted one later fits regular =
    let b : List ℕ = block_of b0 b1 n0 dir in
    let n : ℕ = length table in
    let u = places_built g b0 b1 n0 n1 old rules table k accepted in
    let same : block_of b0 b1 n0 old ≡ b = ap (λ (m : ℕ). cond (eqb m n0) b0 b1) one in
    let ends : ends_at b old.off ≡ true = rw same at (both_true (ends_at (block_of b0 b1 n0 old) old.off)
    (Regular (rules_of rules) (log_to (block_of b0 b1 n0 old) old.off)) u.regular).0 in
    let f = both_true (record_fits g (length b0) (length b1) n0 n1 old) (rules_fit rules) u.fits in
    let h = both_true (record_fits g (length b0) (length b1) n0 n1 dir) (rules_fit rules) fits in
    let inside = end_inside g b0 b1 n0 n1 dir h.0 in
    let P : List ℕ = places_of (log_to b old.off) in
    let all : built n (log_to b old.off) ≡ Some P = rw same at u.all in
    let t : index_table g b0 b1 n0 n1 old rules table ≡ padded n P =
    table_built g b0 b1 n0 n1 old rules table u ∙ ap (λ (x : List ℕ). padded n (places_of (log_to x old.off))) same in
    let len : length (padded n P) ≡ n =
    padded_length n P (built_fits n (rules_of rules) b old.off dir.off ends regular
    later inside P all) in
    let fresh = extend_afresh n (rules_of rules) b old.off dir.off ends regular later inside P all in
    rw (
      t,
      fits,
      f.0,
      eq-eqb old.pair.n0 dir.pair.n0 one,
      le-leb old.off dir.off later,
      ends,
      regular,
      fresh,
    ) (
      refl,
      ap (λ (m : ℕ). table_as m (built n (log_to b dir.off))) len
          ∙ sym (table_at g b0 b1 n0 n1 dir rules table fits regular),
    )

-- ---- which ends are boundaries
-- A commit ends where the log up to there ends; and that log is how the block's log begins.
pub boundary_begins : (b : List ℕ) (end : ℕ) → ends_at b end ≡ true → end ≤ length b
    → (more : List Event) × (log b ≡ log_to b end ++ more)
boundary_begins b end h inside = log_begins b end h inside

-- And each regular beginning of the block's log that ends in a commit is the log up to its end.
pub boundary_there : (r : Rules) (b : List ℕ) (es more : List Event) → 4 ≤ length b → log b ≡ es ++ more
    → committed es ≡ es → es ≢ [] → Regular r es ≡ true → log_end es ≤ length b → log_to b (log_end es) ≡ es
boundary_there r b es more four is whole filled regular inside =
    ends_there r b es more four is whole filled regular inside

-- ---- "-221 exactly when after SOME entry of the log more are live than the table has places": all fit exactly if they
-- do behind each entry
pub fit_each : (n : ℕ) (l : List Act) (D : List Slot) → fit_from n D l ≡ true
    → (front : List Act) (a : Act) (rest : List Act)
    → l ≡ front ++ a ∷ rest → length (dir_places 0 (apply_all D (front ++ a ∷ []))) ≤ n
unfolding fit_from apply_all
fit_each n [] D h [] a rest e = absurd (let z : ◌≡◌ {A = ℕ} 0 1 = cc in omega arith)
fit_each n [] D h (x ∷ front) a rest e = absurd (let z : ◌≡◌ {A = ℕ} 0 1 = cc in omega arith)
fit_each n (b ∷ l) D h [] a rest e =
    let s : b ≡ a = cc in
    rw (← s) (leb-true (length (dir_places 0 (apply D b))) n (both_true (leb (length (dir_places 0 (apply D b))) n)
    (fit_from n (apply D b) l) h).0)
fit_each n (b ∷ l) D h (x ∷ front) a rest e =
    let s : b ≡ x = cc in
    let t : l ≡ front ++ a ∷ rest = cc in
    rw (← s) (fit_each n l (apply D b) (both_true (leb (length (dir_places 0 (apply D b))) n)
    (fit_from n (apply D b) l) h).1 front a rest t)

pub each_fit : (n : ℕ) (l : List Act) (D : List Slot)
    → ((front : List Act) (a : Act) (rest : List Act) → l ≡ front ++ a ∷ rest
    → length (dir_places 0 (apply_all D (front ++ a ∷ []))) ≤ n) → fit_from n D l ≡ true
unfolding fit_from apply_all
each_fit n [] D h = refl
each_fit n (b ∷ l) D h = rw (
  le-leb (length (dir_places 0 (apply D b))) n (h [] b l refl),
  each_fit n l (apply D b) (λ front a rest e. h (b ∷ front) a rest (ap (λ (k : List Act). b ∷ k) e)),
)
