-- What a lookup of the move state answers in a regular log: "Move state: id 1,023, length 12". Assumes nothing.
use Rattle.std.specs.Prelude.{◌≡◌, refl, ◌≢◌, Bool, true, false, cond, ℕ, ◌+◌, ◌-◌, ◌%◌, ◌^◌, ◌<◌, take, drop, leb, eqb, None, Some}
use Rattle.std.proofs.Common.{sym, ◌∙◌, arith, eqb-true}
use mathlib.Core.List.{List, [], ◌∷◌, reverse_aux}
use Rattle.format.specs.Word.{be32, all_ones, minus32}
use Rattle.format.specs.Tag.{tag_type3, tag_id, tag_size, tag_delete, tag_length, tag_of}
use Rattle.format.specs.Kind.{type_move, no_slot, is_check}
use Rattle.format.specs.Crc.{crc}
use Rattle.format.specs.Walk.{Event, walk_from, walk, ent, chk, inv}
use Rattle.format.specs.Log.{committed, log, log_end, log_end_tag}
use Rattle.format.specs.Regular.{Rule, between, rule_of, rule_holds, count_after, grows_after, count_raised, regular_from}
use Rattle.format.specs.Regular.{Regular}
use Rattle.format.specs.declared.Rules.TheVariants.{Littlefs}
use Rattle.format.specs.Back.{Met, hop, back, places}
use Rattle.format.specs.Look.{mask_move, found_at, spliced_at, wlook}
use Rattle.format.specs.Directory.{is_move}
use Rattle.format.proofs.Tags.{low_length, low_type3, xor_low, of_fields}
use Rattle.format.proofs.Back.{back_step}
use Rattle.theory.specs.Walk.Step.{both_true}
use Rattle.theory.specs.Walk.Locality.{AllContained}
use Rattle.theory.specs.Log.Committed.{committed_split, committed_twice}
use Rattle.theory.specs.Back.WalkBack.{back_log}
use Rattle.theory.specs.Back.EventBytes.{Stands, chains, log_stands}
use Rattle.theory.specs.Lookup.ByMask.{Answers}
use Rattle.theory.specs.Lookup.OnBlock.{last_check}
use Rattle.theory.specs.Lookup.MoveState.{move_hit, check_move}

-- every move state met has this tag
abbrev MoveTags : List Met → Type 0
MoveTags [] = Unit {0}
MoveTags (m ∷ ms) = (is_move m.tag ≡ true → m.tag ≡ tag_of type_move no_slot 12) × MoveTags ms

move_tag : (c t : ℕ) → t < 2 ^ 31 → rule_holds (rule_of true (tag_type3 t)) c (tag_id t) (tag_size t) ≡ true
    → is_move t ≡ true → t ≡ tag_of type_move no_slot 12
unfolding rule_of rule_holds
move_tag c t small h e =
    let is : tag_type3 t ≡ type_move = eqb-true (tag_type3 t) type_move e in
    let r = both_true (eqb (tag_id t) no_slot) (eqb (tag_size t) 12) (rw is at h) in
    let id : tag_id t ≡ no_slot = eqb-true (tag_id t) no_slot r.0 in
    let size : tag_size t ≡ 12 = eqb-true (tag_size t) 12 r.1 in
    sym (of_fields t small) ∙ rw (is, id, size)

places_moves : (es : List Event) (g : Bool) (c off : ℕ) → Stands es → regular_from g c es ≡ true
    → MoveTags (places off es)
unfolding places regular_from
places_moves [] g c off st h = tt
places_moves (ent t d ∷ es) g c off st h =
    let R : Rule = rule_of true (tag_type3 t) in
    let n : ℕ = count_raised g R c (tag_id t) in
    let r = both_true (rule_holds R n (tag_id t) (tag_size t)) (regular_from (grows_after g R) (count_after R n) es) h in (
      move_tag n t st.0.0 r.0,
      places_moves es (grows_after g R) (count_after R n) (off + tag_length t) st.1 r.1,
    )
places_moves (chk t x ∷ es) g c off st h =
    let r = both_true (between 4 1_022 (tag_size t)) (regular_from g c es) h in (
      (λ e. let z : ◌≡◌ {A = Bool} true false = sym e ∙ check_move t st.0.1 in cc),
      places_moves es g c (off + tag_length t) st.1 r.1,
    )
places_moves (inv ∷ es) g c off st h = absurd st

moves_rev : (l r : List Met) → MoveTags l → MoveTags r → MoveTags (reverse_aux l r)
moves_rev [] r h k = k
moves_rev (m ∷ l) r h k = moves_rev l (m ∷ r) h.1 (h.0, k)

-- the end tag is a check, with bit 31 or without
moves_top : (b : List ℕ) (off t : ℕ) → is_check (t % 2 ^ 31) ≡ true → MoveTags (back b off (t % 2 ^ 31))
    → MoveTags (back b off t)
moves_top b off t c = rw (back_step b off t, back_step b off (t % 2 ^ 31), low_length t)
    (go (leb (4 + tag_length t) off))
  where
    no : is_move t ≡ false
    no = rw (low_type3 t) at (check_move (t % 2 ^ 31) c)

    go : (x : Bool) → MoveTags (hop (back b) x b off (t % 2 ^ 31)) → MoveTags (hop (back b) x b off t)
    go true h = (
      (λ e. let z : ◌≡◌ {A = Bool} true false = sym e ∙ no in cc),
      rw (low_length t, ← xor_low (be32 (drop (off - tag_length t) b)) t) at h.1,
    )
    go false h = tt

pub wlook_moved : (low : ℕ) (ms : List Met) → low < 2 ^ 20 → MoveTags ms
    → Answers no_slot (wlook false mask_move (mask_move + low) 0 ms)
unfolding wlook spliced_at tag_of tag_length
wlook_moved low [] h k = tt
wlook_moved low (m ∷ ms) h k =
    let key : minus32 (mask_move + low) 0 ≡ mask_move + low = omega arith in
    rw (key, move_hit m.tag low h) (go (is_move m.tag) refl (tag_delete m.tag) k.0
    (wlook_moved low ms h k.1))
  where
    go : (is : Bool) → is_move m.tag ≡ is → (gone : Bool)
        → (is_move m.tag ≡ true → m.tag ≡ tag_of type_move no_slot 12)
        → Answers no_slot (wlook false mask_move (mask_move + low) 0 ms)
        → Answers no_slot (cond is (cond gone None (Some (found_at m.tag m.off 0)))
        (wlook false mask_move (mask_move + low) 0 ms))
    go true e true f ih = tt
    go true e false f ih = rw (f e)
    go false e gone f ih = ih

-- on the bytes of a block with a regular log
pub move_answer_lem : (b : List ℕ) (low : ℕ) → log b ≢ [] → Regular Littlefs (log b) ≡ true → AllContained (log b) → low < 2
    ^ 20
    → Answers no_slot (wlook false mask_move (mask_move + low) 0 (back b (log_end (log b)) (log_end_tag (log b))))
unfolding log walk Regular
move_answer_lem b low some h reg l =
    let es : List Event = log b in
    let sp = committed_split (walk_from (crc all_ones (take 4 b)) all_ones (drop 4 b)) in
    let whole : committed es ≡ es = committed_twice (walk_from (crc all_ones (take 4 b)) all_ones (drop 4 b)) in
    let ch = chains es sp.0 (crc all_ones (take 4 b)) all_ones b 4 sp.1 reg in
    let ck : is_check (log_end_tag es % 2 ^ 31) ≡ true = last_check es b 4 all_ones whole (λ z. absurd (some z)) ch.0
    ch.2 in
    wlook_moved low (back b (log_end es) (log_end_tag es)) l
    (moves_top b (log_end es) (log_end_tag es) ck
    (rw (back_log es b ch.0) (moves_rev (places 4 es) [] (places_moves es true 0 4 (log_stands b) h) tt)))
