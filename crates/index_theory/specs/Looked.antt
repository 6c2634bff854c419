-- The search back on a block with a regular log finds the place that the table has: an entry's tag with the slot's
-- present id, and the offset of its first data byte. Assumes nothing.
use Rattle.std.specs.Prelude.{◌≡◌, refl, ◌≢◌, Bool, ℕ, ◌+◌, ◌-◌, ◌%◌, ◌^◌, ◌≤◌, ◌<◌, take, drop}
use Rattle.std.proofs.Common.{sym, ap₂, ◌∙◌}
use Rattle.std.proofs.Math.Path.{ap}
use Rattle.std.proofs.Math.Logic.{inl}
use Rattle.std.proofs.Math.Bool.{true}
use mathlib.Core.List.{List, [], ◌∷◌, reverse, map}
use native.Mathlib.Omega.{arith}
use Rattle.std.proofs.Math.ListN.{length, get_or}
use Rattle.std.proofs.lemmas.Bool.{eqb-false}
use Rattle.format.specs.Word.{all_ones, minus32}
use Rattle.format.specs.Crc.{crc}
use Rattle.format.specs.Tag.{tag_type3, tag_id, tag_size, removal_size, tag_length, tag_of}
use Rattle.format.specs.Kind.{is_check}
use Rattle.format.specs.Walk.{Event, ent, chk, inv, walk_from, walk}
use Rattle.format.specs.Log.{committed, log, log_end, log_end_tag}
use Rattle.format.specs.Back.{Met, back, places}
use Rattle.format.specs.Look.{data_size, wlook}
use Rattle.format.specs.Regular.{Rule, rule_of, between, rule_holds, count_after, grows_after, count_raised, regular_from}
use Rattle.format.specs.Regular.{Regular}
use Rattle.format.specs.declared.Rules.TheVariants.{Littlefs}
use Rattle.format.specs.declared.Found.{Found}
use Rattle.format.specs.Directory.{Act, Slot, dir, act, empty, apply_all}
use Rattle.format.specs.Index.{placed_act, placed_from}
use Rattle.format.proofs.Tags.{length_size, low_size, of_valid}
use Rattle.theory.specs.Walk.Step.{both_true}
use Rattle.theory.specs.Log.Committed.{committed_split, committed_twice}
use Rattle.theory.specs.Directory.Machine.{most_slots, AllAllowed, Inside, find_dir}
use Rattle.theory.specs.Directory.Acts.{dir_rev}
use Rattle.theory.specs.Directory.Types.{act_check}
use Rattle.theory.specs.Back.WalkBack.{back_log}
use Rattle.theory.specs.Back.EventBytes.{Stands, log_stands, chains}
use Rattle.theory.specs.Back.BackActs.{seen_as, Topless, back_without_top, map_reverse_aux}
use Rattle.theory.specs.Lookup.SlotCount.{allowed_newest}
use Rattle.theory.specs.Lookup.Masks.{Query}
use Rattle.theory.specs.Lookup.ByMask.{Alike, holds_as, Shapes, wlook_as}
use Rattle.theory.specs.Lookup.OnBlock.{RegularLog, check_one, shapes_rev, shapes_without_top, last_check, few_rev}
use Rattle.theory.specs.Rules.RuledEntry.{ruled, rule_says}
use Rattle.theory.specs.Commit.Tested.{regular_log}
use Rattle.index_theory.specs.Ran.{Placing, placing}

-- ---- what is read at a place: the entry's size, and where its data begin
abbrev pub place_at : Met → List ℕ
place_at m = tag_size m.tag ∷ (m.off + 4) ∷ []

abbrev pub place_of : Found → List ℕ
place_of e = data_size e ∷ e.off ∷ []

place_alike : Alike place_at place_of
place_alike m w kept =
    let e : tag_length m.tag - 4 ≡ tag_size m.tag =
    omega (arith, length_size m.tag (eqb-false (tag_size m.tag) removal_size kept)) in
    ap (λ (n : ℕ). n ∷ (m.off + 4) ∷ []) e

place_topless : Topless place_at
place_topless t off = ap (λ (n : ℕ). n ∷ (off + 4) ∷ []) (sym (low_size t))

-- ---- the events of a log, as they are met
seen_placed : (es : List Event) (off : ℕ) → Stands es → map (seen_as place_at) (places off es) ≡ placed_from off es
unfolding seen_as places placed_from placed_act
seen_placed [] off st = refl
seen_placed (ent t d ∷ es) off st = ap (λ (l : List Act). act t (tag_size t ∷ (off + 4) ∷ []) ∷ l)
    (seen_placed es (off + tag_length t) st.1)
seen_placed (chk t c ∷ es) off st =
    ap₂ (λ (x : Act) (y : List Act). x ∷ y) (act_check t (tag_size t ∷ (off + 4) ∷ []) st.0.1)
    (seen_placed es (off + tag_length t) st.1)
seen_placed (inv ∷ es) off st = absurd st

shapes_placed : (es : List Event) (off : ℕ) (g : Bool) (c : ℕ) → Stands es → regular_from g c es ≡ true
    → Shapes place_at (places off es)
unfolding regular_from seen_as places
shapes_placed [] off g c st h = tt
shapes_placed (ent t d ∷ es) off g c st h =
    let R : Rule = rule_of true (tag_type3 t) in
    let n : ℕ = count_raised g R c (tag_id t) in
    let r = both_true (rule_holds R n (tag_id t) (tag_size t)) (regular_from (grows_after g R) (count_after R n) es) h in
    let u = ruled g R c t (tag_size t ∷ (off + 4) ∷ []) (rule_says (tag_type3 t) true) r.0 in
    (u.shape st.0.0, shapes_placed es (off + tag_length t) (grows_after g R) (count_after R n) st.1 r.1)
shapes_placed (chk t x ∷ es) off g c st h =
    let r = both_true (between 4 1_022 (tag_size t)) (regular_from g c es) h in (
      rw (act_check t (tag_size t ∷ (off + 4) ∷ []) st.0.1) (check_one t st.0.1),
      shapes_placed es (off + tag_length t) g c st.1 r.1,
    )
shapes_placed (inv ∷ es) off g c st h = absurd st

-- ---- a block with a regular log
module _ (b : List ℕ) (regular : Regular Littlefs (log b) ≡ true) where
  -- the directory of its places
  abbrev pub placed_dir : List Slot
  placed_dir = apply_all [] (placed_from 4 (log b))

  pub placings : Placing true 0 (placed_from 4 (log b))
  unfolding Regular
  placings = placing (log b) 4 true 0 (log_stands b) (omega arith) regular

  whole : RegularLog (log b)
  whole = regular_log b (log b) refl regular

  pub placed_few : length placed_dir ≤ most_slots
  unfolding dir
  placed_few = rw (← dir_rev (placed_from 4 (log b)) []) (few_rev true (placed_from 4 (log b)) [] placings.allowed
      placings.few (omega arith) tt).1

  -- it finds what stands under class c of slot i
  pub placed_lookup : log b ≢ [] → (mask T c s i : ℕ) → Query mask T c → s < 2 ^ 10 → i < length placed_dir
      → holds_as place_of (wlook true mask (tag_of T i s) 0 (back b (log_end (log b)) (log_end_tag (log b))))
      ≡ get_or placed_dir i empty c
  unfolding dir log walk Regular
  placed_lookup nonempty mask T c s i q hs hi =
      let es : List Event = log b in
      let L : List Act = placed_from 4 es in
      let sp = committed_split (walk_from (crc all_ones (take 4 b)) all_ones (drop 4 b)) in
      let twice : committed es ≡ es = committed_twice (walk_from (crc all_ones (take 4 b)) all_ones (drop 4 b)) in
      let ch = chains es sp.0 (crc all_ones (take 4 b)) all_ones b 4 sp.1 whole.base.reg in
      let bl : back b (log_end es) (log_end_tag es % 2 ^ 31) ≡ reverse (places 4 es) = back_log es b ch.0 in
      let ck : is_check (log_end_tag es % 2 ^ 31) ≡ true =
      last_check es b 4 all_ones twice (λ z. absurd (nonempty z)) ch.0
      ch.2 in
      let sh : Shapes place_at (back b (log_end es) (log_end_tag es))
      = shapes_without_top place_at b (log_end es) (log_end_tag es) ck
      (rw bl (shapes_rev place_at (places 4 es) [] (shapes_placed es 4 true 0 (log_stands b) regular) tt)) in
      let ms : map (seen_as place_at) (back b (log_end es) (log_end_tag es)) ≡ reverse L
      = back_without_top place_at place_topless b (log_end es) (log_end_tag es) ∙ ap (map (seen_as place_at)) bl
      ∙ map_reverse_aux (seen_as place_at) (places 4 es) [] ∙ ap reverse (seen_placed es 4 (log_stands b)) in
      let rules : AllAllowed true (reverse L) = allowed_newest true L placings.allowed in
      let low = few_rev true L [] placings.allowed placings.few (omega arith) tt in
      let is : dir (reverse L) ≡ placed_dir = dir_rev L [] in
      let there : Inside true i (reverse L) = inl (rw is hi) in
      let few : length placed_dir ≤ most_slots = placed_few in
      let small : tag_of T i s < 2 ^ 31 = of_valid T i s q.0 (omega arith) hs in
      let key : minus32 (tag_of T i s) 0 ≡ tag_of T i s = omega arith in
      let f =
      wlook_as place_at place_of place_alike mask T c s i q hs (omega arith) true (back b (log_end es) (log_end_tag es)) 0
      i (omega arith) sh (rw ms rules) (rw ms low.0) (omega arith) (rw ms there) key in
      f.0 ∙ rw ms (find_dir true (reverse L) c i rules there ∙ ap (λ (D : List Slot). get_or D i empty c) is)
