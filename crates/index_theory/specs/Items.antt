-- The entries that a compaction writes, from the places of a table: each place's tag and the bytes that it names are
-- the entry of what the slot holds there. Assumes nothing.
use Rattle.std.specs.Prelude.{◌≡◌, ◌≢◌, Bool, length, take, drop, get_or, None, Option, Some}
use Rattle.std.proofs.Math.Path.{refl, sym, ap₂}
use Rattle.std.proofs.Common.{ap, ◌∙◌, arith}
use Rattle.std.proofs.Math.Bool.{true}
use mathlib.Core.List.{List, [], ◌∷◌, ◌++◌}
use Prim.Native.Nat.{ℕ, zero, suc, ◌+◌, ◌-◌, ◌≤◌, ◌<◌}
use Rattle.format.specs.Tag.{tag_type3, tag_id, tag_size, tag_length, tag_of}
use Rattle.format.specs.Kind.{type_name, type_dir_struct, type_user_attr}
use Rattle.format.specs.Walk.{Event, ent, chk, inv}
use Rattle.format.specs.Log.{log, log_end, log_end_tag}
use Rattle.format.specs.Back.{back}
use Rattle.format.specs.Look.{data_size, FoundIn, HitIn, wlook, mask_type1, mask_type3}
use Rattle.format.specs.Regular.{Rule, rule_of, between, rule_holds, count_after, grows_after, count_raised, regular_from}
use Rattle.format.specs.Regular.{Regular}
use Rattle.format.specs.declared.Rules.TheVariants.{Littlefs}
use Rattle.format.specs.declared.Found.{Found}
use Rattle.format.specs.Directory.{classes, Load, empty, acts, dir_of}
use Rattle.format.specs.Commit.{Item}
use Rattle.format.specs.Compaction.{class_items, slot_items}
use Rattle.format.specs.Index.{placed_act, placed_from, class_places, slot_places}
use Rattle.format.proofs.Tags.{of_length}
use Rattle.format.proofs.Searched.{bytes_length}
use Rattle.theory.specs.Walk.Step.{both_true}
use Rattle.theory.specs.Back.EventBytes.{Stands, log_stands}
use Rattle.theory.specs.Lookup.SlotCount.{slots_after, slots_after_all, slots_all, length_dir_of}
use Rattle.theory.specs.Lookup.SlotSearch.{log_inside}
use Rattle.theory.specs.Lookup.Masks.{Query, query_name, query_struct, query_attr}
use Rattle.theory.specs.Lookup.ByMask.{holds, holds_as}
use Rattle.theory.specs.Lookup.AtStart.{back_in, wlook_in}
use Rattle.theory.specs.Lookup.OnBlock.{RegularLog, regular_searchable, block_lookup}
use Rattle.theory.specs.Rules.RuledEntry.{ruled, rule_says}
use Rattle.theory.specs.Commit.Tested.{regular_log}
use Rattle.index_theory.specs.Looked.{place_of, placed_dir, placings, placed_lookup}

-- ---- a place as an entry: its tag, and the bytes that it names in the block
abbrev pub place_item : List ℕ → ℕ → ℕ → Item
place_item b t o = record { tag = t; body = take (tag_length t - 4) (drop o b) }

unfoldable pub place_items : List ℕ → List ℕ → List Item
place_items b [] = []
place_items b (x ∷ []) = []
place_items b (t ∷ o ∷ P) = place_item b t o ∷ place_items b P

-- each is no removal, and its bytes stand whole in a block's first n
abbrev pub PlacesIn : ℕ → List ℕ → Type 0
PlacesIn n [] = Unit {0}
PlacesIn n (x ∷ []) = Unit {0}
PlacesIn n (t ∷ o ∷ P) = FoundIn n (record { tag = t; length = tag_length t; off = o }) × PlacesIn n P

-- what was found, as what it holds and as a place
found_long : (n id : ℕ) (e : Found) → FoundIn n e
    → tag_length (tag_of (tag_type3 e.tag) id (data_size e)) ≡ 4 + data_size e
found_long n id e w = of_length (tag_type3 e.tag) id (data_size e) w.kept

class_in : (n id : ℕ) (h : Option Found) → HitIn n h → PlacesIn n (class_places id (holds_as place_of h))
unfolding holds_as
class_in n id None w = tt
class_in n id (Some e) w =
    let l = found_long n id e w in (
      record {
        counted = omega (arith, l);
        kept = omega (arith, l, w.kept);
        inside = omega (arith, l, w.inside);
      },
      tt,
    )

class_same : (b : List ℕ) (id : ℕ) (h : Option Found) → HitIn (length b) h
    → class_items id (holds b h) ≡ place_items b (class_places id (holds_as place_of h))
unfolding holds holds_as place_items
class_same b id None w = refl
class_same b id (Some e) w =
    let n : tag_length (tag_of (tag_type3 e.tag) id (data_size e)) - 4 ≡ data_size e =
    omega (arith, found_long (length b) id e w) in
    rw (bytes_length b e w, n)

-- ---- both directories of a regular log have as many slots
counts : (es : List Event) (off : ℕ) (g : Bool) (c : ℕ) → Stands es → regular_from g c es ≡ true
    → slots_after_all c (placed_from off es) ≡ slots_after_all c (acts es)
unfolding regular_from placed_from placed_act acts slots_after_all slots_after
counts [] off g c st h = refl
counts (ent t d ∷ es) off g c st h =
    let R : Rule = rule_of true (tag_type3 t) in
    let n : ℕ = count_raised g R c (tag_id t) in
    let r = both_true (rule_holds R n (tag_id t) (tag_size t)) (regular_from (grows_after g R) (count_after R n) es) h in
    let u = ruled g R c t (tag_size t ∷ (off + 4) ∷ []) (rule_says (tag_type3 t) true) r.0 in
    let w = ruled g R c t d (rule_says (tag_type3 t) true) r.0 in
    ap (λ (k : ℕ). slots_after_all k (placed_from (off + tag_length t) es)) u.slots
    ∙ counts es (off + tag_length t) (grows_after g R) (count_after R n) st.1 r.1
    ∙ sym (ap (λ (k : ℕ). slots_after_all k (acts es)) w.slots)
counts (chk t x ∷ es) off g c st h =
    counts es (off + tag_length t) g c st.1 (both_true (between 4 1_022 (tag_size t)) (regular_from g c es) h).1
counts (inv ∷ es) off g c st h = absurd st

module _ (b : List ℕ) (regular : Regular Littlefs (log b) ≡ true) where
  whole : RegularLog (log b)
  whole = regular_log b (log b) refl regular

  pub placed_count : length (placed_dir b regular) ≡ length (dir_of (log b))
  unfolding Regular
  placed_count = slots_all true (placed_from 4 (log b)) [] (placings b regular).allowed
      ∙ counts (log b) 4 true 0 (log_stands b) regular ∙ sym (length_dir_of (log b) whole.base.rules)

  -- ---- a slot: what it holds, and its places
  module _ (four : 4 ≤ length b) (nonempty : log b ≢ []) (id : ℕ) (hi : id < length (placed_dir b regular)) where
    -- what the search back finds of a class
    record Sought (c : ℕ) : Type 0 where
      hit : Option Found
      inside : HitIn (length b) hit
      load : holds b hit ≡ get_or (dir_of (log b)) id empty c
      place : holds_as place_of hit ≡ get_or (placed_dir b regular) id empty c

    by_query : (mask T c : ℕ) → Query mask T c → Sought c
    by_query mask T c q =
        let es : List Event = log b in
        let inside : log_end es ≤ length b = log_inside b es refl whole.base.reg four in
        record {
          hit = wlook true mask (tag_of T id 0) 0 (back b (log_end es) (log_end_tag es));
          inside = wlook_in (length b) true mask (tag_of T id 0) 0 (back b (log_end es) (log_end_tag es))
              (back_in b (log_end es) (log_end_tag es) (length b) inside);
          load = (block_lookup b es mask T c 0 id refl nonempty (regular_searchable es whole) q (omega arith)
              (omega (arith, placed_count))).0;
          place = placed_lookup b regular nonempty mask T c 0 id q (omega arith) hi;
        }

    by_class : (c : ℕ) → c < classes → Sought c
    by_class zero h = by_query mask_type1 type_name 0 query_name
    by_class (suc zero) h = by_query mask_type1 type_dir_struct 1 query_struct
    by_class (suc (suc u)) h =
        let e : 2 + u ≡ suc (suc u) = omega arith in
        rw e at (by_query mask_type3 (type_user_attr + u) (2 + u) (query_attr u (omega arith)))

    class_items_lem : (c : ℕ) → c < classes → class_items id (get_or (dir_of (log b)) id empty c)
        ≡ place_items b (class_places id (get_or (placed_dir b regular) id empty c))
    class_items_lem c h =
        let x = by_class c h in
        ap (class_items id) (sym x.load) ∙ class_same b id x.hit x.inside
        ∙ ap (λ (v : Option Load). place_items b (class_places id v)) x.place

    class_inside : (c : ℕ) → c < classes → PlacesIn (length b) (class_places id (get_or (placed_dir b regular) id empty c))
    class_inside c h =
        let x = by_class c h in
        rw (← x.place) (class_in (length b) id x.hit x.inside)

    items_app : (v : Option Load) (P : List ℕ) → place_items b (class_places id v ++ P)
        ≡ place_items b (class_places id v) ++ place_items b P
    unfolding place_items
    items_app None P = refl
    items_app (Some v) P = refl

    inside_app : (v : Option Load) (P : List ℕ) → PlacesIn (length b) (class_places id v) → PlacesIn (length b) P
        → PlacesIn (length b) (class_places id v ++ P)
    inside_app None P w k = k
    inside_app (Some v) P w k = (w.0, k)

    slot_same : (n c : ℕ) → c + n ≤ classes → slot_items n c id (get_or (dir_of (log b)) id empty)
        ≡ place_items b (slot_places n c id (get_or (placed_dir b regular) id empty))
    unfolding slot_items slot_places place_items
    slot_same zero c h = refl
    slot_same (suc n) c h =
        ap₂ (λ (x y : List Item). x ++ y) (class_items_lem c (omega arith)) (slot_same n (suc c) (omega arith))
        ∙ sym (items_app (get_or (placed_dir b regular) id empty c) (slot_places n (suc c) id
        (get_or (placed_dir b regular) id empty)))

    slot_within : (n c : ℕ) → c + n ≤ classes
        → PlacesIn (length b) (slot_places n c id (get_or (placed_dir b regular) id empty))
    unfolding slot_places
    slot_within zero c h = tt
    slot_within (suc n) c h = inside_app (get_or (placed_dir b regular) id empty c) (slot_places n (suc c) id
        (get_or (placed_dir b regular) id empty)) (class_inside c (omega arith)) (slot_within n (suc c) (omega arith))

    -- all that it holds, and that it stands whole in the block
    pub slot_items_lem : slot_items classes 0 id (get_or (dir_of (log b)) id empty)
        ≡ place_items b (slot_places classes 0 id (get_or (placed_dir b regular) id empty))
    slot_items_lem = slot_same classes 0 (omega arith)

    pub slot_inside : PlacesIn (length b) (slot_places classes 0 id (get_or (placed_dir b regular) id empty))
    slot_inside = slot_within classes 0 (omega arith)
