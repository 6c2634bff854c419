-- Slots from the places of an index: a place, a slot, the directory. Assumes nothing.
use mathlib.Core.Path.{◌≡◌, refl, sym, ap, ◌∙◌}
use mathlib.Core.Logic.{◌≢◌}
use mathlib.Core.Bool.{true}
use Rattle.std.specs.Prelude.{Option, Some}
use mathlib.Core.List.{List, [], ◌∷◌}
use Prim.Native.Nat.{ℕ, suc, ◌+◌, ◌-◌, ◌*◌, ◌^◌, ◌≤◌, ◌<◌}
use native.Mathlib.Numerals.{add-one, add-two}
use native.Mathlib.Omega.{arith}
use lib.ListN.{length, drop, get_or, length-drop}
use lib.Seq.{drop-cons, drop-drop}
use Rattle.format.specs.Tag.{tag_id, tag_length}
use Rattle.format.specs.Log.{log}
use Rattle.format.specs.Directory.{classes, Slot, empty, dir_of, apply_all}
use Rattle.format.specs.Commit.{Item}
use Rattle.format.specs.Look.{HitIn}
use Rattle.format.specs.Compaction.{slot_items, dir_items}
use Rattle.format.specs.Index.{placed_from, slot_places, dir_places}
use Rattle.theory.specs.Directory.Machine.{most_slots}
use Rattle.index_theory.specs.Looked.{placed_dir, placed_few}
use Rattle.index_theory.proofs.Extended.{placed_fit}
use Rattle.index_theory.specs.Items.{place_items, PlacesIn, placed_count, slot_items_lem, slot_inside}
use Rattle.index_theory.specs.Owned.{own_places, own_more, own_none, own_short, own_fits, own_is, own_behind}
use Rattle.compact_entries.specs.Emitted.{Standing, emitted, emits, create_item, hit_items, Source}
use Rattle.compact_entries.specs.Placed.{SlotPlaced, Placed, Indexes}
use Rattle.compact_entries.specs.declared.Emit.{Emit}
use Rattle.compact_entries.proofs.Joined.{emits_end, entry_within, slot_most, slot_within}
use Rattle.compact_entries.proofs.Written.{slot_created, dir_slot, dir_done}
use Rattle.std.specs.Prelude.{Some}

-- ---- a slot: what its loop keeps, with s behind the create and a before the word `at`
pub record Placing (b : List ℕ) (id : ℕ) (places : List ℕ) (from : ℕ) (s a : Standing) (at : ℕ) : Type 0 where
  pub start : at ≤ length places
  pub inside : PlacesIn (length b) (own_places id (drop at places))
  pub same : emits s (place_items b (own_places id (drop from places)))
      ≡ emits a (place_items b (own_places id (drop at places)))
  pub behind : at + length (own_places id (drop at places)) ≡ from + length (own_places id (drop from places))

module _ (b : List ℕ) (e : Emit) (id : ℕ) (places : List ℕ) (from : ℕ) (p : SlotPlaced b e id places from)
    (o s : Standing) (eo : o.end ≡ e.end) (es : s ≡ emitted o (create_item id)) where
  abbrev own : ℕ → List ℕ
  own at = own_places id (drop at places)

  -- all of the slot's places are behind a and `at`
  abbrev pub Done : Standing → ℕ → Type 0
  Done a at = (a ≡ emits o (create_item id ∷ place_items b (own from))) × (at ≡ from + length (own from))

  pub starts : Placing b id places from s s from
  starts = record { start = p.start; inside = p.inside; same = refl; behind = refl }

  module _ (a : Standing) (at : ℕ) (k : Placing b id places from s a at) where
    -- an end that a word still counts
    pub place_small : a.end < 2 ^ 32
    place_small = omega (
      arith,
      entry_within s o (create_item id) es,
      ap (λ (z : Standing). z.end) k.same,
      emits_end (place_items b (own from)) s,
      emits_end (place_items b (own at)) a,
      p.small,
    )

    -- none is left
    none_left : own at ≡ [] → Done a at
    unfolding emits place_items
    none_left q = (
      sym (slot_created o s id (place_items b (own from)) es ∙ k.same
          ∙ ap (λ (P : List ℕ). emits a (place_items b P)) q),
      omega (arith, k.behind, ap length q),
    )

    pub places_end : length places - at ≤ 1 → Done a at
    places_end h = none_left (own_short id (drop at places) (omega (arith, length-drop at places)))

    module _ (more : 1 < length places - at) where
      abbrev t : ℕ
      t = get_or places at 0

      abbrev off : ℕ
      off = get_or places (at + 1) 0

      here : drop at places ≡ t ∷ off ∷ drop (at + 2) places
      here = drop-cons places at 0 (omega arith)
          ∙ rw (add-one at, add-two at) (ap (λ (P : List ℕ). t ∷ P) (drop-cons places (suc at) 0 (omega arith)))

      -- x is the id that was read
      module _ (x : ℕ) (ex : x ≡ tag_id t) where
        pub places_other : x ≢ id → Done a at
        places_other n = none_left
            (ap (own_places id) here ∙ own_none id t off (drop (at + 2) places) (λ q. n (ex ∙ q)))

        module _ (mine : x ≡ id) (n : ℕ) (en : n ≡ tag_length t) where
          own_here : own at ≡ t ∷ off ∷ own (at + 2)
          own_here = ap (own_places id) here ∙ own_more id t off (drop (at + 2) places) (sym ex ∙ mine)

          both : PlacesIn (length b) (t ∷ off ∷ own (at + 2))
          both = rw own_here at k.inside

          pub place_inside : HitIn (length b) (Some (record { tag = t; length = n; off = off }))
          place_inside = rw en both.0

          pub place_next : (r : Standing)
              → r ≡ emits a (hit_items b (Some (record { tag = t; length = n; off = off })))
              → Placing b id places from s r (at + 2)
          unfolding emits place_items
          place_next r er = record {
            start = omega arith;
            inside = both.1;
            same = k.same ∙ ap (λ (P : List ℕ). emits a (place_items b P)) own_here
                ∙ ap (λ (z : Standing). emits z (place_items b (own (at + 2)))) (sym (er ∙ rw en));
            behind = omega (arith, k.behind, ap length own_here);
          }

-- ---- the directory: what its loop keeps, with s before all slots and a before the slot id, whose places begin at `at`
pub record Passing (b places : List ℕ) (s a : Standing) (id at : ℕ) : Type 0 where
  pub start : at ≤ length places
  pub rest : drop at places ≡ dir_places id (drop id (apply_all [] (placed_from 4 (log b))))
  pub same : emits s (dir_items 0 (dir_of (log b))) ≡ emits a (dir_items id (drop id (dir_of (log b))))

-- what the walk back asks, and the places, are enough
pub indexed_placed : (b places : List ℕ) (e : Emit) (end etag count : ℕ) (x : Option (List ℕ)) → Source b e end etag count
    → Indexes b x → x ≡ Some places → Placed b e count places
indexed_placed b places e end etag count x d i h = record {
  word = d.slots.word;
  regular = d.slots.regular;
  some = d.some;
  count' = d.slots.count';
  places' = rw h at i;
  small = d.small;
}

module _ (b places : List ℕ) (e : Emit) (count : ℕ) (p : Placed b e count places) where
  abbrev D : List Slot
  D = placed_dir b p.regular

  few : length D ≤ most_slots
  few = placed_few b p.regular

  counted : count ≡ length D
  counted = p.count' ∙ sym (placed_count b p.regular)

  pub count_few : count ≤ most_slots
  count_few = omega (arith, few, counted)

  pub passes : (s : Standing) → Passing b places s s 0 0
  passes s = record { start = omega arith; rest = p.places'; same = refl }

  module _ (s a : Standing) (id at : ℕ) (k : Passing b places s a id at) where
    pub all_passed : count ≤ id → a ≡ emits s (dir_items 0 (dir_of (log b)))
    all_passed h = dir_done _ a (dir_of (log b)) id (rw (← p.count') h) k.same

    module _ (more : id < count) where
      there : id < length D
      there = rw (← counted) more

      own_slot : own_places id (drop at places) ≡ slot_places classes 0 id (get_or D id empty)
      own_slot = ap (own_places id) k.rest ∙ own_is D (placed_fit b p.regular) few id there

      own_items : place_items b (own_places id (drop at places)) ≡ slot_items classes 0 id (get_or (dir_of (log b)) id empty)
      own_items = ap (place_items b) own_slot ∙ sym (slot_items_lem b p.regular p.word p.some id there)

      pub slot_placed : (w : Emit) → w.end ≤ 16 + id * 265_734 → SlotPlaced b w id places at
      slot_placed w h = record {
        start = k.start;
        inside = rw own_slot (slot_inside b p.regular p.word p.some id there);
        slot = omega (arith, count_few);
        small = rw own_items (omega (arith, count_few, slot_most classes 0 id (get_or (dir_of (log b)) id empty)));
      }

      -- r stands behind the slot, and q is the word behind its places
      module _ (r : Standing) (er : r ≡ emits a (create_item id ∷ place_items b (own_places id (drop at places)))) (q : ℕ)
          (eq : q ≡ at + length (own_places id (drop at places))) where
        slot_is : r ≡ emits a (create_item id ∷ slot_items classes 0 id (get_or (dir_of (log b)) id empty))
        slot_is = er ∙ ap (λ (is : List Item). emits a (create_item id ∷ is)) own_items

        pub slot_end : r.end ≤ a.end + 265_734
        slot_end = slot_within r a id (get_or (dir_of (log b)) id empty) slot_is

        pub slot_passed : Passing b places s r (id + 1) q
        slot_passed = record {
          start = omega (arith, k.start, own_fits id (drop at places), length-drop at places);
          rest = ap (λ (n : ℕ). drop n places) eq
              ∙ sym (drop-drop (length (own_places id (drop at places))) at places)
              ∙ ap (λ (P : List ℕ). drop (length (own_places id P)) P) k.rest
              ∙ rw (add-one id) (own_behind D (placed_fit b p.regular) few id there);
          same = dir_slot _ a r (dir_of (log b)) id (get_or (dir_of (log b)) id empty) (rw (← p.count') more) (λ c l. refl)
              k.same slot_is;
        }
