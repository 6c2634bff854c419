-- `compact_entries::placed_slot` meets its contract. The loop keeps where the slot's places end, from here
-- (`Placing`); the words that are left fall. Assumes nothing.
use mathlib.Core.Path.{refl}
use native.Mathlib.Omega.{arith}
use Rattle.compact_entries.proofs.Placed.{starts, place_small, places_end, places_other, place_inside}
use Rattle.compact_entries.proofs.Placed.{place_next}
use borrow.Author.Rules.{rules}
use Rattle.compact_entries.proofs.placed_slot.Goals as goal

pub create-w-requires : goal.create-w-requires
create-w-requires c = (
  omega (arith, c.requires.small),
  c.requires.slot,
)

pub loop-at-init : goal.loop-at-init
loop-at-init c = (
  refl,
  starts _ _ _ _ _ c.requires _ _ refl
      c.create-w.ensures,
)

pub overflow_sub-places : goal.overflow_sub-places
overflow_sub-places c = c.loop-at.invariant.1.start

pub returns-then-lfs_tag_id-id : goal.returns-then-lfs_tag_id-id
returns-then-lfs_tag_id-id c = let all = places_other _ _ _ _ _ c.requires _ _ refl c.create-w.ensures _ _ c.loop-at.invariant.1 c.loop-at-test.true _
    c.lfs_tag_id.ensures c.if-lfs_tag_id-id.true in record { after = all.0; at_value = all.1 }

pub found_entry-w-requires : goal.found_entry-w-requires
found_entry-w-requires c = (
  place_small _ _ _ _ _ c.requires _ _ refl c.create-w.ensures _ _ c.loop-at.invariant.1,
  place_inside _ _ _ _ _ c.requires _ _ refl c.create-w.ensures _ _ c.loop-at.invariant.1 c.loop-at-test.true _
      c.lfs_tag_id.ensures c.if-lfs_tag_id-id.false _ c.lfs_tag_dsize.ensures,
)

pub overflow_add-at : goal.overflow_add-at
overflow_add-at c = omega (
  arith,
  c.well_formed,
)

pub loop-at-preserved : goal.loop-at-preserved
loop-at-preserved c = (
  search rules,
  place_next _ _ _ _ _ c.requires _ _ refl c.create-w.ensures _ _ c.loop-at.invariant.1 c.loop-at-test.true _
      c.lfs_tag_id.ensures c.if-lfs_tag_id-id.false _ c.lfs_tag_dsize.ensures _
      c.found_entry-w.ensures,
)

pub returns : goal.returns
returns c = let all = places_end _ _ _ _ _ c.requires
    _ _ refl c.create-w.ensures _ _ c.loop-at.invariant.1 c.loop-at-test.false in record { after = all.0; at_value = all.1 }

pub offset_bounds-places-at : goal.offset_bounds-places-at
offset_bounds-places-at c = omega arith

pub bounds-places-at : goal.bounds-places-at
bounds-places-at c = omega arith

pub overflow_add-f : goal.overflow_add-f
overflow_add-f c = omega arith

pub offset_bounds-places-at-in-loop-at : goal.offset_bounds-places-at-in-loop-at
offset_bounds-places-at-in-loop-at c = omega arith

pub bounds-places-at-in-loop-at : goal.bounds-places-at-in-loop-at
bounds-places-at-in-loop-at c = omega arith

pub loop-at-smaller : goal.loop-at-smaller
loop-at-smaller c = omega arith
