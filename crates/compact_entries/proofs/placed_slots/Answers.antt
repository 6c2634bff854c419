-- `compact_entries::placed_slots` meets its contract. The loop keeps where all slots end, from here, and that the
-- places
-- of the slots to come stand from `at` on (`Passing`). Assumes nothing.
use mathlib.Core.Path.{refl}
use native.Mathlib.Omega.{arith}
use Rattle.compact_entries.proofs.Placed.{passes, all_passed, slot_placed, slot_end, slot_passed}
use borrow.Author.Rules.{rules}
use Rattle.compact_entries.proofs.placed_slots.Goals as goal

pub loop-id-init : goal.loop-id-init
loop-id-init c = (
  omega arith,
  omega (arith, c.requires.small),
  refl,
  passes _ _ _ _ c.requires _,
)

pub placed_slot-part-requires : goal.placed_slot-part-requires
placed_slot-part-requires c = slot_placed _ _ _ _ c.requires _ _ _ _
    c.loop-id.invariant.3 c.loop-id-test.true _ c.loop-id.invariant.1

pub loop-id-preserved : goal.loop-id-preserved
loop-id-preserved c =
    let p = c.requires in
    let k = c.loop-id.invariant.3 in
    let more = c.loop-id-test.true in
    let r = c.placed_slot-part.ensures in (
      omega arith,
      omega (arith, slot_end _ _ _ _ p _ _ _ _ k more _ r.after _ r.at_value),
      search rules,
      slot_passed _ _ _ _ p _ _ _ _ k more _ r.after _ r.at_value,
    )

pub returns : goal.returns
returns c = all_passed _ _ _ _ c.requires _ _ _ _ c.loop-id.invariant.3
    c.loop-id-test.false
