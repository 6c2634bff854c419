-- `compact_entries::slots` meets its contract. The loop keeps where all slots end, from here. Assumes nothing.
use mathlib.Core.Path.{refl}
use native.Mathlib.Omega.{arith}
use borrow.Author.Rules.{rules}
use Rattle.compact_entries.proofs.Joined.{slot_within}
use Rattle.compact_entries.proofs.Written.{dir_slot, dir_done}
use Rattle.compact_slot.proofs.Slots.{slots_few, slot_gathers, slot_holds, slots_more, slots_end}
use Rattle.compact_entries.proofs.slots.Goals as goal

pub loop-id-init : goal.loop-id-init
loop-id-init c = (omega arith, omega (arith, c.requires.small), refl, refl)

pub gather_into-requires : goal.gather_into-requires
gather_into-requires c = slot_gathers _ _ _ _ c.requires.slots _ (omega arith)

pub slot-w-requires : goal.slot-w-requires
slot-w-requires c = record {
  inside = c.gather_into.ensures.inside;
  named = c.gather_into.ensures.named;
  slot = omega (
    arith,
    slots_few _ _ _ _ c.requires.slots,
  );
  small = omega (
    arith,
    slots_few _ _ _ _ c.requires.slots,
  );
}

pub loop-id-preserved : goal.loop-id-preserved
loop-id-preserved c =
    let s = c.requires.slots in
    let more = c.loop-id-test.true in (
      omega arith,
      omega (
        arith,
        slot_within _ _ c.loop-id.id _
            c.slot-w.ensures,
      ),
      search rules,
      dir_slot _ _ _ _ _ _ (slots_more _ _ _ _ s _ more)
          (slot_holds _ _ _ _ s _ _ more c.gather_into.ensures) c.loop-id.invariant.3 c.slot-w.ensures,
    )

pub returns : goal.returns
returns c = dir_done _ _ _ c.loop-id.id (slots_end _ _ _ _ c.requires.slots _
    c.loop-id-test.false) c.loop-id.invariant.3
