-- Each slot is shown behind those before it. Assumes nothing.
use Rattle.std.proofs.Common.{arith}
use Rattle.format.specs.Listing.{slot_lines}
use Rattle.compact_slot.proofs.Slots.{slot_gathers, slot_holds, slots_more}
use Rattle.text.proofs.Joined.{puts_none}
use Rattle.text_input.proofs.Slots.{slots_each}
use Rattle.text_listing.proofs.Loops.{slots_shown}
use Rattle.text_listing.proofs.slot_lines.Goals as goal

pub loop-id-init : goal.loop-id-init
unfolding slot_lines
loop-id-init c = puts_none _

pub gather-seats-requires : goal.gather-seats-requires
gather-seats-requires c = slot_gathers _ _ _ _ c.requires _ (omega arith)

pub loop-id-preserved : goal.loop-id-preserved
loop-id-preserved c = slots_each _ _ slots_shown _ _ _ _ _ _ (slots_more _ _ _ _ c.requires _ c.loop-id-test.true)
    (slot_holds _ _ _ _ c.requires _ _ c.loop-id-test.true c.gather-seats.ensures) c.loop-id.invariant
    c.slot_text.ensures
