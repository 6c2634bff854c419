-- Each slot is audited behind those before it. Assumes nothing.
use Rattle.std.proofs.Common.{arith}
use Rattle.compact_slot.proofs.Slots.{slots_few, slot_gathers, slot_holds, slots_more}
use Rattle.text_audit.proofs.Steps.{none_yet, few_yet, one_more}
use Rattle.text_audit.proofs.slot_audits.Goals as goal

pub loop-id-init : goal.loop-id-init
loop-id-init c = none_yet _

pub gather-seats-requires : goal.gather-seats-requires
gather-seats-requires c = slot_gathers _ _ _ _ c.requires _ (omega arith)

pub slot_audit-requires-clause-few : goal.slot_audit-requires-clause-few
slot_audit-requires-clause-few c =
    few_yet _ _ _ _ _ c.loop-id.invariant (omega (arith, slots_few _ _ _ _ c.requires))

pub loop-id-preserved : goal.loop-id-preserved
loop-id-preserved c = one_more _ _ _ _ _ c.loop-id.invariant _ _ _ (slots_more _ _ _ _ c.requires _ c.loop-id-test.true)
    (slot_holds _ _ _ _ c.requires _ _ c.loop-id-test.true c.gather-seats.ensures) c.slot_audit.ensures
