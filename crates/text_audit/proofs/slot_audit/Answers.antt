-- Either line and its count, or nothing. Assumes nothing.
use Rattle.std.proofs.Common.{ap, arith}
use Rattle.format.specs.Audit.{deadline_class}
use Rattle.theory.specs.Lookup.ByMask.{holds}
use Rattle.text_audit.proofs.Steps.{asked, told_there, tells_deadline, tells_payload, slot_no_deadline}
use Rattle.text_audit.proofs.Steps.{slot_no_payload, slot_whole}
use Rattle.text_audit.proofs.slot_audit.Goals as goal

pub deadline_line-requires-clause-attribute_in : goal.deadline_line-requires-clause-attribute_in
deadline_line-requires-clause-attribute_in c =
    rw c.found-attribute.ensures (c.requires.all_inside deadline_class (omega arith))

pub returns-then-instruction-payload : goal.returns-then-instruction-payload
returns-then-instruction-payload c =
    let k = asked _ _ _ _ _ _ _ c.requires.all_inside c.found-name.ensures c.found.ensures c.found-attribute.ensures
    c.is_instruction-instruction.ensures c.is_payload-payload.ensures in
    slot_no_deadline _ _ _ _ _ _ (ap (holds _) k.name) _ (tells_deadline _ _ _ _ _ _ _ k _ c.is_deadline.ensures)
    c.if-instruction-payload.true _ (ap (holds _) k.attribute) c.deadline_line.ensures

pub returns-then-instruction-is_some : goal.returns-then-instruction-is_some
returns-then-instruction-is_some c =
    let k = asked _ _ _ _ _ _ _ c.requires.all_inside c.found-name.ensures c.found.ensures c.found-attribute.ensures
    c.is_instruction-instruction.ensures c.is_payload-payload.ensures in
    slot_no_payload _ _ _ _ _ _ (ap (holds _) k.name) _ (tells_deadline _ _ _ _ _ _ _ k _ c.is_deadline.ensures) _
    (tells_payload _ _ _ _ _ _ _ k _ (told_there _ _ c.is_some.ensures)) c.if-instruction-payload.false
    c.if-instruction-is_some.true c.lack_line.ensures

pub returns : goal.returns
returns c =
    let k = asked _ _ _ _ _ _ _ c.requires.all_inside c.found-name.ensures c.found.ensures c.found-attribute.ensures
    c.is_instruction-instruction.ensures c.is_payload-payload.ensures in
    slot_whole _ c.args.text.now _ _ _ _ (ap (holds _) k.name) _ (tells_deadline _ _ _ _ _ _ _ k _ c.is_deadline.ensures) _
    (tells_payload _ _ _ _ _ _ _ k _ (told_there _ _ c.is_some.ensures)) c.if-instruction-payload.false
    c.if-instruction-is_some.false
