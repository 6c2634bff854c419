-- The slots and the three lines of a regular log. Assumes nothing.
use Rattle.std.proofs.Common.{sym, ◌∙◌}
use Rattle.format.specs.Audit.{block_audit, slots_audit}
use Rattle.text.proofs.Joined.{puts_both}
use Rattle.text_input.proofs.Input.{block_slots}
use Rattle.text_audit.proofs.block_audit.Goals as goal

pub slot_audits-audit-requires : goal.slot_audits-audit-requires
slot_audits-audit-requires c = block_slots _ _ _ _ c.args.a.listable c.log_regular.ensures c.if-not-log_regular.false

pub returns : goal.returns
unfolding block_audit slots_audit
returns c =
    let s = block_slots _ _ _ _ c.args.a.listable c.log_regular.ensures c.if-not-log_regular.false in
    let z = c.slot_audits-audit.ensures in
    rw (sym c.log_regular.ensures ∙ c.if-not-log_regular.false, ← z.deadline, ← z.payload, ← s.count')
    (puts_both _ _ _ _ _ z.lines c.total_lines.ensures)
