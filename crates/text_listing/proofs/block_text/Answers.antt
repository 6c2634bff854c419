-- A regular log has slots. Assumes nothing.
use Rattle.text_input.proofs.Input.{block_slots}
use Rattle.text_listing.proofs.block_text.Goals as goal

pub slot_lines-requires : goal.slot_lines-requires
slot_lines-requires c = block_slots _ _ _ _ c.args.a.listable c.log_regular.ensures c.if-not-log_regular.false
