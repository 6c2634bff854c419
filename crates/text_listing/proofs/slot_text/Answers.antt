-- The seats of the struct. Assumes nothing.
use Rattle.std.proofs.Common.{arith}
use Rattle.text_listing.proofs.slot_text.Goals as goal

pub struct_fields-requires : goal.struct_fields-requires
struct_fields-requires c = rw c.found-2.ensures (c.requires 1 (omega arith))
