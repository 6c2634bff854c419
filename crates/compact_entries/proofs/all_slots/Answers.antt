-- `compact_entries::all_slots` meets its contract, either way. Assumes nothing.
use Rattle.std.proofs.Common.{ap}
use Rattle.std.specs.Prelude.{option_copied}
use Rattle.compact_entries.proofs.Placed.{indexed_placed}
use Rattle.compact_entries.proofs.all_slots.Goals as goal

pub placed_slots-requires : goal.placed_slots-requires
placed_slots-requires c = indexed_placed _ _ _ _ _ _ _ c.requires.0 c.requires.1 (ap option_copied c.in-Some.is)
