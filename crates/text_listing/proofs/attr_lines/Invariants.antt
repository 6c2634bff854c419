-- As far as the loop has come. Assumes nothing.
use Rattle.std.proofs.Common.{◌-◌}
use Rattle.format.specs.Listing.{attr_lines}
use Rattle.text.specs.Put.{Puts}
use Rattle.compact_slot.specs.Slots.{slot_in}
use Rattle.text_listing.proofs.attr_lines.Given as goal

abbrev pub invariant-loop-class : goal.invariant-loop-class
invariant-loop-class l = Puts l.initial.text l.text (attr_lines (l.class - 2) 2 l.id (slot_in l.b l.seats))
