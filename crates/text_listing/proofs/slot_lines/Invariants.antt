-- As far as the loop has come. Assumes nothing.
use Rattle.std.proofs.Common.{take}
use Rattle.format.specs.Log.{log}
use Rattle.format.specs.Directory.{dir_of}
use Rattle.format.specs.Listing.{slot_lines}
use Rattle.text.specs.Put.{Puts}
use Rattle.text_listing.proofs.slot_lines.Given as goal

abbrev pub invariant-loop-id : goal.invariant-loop-id
invariant-loop-id l = Puts l.initial.text l.text (slot_lines 0 (take l.id (dir_of (log l.b))))
