-- As far as the loop has come. Assumes nothing.
use Rattle.std.proofs.Common.{take}
use Rattle.format.specs.Listing.{hex_bytes}
use Rattle.text.specs.Put.{Puts}
use Rattle.text.proofs.Text.hex_bytes.Given as goal

abbrev pub invariant-loop-b : goal.invariant-loop-b
invariant-loop-b l = Puts l.initial.self l.self (hex_bytes (take l.b-index l.bytes))
