-- As far as the loop has come. Assumes nothing.
use Rattle.std.proofs.Common.{take}
use Rattle.text.specs.Put.{Puts}
use Rattle.text.proofs.Text.puts.Given as goal

abbrev pub invariant-loop-b : goal.invariant-loop-b
invariant-loop-b l = Puts l.initial.self l.self ((take l.b-index l.bytes))
