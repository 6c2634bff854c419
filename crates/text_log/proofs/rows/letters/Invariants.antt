-- As far as the loop has come. Assumes nothing.
use Rattle.std.proofs.Common.{take}
use Rattle.format.specs.RawLog.{letters}
use Rattle.text.specs.Put.{Puts}
use Rattle.text_log.proofs.rows.letters.Given as goal

abbrev pub invariant-loop-b : goal.invariant-loop-b
invariant-loop-b l = Puts l.initial.text l.text (letters (take l.b-index l.bytes))
