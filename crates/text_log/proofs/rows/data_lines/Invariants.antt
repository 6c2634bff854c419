-- Where the lines that are left end, all of them end. Assumes nothing.
use Rattle.std.proofs.Common.{◌≡◌, ◌+◌, ◌-◌, ◌≤◌, length}
use Rattle.format.specs.RawLog.{data_lines}
use Rattle.text.specs.declared.Text.{Text}
use Rattle.text.specs.Put.{Puts}
use Rattle.text_log.proofs.rows.data_lines.Given as goal

abbrev pub invariant-loop-rest : goal.invariant-loop-rest
invariant-loop-rest l = (l.place ≤ l.at) × (length l.rest ≡ l.place + length l.bytes - l.at)
    × ((u : Text) → Puts l.text u (data_lines 64 l.at l.rest) → Puts l.initial.text u (data_lines 64 l.place l.bytes))

abbrev pub decreases-loop-rest : goal.decreases-loop-rest
decreases-loop-rest l = length l.rest
