-- Where the text of the walk that is left ends, that of the whole walk ends; the block's rest shrinks. Assumes nothing.
use Rattle.std.proofs.Common.{◌-◌, ◌≤◌, length}
use Rattle.text.specs.declared.Text.{Text}
use Rattle.text.specs.Put.{Puts}
use Rattle.text_log.specs.Events.{texts_from}
use Rattle.text_log.proofs.event_texts.Given as goal

abbrev pub invariant-loop-tag : goal.invariant-loop-tag
invariant-loop-tag l = (l.c.at ≤ length l.b)
    × ((u : Text) → Puts l.text u (texts_from l.full l.b l.c) → Puts l.initial.text u (texts_from l.full l.b l.initial.c))

abbrev pub decreases-loop-tag : goal.decreases-loop-tag
decreases-loop-tag l = length l.b - l.c.at
