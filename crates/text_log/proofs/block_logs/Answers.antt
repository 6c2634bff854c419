-- Nothing, or both blocks. Assumes nothing.
use Rattle.std.proofs.Common.{sym, ◌∙◌}
use Rattle.format.specs.RawLog.{block_logs}
use Rattle.text.proofs.Joined.{puts_none, puts_both}
use Rattle.text_log.proofs.PairShown.{halves_reached}
use Rattle.text_log.proofs.block_logs.Goals as goal

pub returns-then-not-is_shown : goal.returns-then-not-is_shown
returns-then-not-is_shown c = rw (sym c.is_shown.ensures ∙ c.if-not-is_shown.true) (puts_none _)

pub block_log-requires : goal.block_log-requires
block_log-requires c =
    rw c.split_at.ensures.front (halves_reached _ (sym c.is_shown.ensures ∙ c.if-not-is_shown.false)).0

pub block_log-requires-2 : goal.block_log-requires-2
block_log-requires-2 c =
    rw c.split_at.ensures.back (halves_reached _ (sym c.is_shown.ensures ∙ c.if-not-is_shown.false)).1

pub returns : goal.returns
unfolding block_logs
returns c =
    rw (sym c.is_shown.ensures ∙ c.if-not-is_shown.false, ← c.split_at.ensures.front, ← c.split_at.ensures.back)
    (puts_both _ _ _ _ _ c.block_log.ensures c.block_log-2.ensures)
