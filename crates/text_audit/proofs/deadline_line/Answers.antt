-- A deadline that can't be read is of as many bytes as stand behind its tag. Assumes nothing.
use Rattle.format.proofs.Searched.{hit_in, bytes_length}
use Rattle.format.specs.Audit.{deadline_line}
use Rattle.theory.specs.Lookup.ByMask.{holds}
use Rattle.text.proofs.Joined.{puts_both}
use Rattle.text_audit.proofs.deadline_line.Goals as goal

pub returns : goal.returns
unfolding deadline_line holds
returns c =
    rw (c.in-Some.is, bytes_length _ _ (hit_in _ _ c.requires.attribute_in c.in-Some.is))
    (puts_both _ _ _ _ _ c.lack_line-2.ensures (puts_both _ _ _ _ _ c.decimal.ensures c.puts.ensures))
