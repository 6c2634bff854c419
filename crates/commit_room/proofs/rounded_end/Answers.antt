-- `commit_room::rounded_end` meets its contract: what is above the multiple is the remainder. Assumes nothing.
use native.Mathlib.Nat.{mod-le}
use Rattle.commit_room.proofs.Ends.{end_is}
use Rattle.commit_room.proofs.rounded_end.Goals as goal

pub overflow_sub-result : goal.overflow_sub-result
overflow_sub-result c = mod-le _ _

pub returns : goal.returns
returns c = end_is c.args.prog c.args.at c.requires
