-- `index_table::shift_ids` meets its contract. The loop keeps what is still to be shifted. Assumes nothing.
use Rattle.std.proofs.Common.{refl, ◌∙◌, arith}
use Rattle.index_table.proofs.Moves.{to_shift, shift_turn, shift_end}
use Rattle.index_table.proofs.shift_ids.Goals as goal

pub loop-i-init : goal.loop-i-init
unfolding to_shift
loop-i-init c = refl

pub loop-i-preserved : goal.loop-i-preserved
loop-i-preserved c = shift_turn c.args.by c.loop-i.part c.loop-i.i (omega arith) ∙ c.loop-i.invariant

pub returns : goal.returns
returns c = shift_end c.args.by c.loop-i.part c.loop-i.i (omega arith) ∙ c.loop-i.invariant
