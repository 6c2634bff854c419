-- `find_set::insert` meets its contract. The words that the loop has passed are moved, and the others as at entry.
-- Assumes nothing.
use Rattle.std.proofs.Common.{◌≡◌, ◌+◌, ◌-◌, ◌/◌, arith}
use Rattle.find_set.proofs.Words.{moved_start}
use Rattle.find_set.proofs.Moves.{up_turn, up_end}
use Rattle.find_set.proofs.insert.Goals as goal

pub loop-i-init : goal.loop-i-init
loop-i-init c = (omega arith, moved_start _ _ c.told-words)

pub loop-i-preserved : goal.loop-i-preserved
loop-i-preserved c =
    let loop = c.loop-i in
    let next : loop.i ≡ loop.i - 1 + 1 = omega arith in (
      omega arith,
      up_turn _ _ _ (loop.i - 1) (rw next at loop.invariant.1) _ (omega arith) (omega arith) (omega arith)
          (omega (arith, loop.invariant.1.rest (loop.i - 1 - 1) (omega arith), c.fits-words (loop.i - 1 - 1)))
          _ c.open_word.ensures,
    )

pub returns : goal.returns
returns c =
    let next : c.loop-i.i ≡ c.args.id / 32 + 1 = omega arith in
    up_end _ _ _ _ (rw next at c.loop-i.invariant.1) (omega arith) (omega arith) _ c.open_word-2.ensures
