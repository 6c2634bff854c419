-- `find_set::remove` meets its contract. The words that the loop has passed are moved, and the others as at entry; the
-- carry is the lowest digit of the last that it passed, as it was. Assumes nothing.
use Rattle.std.proofs.Common.{◌≡◌, ◌+◌, ◌-◌, ◌*◌, ◌/◌, arith}
use Rattle.find_set.proofs.Words.{moved_start}
use Rattle.find_set.proofs.Moves.{down_start, down_turn, down_carry, down_end}
use Rattle.find_set.proofs.remove.Goals as goal

pub loop-i-init : goal.loop-i-init
loop-i-init c = (omega arith, omega arith, down_start _ c.told-words, moved_start _ _ c.told-words)

pub loop-i-preserved : goal.loop-i-preserved
loop-i-preserved c =
    let loop = c.loop-i in
    let i = loop.i - 1 in
    let next : loop.i ≡ i + 1 = omega arith in
    let up : loop.i * 32 ≡ i * 32 + 32 = omega arith in
    let moved = rw next at loop.invariant.3 in
    let carry = rw up at loop.invariant.2 in (
      omega arith,
      omega arith,
      down_carry _ _ _ _ _ moved loop.invariant.1 carry (c.fits-words i) _ (omega arith),
      down_turn _ _ _ _ _ moved loop.invariant.1 carry (c.fits-words i) _ (omega arith) (omega arith) (omega arith) _
          c.close_word.ensures,
    )

pub returns : goal.returns
returns c =
    let loop = c.loop-i in
    let i = c.args.id / 32 in
    let next : loop.i ≡ i + 1 = omega arith in
    let up : loop.i * 32 ≡ i * 32 + 32 = omega arith in
    down_end _ _ _ i _ (rw next at loop.invariant.3) loop.invariant.1 (rw up at loop.invariant.2) (c.fits-words i)
    (omega arith) (omega arith) _ c.close_word-2.ensures
