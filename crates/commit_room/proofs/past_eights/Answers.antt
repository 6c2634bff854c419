-- `commit_room::past_eights` meets its contract. The loop keeps which byte from here on is the first that isn't erased;
-- the rest shrinks. Assumes nothing.
use mathlib.Core.Path.{refl, sym, ap, ◌∙◌}
use mathlib.Core.Bool.{not}
use native.Mathlib.Omega.{arith}
use Rattle.commit_room.proofs.Cleared.{eight_on}
use Rattle.commit_room.proofs.past_eights.Goals as goal

pub loop-at-init : goal.loop-at-init
loop-at-init c = refl

pub returns-then-b-at-lt8 : goal.returns-then-b-at-lt8
returns-then-b-at-lt8 c = c.loop-at.invariant

pub returns-then-not-all : goal.returns-then-not-all
returns-then-not-all c = c.loop-at.invariant

pub loop-at-preserved : goal.loop-at-preserved
loop-at-preserved c =
    let at = c.before.before.before.before.before.before.before.before.before.before.before in
    sym (eight_on at.args.erased at.args.b.now at.loop-at.at (omega arith) (ap not c.if-not-all.false))
    ∙ at.loop-at.invariant

pub returns : goal.returns
returns c = c.loop-at.invariant

pub loop-at-smaller : goal.loop-at-smaller
loop-at-smaller c = omega arith
