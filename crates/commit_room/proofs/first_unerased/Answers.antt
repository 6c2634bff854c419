-- `commit_room::first_unerased` meets its contract. The loop keeps which byte from here on is the first that isn't
-- erased. Assumes nothing.
use Rattle.std.proofs.Common.{◌≡◌, sym, ◌∙◌, arith}
use Rattle.commit_room.proofs.Cleared.{unerased_end, unerased_on, unerased_here}
use Rattle.commit_room.proofs.first_unerased.Goals as goal

pub loop-i-init : goal.loop-i-init
loop-i-init c = (sym c.past_eights-at.ensures, omega arith)

pub returns-then-b-i : goal.returns-then-b-i
returns-then-b-i c = unerased_here _ _ _ c.loop-i-test.true c.if-b-i.true ∙ sym c.loop-i.invariant.0

pub loop-i-preserved : goal.loop-i-preserved
loop-i-preserved c =
    (c.loop-i.invariant.0 ∙ unerased_on _ _ _ c.loop-i-test.true c.if-b-i.false, omega arith)

pub returns : goal.returns
returns c =
    let e : c.max.result ≡ c.loop-i.i = omega arith in
    e ∙ unerased_end _ _ _ c.loop-i-test.false ∙ sym c.loop-i.invariant.0
