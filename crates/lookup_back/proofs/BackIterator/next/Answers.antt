-- `lookup_back::Back::next` meets its contract: the walk is over, or it has met one tag and goes on before it. Assumes
-- nothing.
use mathlib.Core.Path.{refl}
use native.Mathlib.Omega.{arith}
use Rattle.lookup_back.proofs.Step.{placed_at_lem, placed_over, back_word}
use Rattle.lookup_back.proofs.Left.{left_over, left_on}
use Rattle.lookup_back.proofs.BackIterator.next.Goals as goal

pub returns-in_err-at-clause-steps : goal.returns-in_err-at-clause-steps
returns-in_err-at-clause-steps c =
    rw c.from_residual.ensures (left_over c.args.self.now (placed_over _ _ _ c.place.ensures c.in_err-at.was))

pub tag_before-self-requires : goal.tag_before-self-requires
tag_before-self-requires c =
    let e = placed_at_lem _ _ _ _ c.place.ensures c.in_ok-at.was in
    omega (arith, back_word _ _ _ e, c.args.self.now.inside)

pub returns-clause-steps : goal.returns-clause-steps
returns-clause-steps c =
    left_on c.args.self.now _ (placed_at_lem _ _ _ _ c.place.ensures c.in_ok-at.was) _
    c.tag_before-self.ensures _ refl refl refl

pub returns-clause-goes : goal.returns-clause-goes
returns-clause-goes c =
    let e = back_word _ _ _ (placed_at_lem _ _ _ _ c.place.ensures c.in_ok-at.was) in
    record { on = λ f. (tt, tt, omega (arith, e)); keeps = tt; rests = λ f. tt }
