-- The loop keeps that a walk over what is left, from where the pass is, is a walk over all. Assumes nothing.
use Rattle.std.proofs.Common.{drop}
use Rattle.commit.specs.Passes.{Walked}
use Rattle.commit.proofs.each.Given as goal

abbrev pub invariant-loop-e : goal.invariant-loop-e
invariant-loop-e g l =
    (r : _) (q : _) → Walked g.P.Pass.steps l.dat (drop l.e-index l.entries) l.pass r q
    → Walked g.P.Pass.steps l.dat l.entries l.initial.pass r q
