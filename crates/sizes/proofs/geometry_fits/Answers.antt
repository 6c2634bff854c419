-- `sizes::geometry_fits` meets its contract: a program size of 0 is no divisor, and the other tests stand as they are.
-- Assumes nothing.
use borrow.Author.Tests.{le-leb, lt-leb}
use Rattle.format.specs.Fetch.{geometry_fits}
use Rattle.sizes.proofs.geometry_fits.Goals as goal

pub returns-then-prog-lt4 : goal.returns-then-prog-lt4
unfolding geometry_fits
returns-then-prog-lt4 c = simp (lt-leb _ _ c.if-prog-lt4.true)

pub returns : goal.returns
unfolding geometry_fits
returns c = simp (le-leb _ _ c.if-prog-lt4.false)
